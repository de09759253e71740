-- `cuts::edges::level_of` meets its contract. Assumes nothing.
use Rattle.cuts.proofs.Cutting.{upper_level_lem, lower_level_lem}
use Rattle.cuts.proofs.edges.level_of.Goals as goal

pub returns-then-label-eq0 : goal.returns-then-label-eq0
returns-then-label-eq0 c = upper_level_lem c.args.levels.now c.args.label c.if-label-eq0.true

pub returns-else-label-eq0 : goal.returns-else-label-eq0
returns-else-label-eq0 c = lower_level_lem c.args.levels.now c.args.label c.if-label-eq0.false
