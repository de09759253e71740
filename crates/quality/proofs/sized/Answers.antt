-- `quality::sized` meets its contract.
use mathlib.Core.Path.{◌∙◌}
use Rattle.quality.proofs.Quick.{sized_yes, sized_no}
use Rattle.quality.proofs.sized.Goals as goal

pub returns-then-x : goal.returns-then-x
returns-then-x c = sized_yes c.args.x c.if-x.true

pub returns-else-x : goal.returns-else-x
returns-else-x c = c.if-x.false ∙ sized_no c.args.x c.if-x.false
