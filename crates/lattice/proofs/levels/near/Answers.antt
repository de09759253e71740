-- `lattice::levels::near` meets its contract. Assumes nothing.
use mathlib.Core.Path.{◌∙◌}
use Rattle.lattice.proofs.Choices.{near_test, near_none}
use Rattle.lattice.proofs.levels.near.Goals as goal

pub returns-then-abs-t : goal.returns-then-abs-t
returns-then-abs-t c = c.is_finite.ensures ∙ near_test c.args.t c.args.level c.args.v _ c.abs.ensures.value c.if-abs-t.true

pub returns-else-abs-t : goal.returns-else-abs-t
returns-else-abs-t c = c.if-abs-t.false ∙ near_none c.args.t c.args.level c.args.v _ c.abs.ensures.value c.if-abs-t.false
