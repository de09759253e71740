-- `nearest::distance` meets its contract. Assumes nothing.
use mathlib.Core.Path.{◌∙◌}
use Rattle.float.specs.Point.{dotted}
use Rattle.nearest.proofs.distance.Goals as goal

pub returns : goal.returns
returns c = c.dot.ensures ∙ (λ j. dotted (c.sub-apart.ensures j) (c.sub-apart.ensures j))
