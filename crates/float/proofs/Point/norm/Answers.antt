-- `float::Point::norm` meets its contract. Assumes nothing.
use mathlib.Core.Path.{ap, ◌∙◌}
use lib.Ieee.{binary64}
use Rattle.float.specs.Root.{root}
use Rattle.float.proofs.Point.norm.Goals as goal

pub returns : goal.returns
returns c = c.sqrt.ensures ∙ ap (root binary64) c.dot.ensures
