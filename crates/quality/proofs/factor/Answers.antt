-- `quality::factor` meets its contract. Assumes nothing.
use mathlib.Core.Path.{ap, ap₂, ◌∙◌}
use lib.Ieee.{binary64}
use Rattle.float.specs.Root.{root}
use Rattle.float.specs.Point.{times}
use Rattle.quality.proofs.Numbers.{two_is, three-is}
use Rattle.quality.proofs.factor.Goals as goal

pub returns : goal.returns
returns c = ap₂ times two_is (c.sqrt.ensures ∙ ap (root binary64) three-is)
