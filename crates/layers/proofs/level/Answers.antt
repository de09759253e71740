-- `layers::level` meets its contract: the cast is exact, and so is the product with a power of two. Assumes nothing.
use mathlib.Core.Path.{sym, ap, ◌∙◌, subst}
use lib.Ieee.{Float, binary64, of_int, mul}
use mir.Syntax.{w32}
use mir.ValLaws.{to_z-of_z}
use Rattle.rounding.specs.Fraction.{Is}
use Rattle.layers.proofs.Plane.{unit, level_holds}
use Rattle.layers.proofs.level.Goals as goal

pub returns : goal.returns
returns c =
    let h = c.args.height in
    subst (λ (x : Float). Is (mul binary64 x unit) h 1024) (sym (c.from.ensures ∙ ap (of_int binary64) (to_z-of_z w32 h c.ranges.height))) (level_holds h c.requires).is
