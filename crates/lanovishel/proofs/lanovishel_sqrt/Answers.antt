-- `lanovishel::lanovishel_sqrt` meets its contract: `root` at x, which is an f64, is what IEEE 754 asks for. Assumes nothing.
use mathlib.Core.Path.{◌≡◌, sym, subst}
use lib.Dec.{T}
use lib.Ieee.{Float, binary64, fits}
use Rattle.float.specs.Root.{root}
use Rattle.float.specs.Nearest.{IsRoot}
use Rattle.float.proofs.Nearest.{root_correct}
use Rattle.lanovishel.specs.Root.{SquareRoot}
use Rattle.lanovishel.proofs.lanovishel_sqrt.Goals as goal

rooted : (x r : Float) → T (fits binary64 x) → r ≡ root binary64 x → SquareRoot x r
rooted x r h e = record { is = e; nearest = subst (IsRoot binary64 x) (sym e) (root_correct binary64 x h) }

pub returns : goal.returns
returns c =
    rooted c.args.x c.sqrt.result (subst T (sym c.well_formed.0.1) tt) c.sqrt.ensures
