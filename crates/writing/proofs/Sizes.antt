-- The sign of a signed number, as the machine has it. Assumes nothing.
use mathlib.Core.Path.{◌≡◌, refl, ap, ◌∙◌}
use mathlib.Core.Bool.{not}
use native.Mathlib.Omega.{arith}
use borrow.Author.Tests.{le-ltb}
use lib.IntN.{ℤ, pos, negsuc}
use lib.Signed.{lt_z, non_neg}
use mir.Syntax.{w32}
use mir.Val.{SFits, to_z, of_z}
use mir.Facts.{to_z-of_z}

sign : (z : ℤ) → lt_z z (pos 0) ≡ not (non_neg z)
sign (pos n) = le-ltb n 0 (omega arith)
sign (negsuc n) = refl

pub below-zero : (z : ℤ) → SFits w32 z → lt_z (to_z w32 (of_z w32 z)) (pos 0) ≡ not (non_neg z)
below-zero z f = ap (λ (y : ℤ). lt_z y (pos 0)) (to_z-of_z f) ∙ sign z
