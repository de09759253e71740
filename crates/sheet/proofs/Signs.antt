-- Whole numbers below 2 ^ 31 as signed ones, and their opposites. Assumes nothing.
use mathlib.Core.Path.{◌≡◌, refl, sym, ap, ◌∙◌, subst}
use Prim.Native.Nat.{ℕ, zero, suc, ◌-◌, ◌<◌, ◌^◌}
use native.Mathlib.Omega.{arith}
use lib.IntN.{ℤ, pos, negsuc, nat_abs, ◌-ℤ◌, +ℤ_idl}
use lib.Signed.{mag}
use Rattle.sheet.specs.Text.{minus}
use mir.Syntax.{w32}
use mir.Val.{SFits, to_z, of_z}
use mir.ValLaws.{to_z_pos, to_z-of_z}

minus_of : (n : ℕ) → pos 0 -ℤ pos n ≡ minus n
minus_of zero = refl
minus_of (suc n) = +ℤ_idl (negsuc n)

minus_is : (n : ℕ) → n < 2 ^ 31 → to_z w32 0 -ℤ to_z w32 n ≡ minus n
minus_is n h = ap (λ (z : ℤ). pos 0 -ℤ z) (to_z_pos w32 n h) ∙ minus_of n

pub minus-size : (n : ℕ) → nat_abs (minus n) ≡ n
minus-size zero = refl
minus-size (suc n) = refl

pub minus-small : (n : ℕ) → n < 2 ^ 31 → SFits w32 (minus n)
minus-small zero h = record { sfits = omega arith }
minus-small (suc n) h = record { sfits = omega arith }

pub minus-fits : (n : ℕ) → n < 2 ^ 31 → SFits w32 (to_z w32 0 -ℤ to_z w32 n)
minus-fits n h = subst (SFits w32) (sym (minus_is n h)) (minus-small n h)

pub minus-back : (n : ℕ) → n < 2 ^ 31 → to_z w32 (of_z w32 (to_z w32 0 -ℤ to_z w32 n)) ≡ minus n
minus-back n h = to_z-of_z w32 (to_z w32 0 -ℤ to_z w32 n) (minus-fits n h) ∙ minus_is n h

pub minus-some : (n : ℕ) → 0 < n → minus n ≡ negsuc (n - 1)
minus-some zero h = absurd (omega arith)
minus-some (suc n) h = let e : n ≡ suc n - 1 = omega arith in ap negsuc e

-- a value that went through its bits
pub back : (r z : ℤ) → r ≡ z → mag z < 2 ^ 31 → to_z w32 (of_z w32 r) ≡ z
back r z e h = ap (λ (y : ℤ). to_z w32 (of_z w32 y)) e ∙ to_z-of_z w32 z (record { sfits = h })
