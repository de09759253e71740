-- The determinant of a triangle as an unsigned number: scaled to whole numbers and lifted by 2 ^ 51, which makes it positive. Both steps are exact, and so is the cast. Assumes nothing.
use mathlib.Core.Path.{◌≡◌, refl, sym, ap, ◌∙◌, subst}
use mathlib.Core.Bool.{Bool, false, cond}
use mathlib.Core.List.{List}
use Prim.Native.Nat.{ℕ, suc, ◌-◌, ◌/◌, ◌^◌, ◌≤◌, ◌<◌}
use native.Mathlib.Nat.{lt_of_lt_of_le}
use native.Mathlib.Omega.{arith}
use lib.Dec.{T, lit≤, lit<}
use borrow.Author.Tests.{le-ltb}
use lib.IntN.{ℤ, pos, negsuc, nat_abs, ◌+ℤ◌}
use lib.ListN.{length}
use lib.Ieee.{Float, binary64, of_bits, in_unsigned, to_unsigned}
use lib.Ieee.Exact.{HasValue}
use Rattle.float.specs.Point.{plus, times, dotted, crossed}
use Rattle.surface.specs.Triangle.{tri}
use Rattle.checking.specs.Validate.{placed}
use Rattle.rounding.specs.Fraction.{Is}
use Rattle.rounding.proofs.Exactness.{power-exact}
use Rattle.rounding.proofs.Cast.{unsigned}
use Rattle.rounding.proofs.Bounded.{Holds, holds-plus}
use Rattle.units.specs.Units.{AllOnUnits, units_at}
use Rattle.volume.specs.Six.{six_at}
use Rattle.volume.specs.Stages.{lifted}
use Rattle.volume.proofs.Wedge.{most_six, placed-holds, determinant-holds}

-- 2 ^ 30 and 2 ^ 51
abbrev pub scale : Float
scale = of_bits binary64 0x41d0_0000_0000_0000

abbrev pub lift : Float
lift = of_bits binary64 0x4320_0000_0000_0000

scale-value : HasValue scale false 1073741824 1
unfolding of_bits
scale-value = (refl, refl)

lift_holds : Holds lift (pos 2251799813685248) 0 2251799813685248
unfolding of_bits
lift_holds = record { is = record { sign = false; size = 2251799813685248; value = (refl, refl); same = refl }; most = lit≤ tt }

-- d is z of 2 ^ -30: scaled, it is z
scaled-holds : {d : Float} {z : ℤ} → Holds d z 30 most_six → Holds (times d scale) z 0 most_six
scaled-holds {d} {z} h =
    record { is = power-exact binary64 30 scale h.is scale-value (lt_of_lt_of_le (fewer h.most) (lit≤ {m = 2251799813685248} {n = 2 ^ 53} tt)); most = h.most }
  where
    fewer : {n : ℕ} → n ≤ most_six → n < 2251799813685248
    fewer {n} l = omega arith

pub record Positive (z : ℤ) : Type 0 where
  pub same : pos (lifted z) ≡ z +ℤ pos 2251799813685248
  pub above : 0 < lifted z
  pub below : lifted z < 4503599627370496

pub lifted_positive : (z : ℤ) → nat_abs z ≤ most_six → Positive z
lifted_positive (pos n) h = record { same = refl; above = omega arith; below = omega arith }
lifted_positive (negsuc n) h =
    let e : negsuc n +ℤ pos 2251799813685248 ≡ pos (2251799813685248 - suc n) =
    ap (λ (b : Bool). cond b (negsuc (suc n - suc 2251799813685248)) (pos (2251799813685248 - suc n))) (le-ltb 2251799813685248 (suc n) (omega arith)) in
    record {
      same = ap (λ (z : ℤ). pos (nat_abs z)) e ∙ sym e;
      above = subst (λ (z : ℤ). 0 < nat_abs z) (sym e) (more h);
      below = subst (λ (z : ℤ). nat_abs z < 4503599627370496) (sym e) (less h);
    }
  where
    more : suc n ≤ most_six → 0 < 2251799813685248 - suc n
    more l = omega arith

    less : suc n ≤ most_six → 2251799813685248 - suc n < 4503599627370496
    less l = omega arith

pub lifted_cast : {d : Float} {z : ℤ} → Holds d z 30 most_six → T (in_unsigned binary64 64 (plus (times d scale) lift)) × (to_unsigned 64 (plus (times d scale) lift) ≡ lifted z)
lifted_cast {d} {z} h =
    let p = lifted_positive z h.most in
    let g = holds-plus binary64 0 most_six 2251799813685248 (lit< tt) (lit≤ tt) (scaled-holds h) lift_holds in
    unsigned (times d scale) lift (lifted z) p.above p.below (subst (λ (k : ℤ). Is (plus (times d scale) lift) k 1) (sym p.same) g.is)

-- ---- the triangle of three corners

module _ (points : List Float) (on : AllOnUnits points) (a b c : ℕ) (A : a < length points / 3) (B : b < length points / 3) (C : c < length points / 3) where
  abbrev number : ℤ
  number = six_at (units_at points 0) (units_at points) (tri a b c)

  corner-holds : Holds (dotted (placed points a) (crossed (placed points b) (placed points c))) number 30 most_six
  corner-holds = determinant-holds (placed-holds points on a A) (placed-holds points on b B) (placed-holds points on c C)

  pub share_positive : Positive number
  share_positive = lifted_positive number corner-holds.most

  pub share_cast : (d : Float) → d ≡ dotted (placed points a) (crossed (placed points b) (placed points c)) → T (in_unsigned binary64 64 (plus (times d scale) lift)) × (to_unsigned 64 (plus (times d scale) lift) ≡ lifted number)
  share_cast d e = subst (λ (x : Float). T (in_unsigned binary64 64 (plus (times x scale) lift)) × (to_unsigned 64 (plus (times x scale) lift) ≡ lifted number)) (sym e) (lifted_cast corner-holds)
