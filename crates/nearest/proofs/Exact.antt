-- The squared distance of points on whole units is exact in f64: differences up to 2 ^ 16 units, squares up to 2 ^ 32, their sum up to 3 * 2 ^ 32. It is cast to the whole number that it is. Assumes nothing.
use Prim.Native.Nat.{ℕ, ◌+◌, ◌/◌, ◌^◌, ◌≤◌, ◌<◌}
use mathlib.Core.Path.{◌≡◌, refl, sym, ◌∙◌, subst}
use mathlib.Core.Bool.{false}
use mathlib.Core.List.{List}
use native.Mathlib.Nat.{lt_of_le_of_lt}
use native.Mathlib.Omega.{arith}
use lib.Dec.{T, lit≤, lit<}
use lib.IntN.{ℤ, pos, negsuc, ◌*ℤ◌}
use lib.ListN.{length}
use lib.Ieee.{Float, binary64, of_bits, in_unsigned, to_unsigned}
use lib.Ieee.Exact.{HasValue}
use Rattle.float.specs.Point.{plus, times, difference, dotted}
use Rattle.float.specs.declared.Point.{Point}
use Rattle.checking.specs.Validate.{point_at}
use Rattle.rounding.specs.Fraction.{Is}
use Rattle.rounding.proofs.Bounded.{Holds, holds-plus, holds-times}
use Rattle.rounding.proofs.Exactness.{power-exact, add-exact}
use Rattle.rounding.proofs.Cast.{unsigned}
use Rattle.units.specs.Units.{WholePoint, AllOnUnits, units_at}
use Rattle.units.proofs.Points.{PointHolds, point-holds, difference-holds}
use Rattle.nearest.specs.Nearest.{square, apart}
use Rattle.nearest.specs.Stages.{in_squares, OnSquares}

-- ---- the distance

square-is : (z : ℤ) → z *ℤ z ≡ pos (square z)
square-is (pos n) = refl
square-is (negsuc n) = refl

-- 3 * 2 ^ 32
abbrev pub most_apart : ℕ
most_apart = 12884901888

dotted-holds : {p : Point} {w : WholePoint} → PointHolds p w 10 65536 → Holds (dotted p p) (pos (square w.x + square w.y + square w.z)) 20 most_apart
dotted-holds g =
    holds-plus binary64 20 8589934592 4294967296 (omega arith) (omega arith) (holds-plus binary64 20 4294967296 4294967296 (omega arith) (omega arith) (one g.x) (one g.y)) (one g.z)
  where
    one : {x : Float} {a : ℤ} → Holds x a 10 65536 → Holds (times x x) (pos (square a)) 20 4294967296
    one {x} {a} h = subst (λ (z : ℤ). Holds (times x x) z 20 4294967296) (square-is a) (holds-times binary64 10 10 65536 65536 (omega arith) (omega arith) h h)

pub distance-holds : (points probes : List Float) → AllOnUnits points → AllOnUnits probes → (v i : ℕ) → v < length points / 3 → i < length probes / 3
    → (p q : Point) (d : Float) → p ≡ point_at points v → q ≡ point_at probes i → d ≡ dotted (difference p q) (difference p q) → Holds d (pos (apart (units_at points v) (units_at probes i))) 20 most_apart
distance-holds points probes on of v i h k p q d e f g =
    subst (λ (x : Float). Holds x (pos (apart (units_at points v) (units_at probes i))) 20 most_apart) (sym (g ∙ (λ j. dotted (difference (e j) (f j)) (difference (e j) (f j)))))
    (dotted-holds (difference-holds (point-holds points on v h) (point-holds probes of i k)))

pub apart-most : (points probes : List Float) → AllOnUnits points → AllOnUnits probes → (v i : ℕ) → v < length points / 3 → i < length probes / 3 → apart (units_at points v) (units_at probes i) ≤ most_apart
apart-most points probes on of v i h k = (distance-holds points probes on of v i h k _ _ _ refl refl refl).most

-- ---- cast

-- 2 ^ 20 and 1
abbrev pub scale : Float
scale = of_bits binary64 0x4130_0000_0000_0000

abbrev pub unit : Float
unit = of_bits binary64 0x3ff0_0000_0000_0000

scale-value : HasValue scale false 1048576 1
unfolding of_bits
scale-value = (refl, refl)

unit-is : Is unit (pos 1) 1
unfolding of_bits
unit-is = record { sign = false; size = 1; value = (refl, refl); same = refl }

-- one more than it is: a positive number, so that there is no -0
pub cast : (d : Float) → OnSquares d → T (in_unsigned binary64 64 (plus (times d scale) unit)) × (to_unsigned 64 (plus (times d scale) unit) ≡ in_squares d + 1)
cast d h =
    let n = in_squares d in
    unsigned (times d scale) unit (n + 1) (omega arith) (small n h.range)
    (add-exact binary64 0 (power-exact binary64 20 scale h.whole scale-value (lt_of_le_of_lt h.range (lit< {m = 17179869184} {n = 2 ^ 53} tt))) unit-is (lt_of_le_of_lt (near n h.range) (lit< {m = 17179869185} {n = 2 ^ 53} tt)) (lit≤ tt))
  where
    small : (n : ℕ) → n ≤ 17179869184 → n + 1 < 4503599627370496
    small n l = omega arith

    near : (n : ℕ) → n ≤ 17179869184 → n + 1 ≤ 17179869185
    near n l = omega arith
