-- The determinant that `wedge` divides by six is exact: the points of a list on whole units, measured from its first, have differences up to 2 ^ 16 units, cross products up to 2 ^ 33 and determinants up to 3 * 2 ^ 49. Assumes nothing.
use mathlib.Core.List.{List}
use Prim.Native.Nat.{ℕ, ◌/◌, ◌<◌}
use native.Mathlib.Omega.{arith}
use lib.IntN.{ℤ, ◌-ℤ◌, ◌*ℤ◌}
use lib.ListN.{length}
use lib.Ieee.{Float, binary64}
use Rattle.float.specs.Point.{less, times, dotted, crossed}
use Rattle.float.specs.declared.Point.{Point}
use Rattle.checking.specs.Validate.{placed}
use Rattle.units.specs.Units.{WholePoint, AllOnUnits, units_at}
use Rattle.units.proofs.Points.{PointHolds, point-holds, difference-holds}
use Rattle.rounding.proofs.Bounded.{Holds, holds-minus, holds-plus, holds-times}
use Rattle.volume.specs.Six.{measured_from, cross, dot, determinant}

crossed-holds : {p q : Point} {v w : WholePoint} → PointHolds p v 10 65536 → PointHolds q w 10 65536 → PointHolds (crossed p q) (cross v w) 20 8589934592
crossed-holds g h = record { x = one g.y h.z g.z h.y; y = one g.z h.x g.x h.z; z = one g.x h.y g.y h.x }
  where
    one : {x y u t : Float} {a b c d : ℤ} → Holds x a 10 65536 → Holds y b 10 65536 → Holds u c 10 65536 → Holds t d 10 65536 → Holds (less (times x y) (times u t)) (a *ℤ b -ℤ c *ℤ d) 20 8589934592
    one i j k l =
        holds-minus binary64 20 4294967296 4294967296 (omega arith) (omega arith) (holds-times binary64 10 10 65536 65536 (omega arith) (omega arith) i j) (holds-times binary64 10 10 65536 65536 (omega arith) (omega arith) k l)

-- 3 * 2 ^ 49
abbrev pub most_six : ℕ
most_six = 1688849860263936

dotted-holds : {p q : Point} {v w : WholePoint} → PointHolds p v 10 65536 → PointHolds q w 20 8589934592 → Holds (dotted p q) (dot v w) 30 most_six
dotted-holds g h =
    holds-plus binary64 30 1125899906842624 562949953421312 (omega arith) (omega arith)
    (holds-plus binary64 30 562949953421312 562949953421312 (omega arith) (omega arith) (one g.x h.x) (one g.y h.y))
    (one g.z h.z)
  where
    one : {x y : Float} {a c : ℤ} → Holds x a 10 65536 → Holds y c 20 8589934592 → Holds (times x y) (a *ℤ c) 30 562949953421312
    one = holds-times binary64 10 20 65536 8589934592 (omega arith) (omega arith)

pub determinant-holds : {p q r : Point} {u v w : WholePoint} → PointHolds p u 10 65536 → PointHolds q v 10 65536 → PointHolds r w 10 65536 → Holds (dotted p (crossed q r)) (determinant u v w) 30 most_six
determinant-holds g h i = dotted-holds g (crossed-holds h i)

-- ---- the points of a list

pub placed-holds : (points : List Float) → AllOnUnits points → (i : ℕ) → i < length points / 3 → PointHolds (placed points i) (measured_from (units_at points 0) (units_at points i)) 10 65536
placed-holds points on i l = difference-holds (point-holds points on i l) (point-holds points on 0 (omega arith))
