-- Points of a list on whole units, and their differences, are exact as points of f64. Assumes nothing.
use mathlib.Core.List.{List}
use Prim.Native.Nat.{ℕ, ◌+◌, ◌*◌, ◌/◌, ◌<◌}
use native.Mathlib.Omega.{arith}
use lib.IntN.{ℤ, ◌-ℤ◌}
use lib.ListN.{length, get_or}
use lib.Ieee.{Float, nan, binary64}
use Rattle.float.specs.Point.{less, difference}
use Rattle.float.specs.declared.Point.{Point}
use Rattle.rounding.proofs.Bounded.{Holds, holds-minus}
use Rattle.units.specs.Units.{WholePoint, AllOnUnits, units_at, in_units}

-- each coordinate is that of w, of 2 ^ -k, at most b of them
pub record PointHolds (p : Point) (w : WholePoint) (k b : ℕ) : Type 0 where
  pub x : Holds p.x w.x k b
  pub y : Holds p.y w.y k b
  pub z : Holds p.z w.z k b

pub point-holds : (points : List Float) → AllOnUnits points → (i : ℕ) → i < length points / 3
    → PointHolds (record { x = get_or points (3 * i) nan; y = get_or points (3 * i + 1) nan; z = get_or points (3 * i + 2) nan }) (units_at points i) 10 32768
point-holds points on i l = record { x = one (3 * i) (omega arith); y = one (3 * i + 1) (omega arith); z = one (3 * i + 2) (omega arith) }
  where
    one : (j : ℕ) → j < length points → Holds (get_or points j nan) (in_units (get_or points j nan)) 10 32768
    one j k = record { is = (on j k).whole; most = (on j k).range }

pub difference-holds : {p q : Point} {v w : WholePoint} → PointHolds p v 10 32768 → PointHolds q w 10 32768
    → PointHolds (difference p q) (record { x = v.x -ℤ w.x; y = v.y -ℤ w.y; z = v.z -ℤ w.z }) 10 65536
difference-holds g h = record { x = one g.x h.x; y = one g.y h.y; z = one g.z h.z }
  where
    one : {x y : Float} {a c : ℤ} → Holds x a 10 32768 → Holds y c 10 32768 → Holds (less x y) (a -ℤ c) 10 65536
    one = holds-minus binary64 10 32768 32768 (omega arith) (omega arith)
