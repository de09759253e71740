-- How large six times the exact volume is: at most 3 * 2 ^ 49 for each triangle. Assumes nothing.
use Prim.Native.Nat.{ℕ, suc, ◌+◌, ◌*◌, ◌/◌, ◌≤◌, ◌<◌}
use mathlib.Core.List.{List, [], ◌∷◌}
use native.Mathlib.Nat.{le_trans, add-le-add}
use native.Mathlib.Omega.{arith}
use lib.IntN.{nat_abs}
use lib.ListN.{length, get_or}
use lib.Ieee.{Float}
use Rattle.integers.proofs.Size.{size-sum}
use Rattle.surface.specs.Triangle.{tri, triangles}
use Rattle.units.specs.Units.{AllOnUnits, units_at}
use Rattle.volume.specs.Six.{six_at, six}
use Rattle.volume.specs.Volume.{six_of}
use Rattle.volume.specs.Exact.{Measurable}
use Rattle.volume.proofs.Wedge.{most_six, placed-holds, determinant-holds}

one_more : (n : ℕ) → most_six + n / 3 * most_six ≤ suc (suc (suc n)) / 3 * most_six
one_more n = omega arith

module _ (points : List Float) (on : AllOnUnits points) where
  size : (corners : List ℕ) → ((k : ℕ) → k < length corners → get_or corners k 0 < length points / 3) → nat_abs (six_of points corners (units_at points 0)) ≤ length corners / 3 * most_six
  unfolding six triangles
  size [] h = omega arith
  size (x ∷ []) h = omega arith
  size (x ∷ y ∷ []) h = omega arith
  size (x ∷ y ∷ z ∷ l) h =
      let first = (determinant-holds (placed-holds points on x (h 0 (omega arith))) (placed-holds points on y (h 1 (omega arith))) (placed-holds points on z (h 2 (omega arith)))).most in
      let rest = size l (λ k i. h (suc (suc (suc k))) (omega arith)) in
      le_trans (size-sum (six_at (units_at points 0) (units_at points) (tri x y z)) (six_of points l (units_at points 0))) (le_trans (add-le-add first rest) (one_more (length l)))

pub six-size : (points : List Float) (corners : List ℕ) → Measurable points corners → nat_abs (six_of points corners (units_at points 0)) ≤ length corners / 3 * most_six
six-size points corners m = size points m.units corners m.below
