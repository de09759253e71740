-- What `exact` is handed and what it answers: six times the exact volume in two words. Definitions only.
use Rattle.std.specs.Prelude.{ℕ, ◌/◌, ◌%◌, ◌^◌, ◌≤◌, ◌<◌, ◌≡◌, List, ℤ, pos, ◌+ℤ◌, ◌*ℤ◌, length, get_or, Float}
use Rattle.units.specs.Units.{AllOnUnits, units_at}
use Rattle.volume.specs.Volume.{six_of}
use Rattle.volume.specs.declared.Sixfold.{Sixfold}

-- coordinates on whole units, whole triangles whose corners are on the list, and no more of them than checking takes
pub record Measurable (points : List Float) (corners : List ℕ) : Type 0 where
  pub units : AllOnUnits points
  pub thirds : length corners % 3 ≡ 0
  pub few : length corners / 3 ≤ 32768
  pub below : (k : ℕ) → k < length corners → get_or corners k 0 < length points / 3

-- The number that the two words are. (A volume of 1 is 6 * 2 ^ 30 of what `six` counts, 3 * 2 ^ 31: so the high word, with whether the low one is 0, says how many of them are started.)
abbrev pub six_in : Sixfold → ℤ
six_in r = pos (2 ^ 31) *ℤ r.high +ℤ pos r.low

pub record ExactSix (points : List Float) (corners : List ℕ) (r : Sixfold) : Type 0 where
  pub small : r.low < 2 ^ 31
  pub same : six_in r ≡ six_of points corners (units_at points 0)
