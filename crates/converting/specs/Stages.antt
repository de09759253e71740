-- What the functions of `src/` hand to one another. Definitions only.
use Rattle.std.specs.Prelude.{ℕ, ◌≡◌, Bool, cond, List, ◌++◌, map, ℤ, pos, take, drop, set}
use Rattle.std.specs.Int.Signed.{non_neg}
use Rattle.surface.specs.Check.{every}
use Rattle.sheet.specs.Text.{minus}
use Rattle.sheet.specs.Conversion.{fits?, in_unit}
use Rattle.converting.specs.Converting.{unit_of}

-- a number of that size, with the sign of z
abbrev pub signed_as : ℤ → ℕ → ℤ
signed_as z size = cond (non_neg z) (pos size) (minus size)

-- the coordinate z in the unit asked for is stored at k, and whether it is the same number
pub record Turned (from asked : ℕ) (z : ℤ) (k : ℕ) (l l' : List ℤ) (r : Bool) : Type 0 where
  pub same : r ≡ fits? (unit_of from) (unit_of asked) z
  pub stored : l' ≡ set l k (in_unit (unit_of from) (unit_of asked) z)

-- the first `count` coordinates in the unit asked for, and whether all are the same numbers
pub record TurnedFirst (from asked count : ℕ) (l l' : List ℤ) (r : Bool) : Type 0 where
  pub same : r ≡ every (fits? (unit_of from) (unit_of asked)) (take count l)
  pub stored : l' ≡ map (in_unit (unit_of from) (unit_of asked)) (take count l) ++ drop count l
