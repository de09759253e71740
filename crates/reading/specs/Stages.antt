-- What the functions of `src/` hand to one another: the first places of a list filled. Definitions only.
use Rattle.std.specs.Prelude.{ℕ, List, ◌++◌, map, ℤ, Float, take, drop}
use Rattle.sheet.specs.Sheet.{place}

-- the first `count` coordinates as floats, and then the list as it was
abbrev pub placed_first : ℕ → List ℤ → ℕ → List Float → List Float
placed_first unit coordinates count points = map (place unit) (take count coordinates) ++ drop count points
