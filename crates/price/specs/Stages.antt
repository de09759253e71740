-- The sum over the steps as the code counts it, by unit cubes that are started, and what the private functions are handed. Definitions only.
use Rattle.std.specs.Prelude.{ℕ, ◌+◌, ◌-◌, ◌*◌, ◌≤◌, min, List, [], ◌∷◌}
use Rattle.price.specs.Tariff.{Tariff}

-- each step takes the cubes from the bound `lower` up to its own
unfoldable pub by_cubes : (cubes lower : ℕ) (uppers prices : List ℕ) → ℕ
by_cubes cubes lower uppers [] = 0
by_cubes cubes lower [] (price ∷ prices) = price * (cubes - lower)
by_cubes cubes lower (upper ∷ uppers) (price ∷ prices) = price * (min cubes upper - lower) + by_cubes cubes upper uppers prices

-- at most 2 ^ 33 cubes, by a price sheet that keeps the rules
pub record Costable (cubes : ℕ) (uppers prices : List ℕ) : Type 0 where
  pub tariff : Tariff uppers prices
  pub few : cubes ≤ 8589934592
