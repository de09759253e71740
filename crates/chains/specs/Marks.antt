-- What the marking functions are handed and leave. Definitions only.
use Rattle.std.specs.Prelude.{ℕ, ◌+◌, ◌*◌, ◌%◌, ◌<◌, ◌≤◌, ◌≡◌, List, length, set}
use Rattle.surface.specs.Triangle.{triangles}
use Rattle.surface.specs.Closed.{Closed}
use Rattle.halfedges.specs.Place.{nx, at, uses}
use Rattle.sides.specs.Side.{Twin}
use Rattle.chains.specs.Chain.{Chained}

-- a corner list with its points
pub record Lists (c : List ℕ) (p : ℕ) : Type 0 where
  pub thirds : length c % 3 ≡ 0
  pub few : length c ≤ 98304
  pub points : p ≤ 32768
  pub below : (k : ℕ) → k < length c → at c k < p

-- what the marking of sides is handed: a closed list with its twins, valences and chains in the words, and room behind them
pub record Marking (c : List ℕ) (p : ℕ) (w : List ℕ) (chains stamps marks : ℕ) : Type 0 where
  pub lists : Lists c p
  pub closed : Closed (triangles c)
  pub twins : (k : ℕ) → k < length c → Twin c k (at w (p * 3 + length c + k))
  pub valences : (v : ℕ) → v < p → at w (p + v) ≡ uses c v (length c)
  pub chained : Chained c p w chains
  pub first : p * 3 + length c + length c ≤ chains
  pub second : chains + p + length c ≤ stamps
  pub third : stamps + p ≤ marks
  pub room : marks + length c ≤ length w

-- the corner that follows the place k gets the stamp of v
abbrev pub stamp_at : List ℕ → ℕ → ℕ → ℕ → List ℕ → List ℕ
stamp_at c stamps v k w = set w (stamps + at c (nx k)) (v + 1)

-- what a walk along a chain is handed
pub record Walking (c : List ℕ) (p : ℕ) (w : List ℕ) (chains stamps : ℕ) : Type 0 where
  pub lists : Lists c p
  pub chained : Chained c p w chains
  pub order : chains + p + length c ≤ stamps
  pub room : stamps + p ≤ length w

-- words that are cleared from a base on: those below stay, and p words are 0
pub record Cleared (base p : ℕ) (w w' : List ℕ) : Type 0 where
  pub len : length w' ≡ length w
  pub under : (j : ℕ) → j < base → at w' j ≡ at w j
  pub zeros : (x : ℕ) → x < p → at w' (base + x) ≡ 0
  pub over : (j : ℕ) → base + p ≤ j → at w' j ≡ at w j
