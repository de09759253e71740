-- What the two stages of a round before the flip pass leave. Definitions only.
use Rattle.std.specs.Prelude.{ℕ, ◌*◌, ◌/◌, ◌%◌, ◌<◌, ◌≤◌, ◌≡◌, List, length, Float}
use Rattle.surface.specs.Triangle as Triangle
use Rattle.surface.specs.Triangle.{triangles}
use Rattle.halfedges.specs.Place.{at}
use Rattle.history.specs.History.{Pair}
use Rattle.history.specs.Lists.{then_zero}
use Rattle.surface.specs.Renumber.{renumbered}
use Rattle.rounds.specs.Renumber.{number, first_use}
use Rattle.oracle.specs.Points.{gathered}
use Rattle.improving.specs.Rounded.{then_plus_zero}

-- the lists hold the pair d, then 0; n triangles are left, with corners below p
pub record Dropped (d : Pair) (p : ℕ) (c ls c' ls' : List ℕ) (n : ℕ) : Type 0 where
  pub corners : c' ≡ then_zero c (Triangle.corners d.tris)
  pub labels : ls' ≡ then_zero ls d.labels
  pub count : length d.labels ≡ n
  pub size : length (Triangle.corners d.tris) ≡ n * 3
  pub below : (k : ℕ) → k < n * 3 → at (Triangle.corners d.tris) k < p
  pub corner-room : n * 3 ≤ length c
  pub label-room : n ≤ length ls

-- corners that have points, and words to number them
pub record Numberable (ps : List Float) (c w : List ℕ) : Type 0 where
  pub thirds : length c % 3 ≡ 0
  pub coords : length ps % 3 ≡ 0
  pub few : length ps ≤ 98304
  pub below : (k : ℕ) → k < length c → at c k < length ps / 3
  pub room : length ps / 3 * 7 ≤ length w

-- the corners have the numbers of their first use, and their points stand in that order, then 0; p points are left
pub record Numbered (ps : List Float) (c : List ℕ) (ps' : List Float) (c' : List ℕ) (p : ℕ) : Type 0 where
  pub corners : triangles c' ≡ renumbered (number (triangles c)) (triangles c)
  pub points : ps' ≡ then_plus_zero ps (gathered ps (first_use (triangles c)))
  pub count : length (gathered ps (first_use (triangles c))) ≡ p * 3
  pub below : (k : ℕ) → k < length c' → at c' k < p
  pub room : p * 3 ≤ length ps
