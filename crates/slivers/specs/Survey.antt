-- What the shapes of a pass are measured on: corners, a label for each triangle, and three coordinates for each point. Definitions only.
use Rattle.std.specs.Prelude.{ℕ, ◌+◌, ◌*◌, ◌/◌, ◌<◌, ◌≡◌, List, length, Float}
use Rattle.chains.specs.Marks.{Lists}

-- a corner is on the list of points
abbrev pub On : List Float → ℕ → Type 0
On ps v = v * 3 + 2 < length ps

-- the lists
pub record Survey (ps : List Float) (c ls : List ℕ) : Type 0 where
  pub lists : Lists c (length ps / 3)
  pub labels : length ls * 3 ≡ length c
