-- A side of a corner list, by the place where it starts. Definitions only.
use Rattle.std.specs.Prelude.{ℕ, ◌<◌, ◌≡◌, List, length}
use Rattle.halfedges.specs.Place.{nx, at}

-- a place from which the list runs from x to y
pub record Runs (c : List ℕ) (x y : ℕ) : Type 0 where
  pub k : ℕ
  pub low : k < length c
  pub from : at c k ≡ x
  pub to : at c (nx k) ≡ y
