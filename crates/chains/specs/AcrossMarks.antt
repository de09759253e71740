-- The marks of the places: whether a corner is joined to the one across the side opposite to it. Definitions only.
use Rattle.std.specs.Prelude.{ℕ, ◌+◌, ◌*◌, ◌<◌, ◌≤◌, ◌≡◌, List, length}
use Rattle.surface.specs.Triangle.{triangles}
use Rattle.surface.specs.Closed.{sides}
use Rattle.halfedges.specs.Place.{nx, pv, at}
use Rattle.halfedges.specs.Free.{Free}

-- the corner across the side opposite to the place k, by the twins in the words
abbrev pub across : List ℕ → ℕ → List ℕ → ℕ → ℕ
across c p w k = at c (pv (at w (p * 3 + length c + nx k)))

-- the mark of the place k: how many triangles run from its corner to the one across, 1 or 0
abbrev pub Joined : List ℕ → ℕ → ℕ → List ℕ → List ℕ → ℕ → Type 0
Joined c p marks w w' k = at w' (marks + k) ≡ sides (triangles c) (at c k) (across c p w k)

-- the places of v below i are marked, and no others
pub record AcrossOf (c : List ℕ) (p marks v i : ℕ) (w w' : List ℕ) : Type 0 where
  pub len : length w' ≡ length w
  pub under : (j : ℕ) → j < marks → at w' j ≡ at w j
  pub over : (j : ℕ) → marks + length c ≤ j → at w' j ≡ at w j
  pub done : (k : ℕ) → k < i → at c k ≡ v → Joined c p marks w w' k
  pub others : (k : ℕ) → (at c k ≡ v → ⊥) → at w' (marks + k) ≡ at w (marks + k)

-- the places of the corners below v are marked; the stamps are free, but none is above v
pub record AcrossBelow (c : List ℕ) (p stamps marks v : ℕ) (w w' : List ℕ) : Type 0 where
  pub rest : Free stamps (marks + length c) w w'
  pub low : (x : ℕ) → x < p → at w' (stamps + x) ≤ v
  pub done : (k : ℕ) → k < length c → at c k < v → Joined c p marks w w' k
