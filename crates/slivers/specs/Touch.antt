-- Touched corners in the words. Definitions only.
use Rattle.std.specs.Prelude.{ℕ, ◌+◌, Bool, not, List, eqb, set}
use Rattle.halfedges.specs.Place.{nx, pv, at}

-- the word of the corner x says that it is touched
abbrev pub is_touched : List ℕ → ℕ → ℕ → Bool
is_touched w touched x = not (eqb (at w (touched + x)) 0)

-- the three corners of the triangle of a place become touched
abbrev pub touch_at : List ℕ → ℕ → ℕ → List ℕ → List ℕ
touch_at c touched k w = set (set (set w (touched + at c k) 1) (touched + at c (nx k)) 1) (touched + at c (pv k)) 1
