-- What taking back asks of the lists, of which n triangles are in use, and of the record ws. Definitions only.
use Rattle.std.specs.Prelude.{ℕ, ◌+◌, ◌*◌, ◌≤◌, ◌<◌, ◌≡◌, cond, List, eqb, length, get_or}
use Rattle.surface.specs.Triangle.{Tri}
use Rattle.surface.specs.Flat.{held}
use Rattle.history.specs.Undo.{turned, undone}
use Rattle.history.specs.Route.{Route}
use Rattle.history.specs.Flat.{pair_of}
use Rattle.entries.specs.Moved.{Zero}

-- the record's ends of the side in the direction of p1, and of the walk
abbrev pub side_from : List ℕ → ℕ
side_from ws = cond (eqb (get_or ws 11 0) 1) (get_or ws 1 0) (get_or ws 2 0)

abbrev pub side_to : List ℕ → ℕ
side_to ws = cond (eqb (get_or ws 11 0) 1) (get_or ws 2 0) (get_or ws 1 0)

abbrev pub walk_from : List ℕ → ℕ
walk_from ws = cond (eqb (get_or ws 11 0) 1) (get_or ws 4 0) (get_or ws 3 0)

abbrev pub walk_to : List ℕ → ℕ
walk_to ws = cond (eqb (get_or ws 11 0) 1) (get_or ws 3 0) (get_or ws 4 0)

-- the two triangles of the side
abbrev pub first_of : List ℕ → Tri
first_of ws = turned (get_or ws 7 0) (side_from ws) (side_to ws) (get_or ws 3 0)

abbrev pub second_of : List ℕ → Tri
second_of ws = turned (get_or ws 8 0) (side_to ws) (side_from ws) (get_or ws 4 0)

-- of a flip: the places are places of the list
pub record Unflips (l : List ℕ) (n : ℕ) (ws : List ℕ) : Type 0 where
  pub kind : get_or ws 0 0 ≡ 1
  pub room : 3 * n ≤ length l
  pub first : get_or ws 5 0 < n
  pub second : get_or ws 6 0 < n

-- of a collapse: there is room, and the walk around a can be followed
pub record Uncollapses (l ls : List ℕ) (n : ℕ) (ws : List ℕ) : Type 0 where
  pub kind : get_or ws 0 0 ≡ 1 → ⊥
  pub room : 3 * (n + 2) ≤ length l
  pub labels : n + 2 ≤ length ls
  pub first : get_or ws 5 0 ≤ n
  pub second : get_or ws 6 0 ≤ n + 1
  pub small : (get_or ws 9 0 ≤ 7) × (get_or ws 10 0 ≤ 7)
  pub route : Route (held l n) (get_or ws 1 0) (get_or ws 2 0) (walk_from ws) (walk_to ws)

-- after a collapse is taken back
pub record Restored (l ls : List ℕ) (n : ℕ) (ws l' ls' : List ℕ) (m : ℕ) : Type 0 where
  pub count : m ≡ n + 2
  pub is : pair_of l' ls' m ≡ undone ws (pair_of l ls n)
  pub freed : Zero (3 * n) l → Zero (3 * m) l'
  pub unlabelled : Zero n ls → Zero m ls'
