-- The state of the collapse pass in the words: what each corner becomes, which triangles are gone, which corners are touched. Definitions only.
use Rattle.std.specs.Prelude.{ℕ, ◌+◌, ◌*◌, ◌<◌, ◌≡◌, true, false, not, List, eqb, length, get_or}
use Rattle.surface.specs.Triangle.{triangles}
use Rattle.history.specs.History.{Pair}
use Rattle.rounds.specs.Pass.{State}
use Rattle.surface.specs.Renumber.{renumbered}
use Rattle.halfedges.specs.Place.{at}
use Rattle.renumber.specs.Dropped.{becomes}
use Rattle.slivers.specs.Touch.{is_touched}

abbrev pub pair_of : List ℕ → List ℕ → Pair
pair_of c ls = record { tris = triangles c; labels = ls }

-- The words from `touched` on: p of the touched corners, p of what the corners become, n of the gone triangles.
pub record Stands (c : List ℕ) (n p touched : ℕ) (w : List ℕ) (s : State) : Type 0 where
  pub tris : s.tris ≡ renumbered (becomes w (touched + p)) (triangles c)
  pub size : length s.gone ≡ n
  pub gone : (i : ℕ) → i < n → get_or s.gone i false ≡ not (eqb (at w (touched + p * 2 + i)) 0)
  pub marks : (x : ℕ) → x < p → s.touched x ≡ is_touched w touched x
  pub below : (x : ℕ) → x < p → becomes w (touched + p) x < p
  pub fixed : (x : ℕ) → x < p → s.touched x ≡ false → becomes w (touched + p) x ≡ x
  pub off : (x : ℕ) → x < p → (becomes w (touched + p) x ≡ x → ⊥) → s.touched (becomes w (touched + p) x) ≡ true
