-- What the stages of the collapse pass are handed and leave. Definitions only.
use Rattle.std.specs.Prelude.{ℕ, ◌+◌, ◌*◌, ◌<◌, ◌≤◌, ◌≡◌, true, List, map, length, Float}
use Rattle.surface.specs.Triangle.{triangles}
use Rattle.surface.specs.Closed.{one, Closed}
use Rattle.halfedges.specs.Place.{at, uses}
use Rattle.halfedges.specs.Free.{Free}
use Rattle.sides.specs.Side.{Twin, sorted}
use Rattle.sides.specs.Order.{Sorted}
use Rattle.sorting.specs.Stable.{part}
use Rattle.chains.specs.Chain.{Chained}
use Rattle.chains.specs.Common.{lone}
use Rattle.chains.specs.LabelMarks.{Labelled, Carried}
use Rattle.chains.specs.Marks.{Lists}
use Rattle.rounds.specs.Choices.{collapse_start}
use Rattle.oracle.specs.Scene.{Scene}
use Rattle.oracle.specs.Candidates.{candidates}
use Rattle.oracle.specs.Slivers.{pass}
use Rattle.scores.specs.Measures.{pair_of, side_at}
use Rattle.slivers.specs.Stand.{Stands}
use Rattle.collapsing.specs.Areas.{sides_from, chains_from, carried_from, lones_from, weak_from, items_from, touched_from, collapse_words}

-- what the pass is handed: p points, and a closed list of triangles with labels; and words
pub record Collapsible (ps : List Float) (c ls : List ℕ) (p : ℕ) (w : List ℕ) : Type 0 where
  pub lists : Lists c p
  pub coords : length ps ≡ p * 3
  pub labelled : Labelled c ls
  pub closed : Closed (triangles c)
  pub room : collapse_words c p ≤ length w

-- the marks of the labels stand from `carried` on, and no other word changes
pub record CarriedAt (c ls : List ℕ) (p carried : ℕ) (w w' : List ℕ) : Type 0 where
  pub carries : Carried c ls p w' carried
  pub rest : Free carried (carried + p * 8) w w'

-- the marks of a closed list with labels in the words: chains, labels, twins, valences, the sides whose ends have only the opposite corners in common, and the r sides in rising order
pub record Noted (c ls : List ℕ) (p : ℕ) (w : List ℕ) (r : ℕ) : Type 0 where
  pub chained : Chained c p w (chains_from c p)
  pub carries : Carried c ls p w (carried_from c p)
  pub twins : (k : ℕ) → k < length c → Twin c k (at w (p * 3 + length c + k))
  pub valences : (v : ℕ) → v < p → at w (p + v) ≡ uses c v (length c)
  pub lones : (k : ℕ) → k < length c → at w (lones_from c p + k) ≡ one (lone c k)
  pub listed : part w (sides_from c p) r ≡ sorted c p
  pub half : r + r ≡ length c
  pub order : Sorted c (sorted c p)

-- they are made, and the words behind them stay
pub record ListsNoted (c ls : List ℕ) (p : ℕ) (w w' : List ℕ) (r : ℕ) : Type 0 where
  pub noted : Noted c ls p w' r
  pub rest : Free 0 (weak_from c p) w w'

-- the numbers of the n candidates stand in the words in the order in which they are tried, and the words below the marks of the triangles and behind the sort's spare area stay
pub record Chosen (s : Scene) (c ls : List ℕ) (p r : ℕ) (w w' : List ℕ) (n : ℕ) : Type 0 where
  pub list : map (λ (i : ℕ). side_at c (at w (sides_from c p + i))) (part w' (items_from c p) n) ≡ candidates s (pair_of c ls) p
  pub few : n ≤ r
  pub low : (j : ℕ) → j < n → at w' (items_from c p + j) < r
  pub rest : Free (weak_from c p) (touched_from c p) w w'

-- no corner is touched, each stays what it is, no triangle goes, and no other word changes
pub record Clean (p n touched : ℕ) (w w' : List ℕ) : Type 0 where
  pub untouched : (x : ℕ) → x < p → at w' (touched + x) ≡ 0
  pub same : (x : ℕ) → x < p → at w' (touched + p + x) ≡ x
  pub stay : (i : ℕ) → i < n → at w' (touched + p * 2 + i) ≡ 0
  pub rest : Free touched (touched + p * 2 + n) w w'

-- after the pass, in words that were w: the state that the definition has after the candidates stands in the words from `touched_from` on. Those below it, in which the pass prepared it, are free, and those behind it are as they were.
pub record Collapsed (s : Scene) (c ls : List ℕ) (p : ℕ) (w w' : List ℕ) : Type 0 where
  pub state : Stands c (length ls) p (touched_from c p) w' (pass true s (pair_of c ls) (collapse_start (pair_of c ls)) (candidates s (pair_of c ls) p))
  pub rest : Free 0 (collapse_words c p) w w'
