-- What the functions over points, corners, labels and work words are handed, and what they leave.
use Rattle.std.specs.Prelude.{ℕ, zero, suc, ◌+◌, ◌*◌, ◌/◌, ◌%◌, ◌<◌, ◌≤◌, ◌≡◌, Bool, ◌&&◌, ◌||◌, List, [], ◌∷◌, map, eqb, length, get_or, Float}
use Rattle.std.specs.Float.Ieee as Ieee
use Rattle.field.specs.Number.{plus_zero}
use Rattle.surface.specs.Triangle.{triangles}
use Rattle.surface.specs.Edit.{place}
use Rattle.halfedges.specs.Place.{nx, at}
use Rattle.halfedges.specs.Free.{Free}
use Rattle.sorting.specs.Stable.{part, keys_in}
use Rattle.history.specs.History.{Pair}
use Rattle.rounds.specs.Choices.{Side}
use Rattle.oracle.specs.Number.{weak_below}
use Rattle.oracle.specs.Scene.{Scene, score, squared}
use Rattle.oracle.specs.Rising.{side}
use Rattle.oracle.specs.Candidates.{chosen, total, length_bits}

-- the corners have points
pub record Pointed (ps : List Float) (c : List ℕ) : Type 0 where
  pub thirds : length c % 3 ≡ 0
  pub few : length c ≤ 98304
  pub below : (k : ℕ) → k < length c → at c k * 3 + 2 < length ps

-- and the triangles have labels
pub record Lists (ps : List Float) (c ls : List ℕ) : Type 0 where
  pub pointed : Pointed ps c
  pub labelled : length ls * 3 ≡ length c

abbrev pub pair_of : List ℕ → List ℕ → Pair
pair_of c ls = record { tris = triangles c; labels = ls }

-- the shape of the triangle i of a list
abbrev pub score_at : Scene → List ℕ → List ℕ → ℕ → Float
score_at s c ls i = score s (place (triangles c) i) (get_or ls i 0)

abbrev pub weak_at : Scene → List ℕ → List ℕ → ℕ → Bool
weak_at s c ls i = Ieee.lt (score_at s c ls i) weak_below

-- the n words from base on are those of f, and no other word changes
pub record Filled (f : ℕ → ℕ) (base : ℕ) (w w' : List ℕ) (n : ℕ) : Type 0 where
  pub each : (i : ℕ) → i < n → at w' (base + i) ≡ f i
  pub rest : Free base (base + n) w w'

-- the side that starts at a place
abbrev pub side_at : List ℕ → ℕ → Side
side_at c k = side (at c k) (at c (nx k))

-- the places of `count` sides stand in the words from `sides` on, and behind them is room for n words from `base` on
pub record Measurable (ps : List Float) (c w : List ℕ) (sides count base n : ℕ) : Type 0 where
  pub pointed : Pointed ps c
  pub behind : sides + count ≤ base
  pub most : count ≤ length c
  pub room : base + n ≤ length w
  pub places : (i : ℕ) → i < count → at w (sides + i) < length c

-- after the sides are measured: their squared lengths as keys, and r is their sum; no other word changes
pub record Measured (ps : List Float) (c w w' : List ℕ) (sides count keys : ℕ) (r : Float) : Type 0 where
  pub sum : r ≡ total ps plus_zero (map (side_at c) (part w sides count))
  pub lengths : (i : ℕ) → i < count → keys_in w' keys count i ≡ length_bits ps (side_at c (at w (sides + i)))
  pub rest : Free keys (keys + 2 * count) w w'

-- the twins and the marks of the triangles stand in the words too
pub record Marked (c w : List ℕ) (twins marks base : ℕ) : Type 0 where
  pub twins_in : twins + length c ≤ base
  pub marks_in : marks + length c / 3 ≤ base
  pub twins-low : (k : ℕ) → k < length c → at w (twins + k) < length c

-- the side of the place k is shorter than the limit, and one of its two triangles is marked
abbrev pub picks : List Float → List ℕ → ℕ → ℕ → Float → List ℕ → ℕ → Bool
picks ps c twins marks most w k = Ieee.lt (squared ps (at c k) (at c (nx k))) most && (eqb (at w (marks + k / 3)) 1 || eqb (at w (marks + at w (twins + k) / 3)) 1)

-- the d numbers from i on
unfoldable pub up_from : ℕ → ℕ → List ℕ
up_from i zero = []
up_from i (suc d) = i ∷ up_from (suc i) d

-- after the numbers of the sides that the test f picks are listed, in their order: r of them; of the `count` words from `items` on those behind them are free
pub record Picked (f : ℕ → Bool) (w w' : List ℕ) (count items r : ℕ) : Type 0 where
  pub list : part w' items r ≡ chosen f (up_from 0 count)
  pub few : r ≤ count
  pub rest : Free items (items + count) w w'
