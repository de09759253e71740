-- The areas of the work words, what each stage of the flip pass leaves in them, and the contract of the pass.
use Rattle.std.specs.Prelude.{ℕ, ◌+◌, ◌*◌, ◌/◌, ◌%◌, ◌<◌, ◌≤◌, ◌≡◌, List, length, Float}
use Rattle.surface.specs.Triangle.{triangles}
use Rattle.surface.specs.Closed.{Closed, sides}
use Rattle.halfedges.specs.Place.{nx, pv, at, uses}
use Rattle.halfedges.specs.Free.{Free}
use Rattle.sides.specs.Side.{Twin, sorted}
use Rattle.sides.specs.Order.{Sorted}
use Rattle.sorting.specs.Stable.{part}
use Rattle.oracle.specs.Scene.{Scene}
use Rattle.oracle.specs.Round.{Mesh, Sheet, flipped, flips}
use Rattle.scores.specs.Words.{Kept}
use Rattle.scores.specs.Measures.{score_at}
use Rattle.scores.specs.Measures.{pair_of}

-- where the areas of the work words start: behind those of `sides` the chains, the stamps, the marks of the places, the corners as the pass begins, the shapes, and the marks of the corners that are touched
abbrev pub sides_from : List ℕ → ℕ → ℕ
sides_from c p = p * 3 + length c * 3

abbrev pub chains_from : List ℕ → ℕ → ℕ
chains_from c p = p * 3 + length c * 3 + length c / 2

abbrev pub across_from : List ℕ → ℕ → ℕ
across_from c p = p * 3 + length c * 3 + length c / 2 + p + length c + p

-- how many words the pass needs
abbrev pub flip_words : List ℕ → List ℕ → ℕ → ℕ
flip_words c ls p = across_from c p + length c + length c + length ls * 2 + p

-- the marks of a closed list in the words: twins, degrees, the r sides in rising order, and which corners are joined across a side
pub record Noted (c : List ℕ) (p : ℕ) (w : List ℕ) (r : ℕ) : Type 0 where
  pub twins : (k : ℕ) → k < length c → Twin c k (at w (p * 3 + length c + k))
  pub degrees : (v : ℕ) → v < p → at w (p + v) ≡ uses c v (length c)
  pub listed : part w (sides_from c p) r ≡ sorted c p
  pub half : r + r ≡ length c
  pub order : Sorted c (sorted c p)
  pub joins : (k : ℕ) → k < length c → at w (across_from c p + k) ≡ sides (triangles c) (at c k) (at c (pv (at w (p * 3 + length c + nx k))))

-- they are made, and the words behind them stay
pub record ListNoted (c : List ℕ) (p : ℕ) (w w' : List ℕ) (r : ℕ) : Type 0 where
  pub noted : Noted c p w' r
  pub rest : Free 0 (across_from c p + length c) w w'

-- the corners and the shapes stand in the words, no corner is touched, and no word changes below them or behind
pub record Begun (s : Scene) (c ls : List ℕ) (begun kept touched : ℕ) (w w' : List ℕ) : Type 0 where
  pub begins : part w' begun (length c) ≡ c
  pub shapes : (i : ℕ) → i < length ls → Kept w' (kept + i * 2) (score_at s c ls i)
  pub zeros : (x : ℕ) → x < length s.points / 3 → at w' (touched + x) ≡ 0
  pub rest : Free begun (touched + length s.points / 3) w w'

-- what the flip pass is handed: points, and a closed list of triangles with labels; and words
pub record Flippable (ps : List Float) (c ls w : List ℕ) : Type 0 where
  pub thirds : length c % 3 ≡ 0
  pub few : length c ≤ 98304
  pub most : length ps / 3 ≤ 32768
  pub below : (k : ℕ) → k < length c → at c k < length ps / 3
  pub labelled : length ls * 3 ≡ length c
  pub closed : Closed (triangles c)
  pub room : flip_words c ls (length ps / 3) ≤ length w

abbrev pub mesh_of : List Float → List ℕ → List ℕ → Mesh
mesh_of ps c ls = record { points = ps; pair = pair_of c ls }

abbrev pub sheet_of : List Float → List ℕ → Sheet
sheet_of qs ns = record { coefficients = qs; powers = ns }

-- And what it leaves: the pair that the definition has, in a list as long as it was, and the number of its flips. The words that the pass needs are free, and further ones are as they were.
pub record Flipped (ps qs : List Float) (ns c ls w c' w' : List ℕ) (r : ℕ) : Type 0 where
  pub pair : pair_of c' ls ≡ flipped (sheet_of qs ns) (mesh_of ps c ls)
  pub corners : length c' ≡ length c
  pub flips_are : r ≡ flips (sheet_of qs ns) (mesh_of ps c ls)
  pub rest : Free 0 (flip_words c ls (length ps / 3)) w w'
