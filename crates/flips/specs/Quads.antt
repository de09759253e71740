-- What the flip pass reads of the work words for a side, what it decides by that, and what a flip writes.
use Rattle.std.specs.Prelude.{ℕ, ◌+◌, ◌*◌, ◌/◌, ◌%◌, ◌<◌, ◌≤◌, ◌≡◌, Bool, false, not, ◌&&◌, ◌||◌, cond, List, map, eqb, ltb, length, get_or, set, Float}
use Rattle.std.specs.Float.Ieee as Ieee
use Rattle.std.specs.Float.{inf}
use Rattle.float.specs.Order.{lesser, greater}
use Rattle.float.specs.Point.{plus}
use Rattle.surface.specs.Triangle.{tri, triangles}
use Rattle.surface.specs.Closed.{Closed, sides}
use Rattle.surface.specs.Flat.{put_at}
use Rattle.halfedges.specs.Place.{nx, pv, at, uses}
use Rattle.halfedges.specs.Free.{Free}
use Rattle.sides.specs.Side.{Twin}
use Rattle.sorting.specs.Stable.{part}
use Rattle.oracle.specs.Number.{gain_least, shape_enough}
use Rattle.oracle.specs.Scene.{Scene, score}
use Rattle.scores.specs.Words.{float_at, Held, Kept}
use Rattle.oracle.specs.Gains.{helps}
use Rattle.rounds.specs.Choices.{flip_start, flip_pass, flips_of}
use Rattle.scores.specs.Measures.{score_at, side_at}
use Rattle.scores.specs.Measures.{pair_of}
use Rattle.flips.specs.declared.Quad.{Quad}

-- the side of the place j, whose twin is l, where j is the earlier; `corner` says which corner stands at a place
abbrev pub quad_of : (ℕ → ℕ) → ℕ → ℕ → Quad
quad_of corner j l = record { one = j / 3; two = l / 3; u = corner j; v = corner (nx j); c = corner (pv j); d = corner (pv l); across = pv j }

-- the same for a place k and its twin t
abbrev pub quad_at : (ℕ → ℕ) → ℕ → ℕ → Quad
quad_at corner k t = cond (ltb t k) (quad_of corner t k) (quad_of corner k t)

-- the corners as the pass began, in n words from `begun` on
abbrev pub begun_at : List ℕ → ℕ → ℕ → ℕ → ℕ
begun_at w begun n k = at (part w begun n) k

-- the words of the four corners, from `base` on, are among the first n
abbrev pub Words : ℕ → Quad → ℕ → Type 0
Words base q n = (base + q.u < n) × (base + q.v < n) × (base + q.c < n) × (base + q.d < n)

-- the three numbers of each of the four corners are in a list of n
abbrev pub Pointed : Quad → ℕ → Type 0
Pointed q n = (q.u * 3 + 2 < n) × (q.v * 3 + 2 < n) × (q.c * 3 + 2 < n) × (q.d * 3 + 2 < n)

-- a corner of the four is touched
abbrev pub touches : List ℕ → ℕ → Quad → Bool
touches w touched q =
    not (eqb (at w (touched + q.u)) 0) || (not (eqb (at w (touched + q.v)) 0) || (not (eqb (at w (touched + q.c)) 0) || not (eqb (at w (touched + q.d)) 0)))

-- by the degrees in the words from `degrees` on
abbrev pub evens_at : List ℕ → ℕ → Quad → Bool
evens_at w degrees q = ltb (at w (degrees + q.c) + at w (degrees + q.d) + 2) (at w (degrees + q.u) + at w (degrees + q.v))

-- by the shapes in the words from `kept` on, two for each triangle
abbrev pub before_at : List ℕ → ℕ → Quad → Float
before_at w kept q = lesser (float_at w (kept + q.one * 2)) (float_at w (kept + q.two * 2))

-- both triangles have their two words there
abbrev pub BothHeld : List ℕ → ℕ → Quad → Type 0
BothHeld w kept q = Held w (kept + q.one * 2) × Held w (kept + q.two * 2)

-- the shape of the first triangle that a flip makes, where it has one, and the worse of both
abbrev pub first_of : Scene → Quad → ℕ → Float
first_of s q l = lesser (inf false) (score s (tri q.c q.d q.v) l)

abbrev pub after_of : Scene → Quad → ℕ → Float
after_of s q l = lesser (first_of s q l) (score s (tri q.d q.c q.u) l)

-- the worse shape x becomes y, and e says whether the degrees gain
abbrev pub gains_of : Float → Bool → Float → Bool
gains_of x e y = Ieee.lt (plus x gain_least) y || (e && Ieee.le (greater x shape_enough) y)

unfoldable pub improves_at : Scene → List ℕ → ℕ → ℕ → Quad → ℕ → Bool
unfolding lesser greater score
improves_at s w degrees kept q l =
    gains_of (before_at w kept q) (evens_at w degrees q) (after_of s q l)

-- all that is decided: the labels agree, no corner is touched, the corners across are not joined, and the flip helps
unfoldable pub decides : Scene → List ℕ → List ℕ → ℕ → ℕ → ℕ → ℕ → Quad → Bool
unfolding improves_at
decides s ls w degrees across kept touched q =
    eqb (get_or ls q.one 0) (get_or ls q.two 0) && (not (touches w touched q) && (eqb (at w (across + q.across)) 0 && improves_at s w degrees kept q (get_or ls q.one 0)))

-- the earlier triangle becomes [c, d, v], and the later one [d, c, u]
abbrev pub flip_corners : Quad → List ℕ → List ℕ
flip_corners q c = put_at (put_at c q.one (tri q.c q.d q.v)) q.two (tri q.d q.c q.u)

abbrev pub touch_four : ℕ → Quad → List ℕ → List ℕ
touch_four touched q w = set (set (set (set w (touched + q.u) 1) (touched + q.v) 1) (touched + q.c) 1) (touched + q.d) 1

-- What the pass keeps in the words: the corners c as it began, p their number of points, the twins, the degrees, which corners are joined across a side, and the shapes. Behind these stand p words for the corners that are touched.
pub record Ready (s : Scene) (c ls : List ℕ) (p : ℕ) (w : List ℕ) (across begun kept touched : ℕ) : Type 0 where
  pub thirds : length c % 3 ≡ 0
  pub few : length c ≤ 98304
  pub below : (k : ℕ) → k < length c → at c k < p
  pub points : p * 3 ≤ length s.points
  pub most : p ≤ 32768
  pub labelled : length ls * 3 ≡ length c
  pub closed : Closed (triangles c)
  pub first : p * 3 + length c + length c ≤ across
  pub second : across + length c ≤ begun
  pub third : begun + length c ≤ kept
  pub fourth : kept + length ls * 2 ≤ touched
  pub room : touched + p ≤ length w
  pub twins : (k : ℕ) → k < length c → Twin c k (at w (p * 3 + length c + k))
  pub degrees : (v : ℕ) → v < p → at w (p + v) ≡ uses c v (length c)
  pub joins : (k : ℕ) → k < length c → at w (across + k) ≡ sides (triangles c) (at c k) (at c (pv (at w (p * 3 + length c + nx k))))
  pub shapes : (i : ℕ) → i < length ls → Kept w (kept + i * 2) (score_at s c ls i)

-- the four corners of a quad, its triangles and its place lie within n places and p points
pub record Within (q : Quad) (n p : ℕ) : Type 0 where
  pub u-low : q.u < p
  pub v_low : q.v < p
  pub c-low : q.c < p
  pub d-low : q.d < p
  pub one-low : q.one * 3 + 2 < n
  pub two-low : q.two * 3 + 2 < n
  pub across-low : q.across < n

-- what is read for the place k where there are n places
abbrev pub quad_in : ℕ → ℕ → ℕ → List ℕ → ℕ → Quad
quad_in p n begun w k = quad_at (begun_at w begun n) k (at w (p * 3 + n + k))

abbrev pub decides_at : Scene → List ℕ → ℕ → ℕ → ℕ → ℕ → ℕ → ℕ → List ℕ → ℕ → Bool
decides_at s ls p n across begun kept touched w k = decides s ls w p across kept touched (quad_in p n begun w k)

-- after a side is tried: it is flipped where b says so
pub record Tried (b : Bool) (q : Quad) (touched : ℕ) (c c' w w' : List ℕ) (r : Bool) : Type 0 where
  pub corners : c' ≡ cond b (flip_corners q c) c
  pub words : w' ≡ cond b (touch_four touched q w) w
  pub flips : r ≡ b

-- the shapes of the first n triangles are kept, and no other word changes
pub record Shaped (s : Scene) (c ls : List ℕ) (kept : ℕ) (w w' : List ℕ) (n : ℕ) : Type 0 where
  pub rest : Free kept (kept + n * 2) w w'
  pub shapes : (i : ℕ) → i < n → Kept w' (kept + i * 2) (score_at s c ls i)

-- What the pass over `count` sides is handed besides: the corners c stand from `begun` on, and the places of the sides from `sides` on.
pub record Standing (c w : List ℕ) (sides count begun touched : ℕ) : Type 0 where
  pub begins : part w begun (length c) ≡ c
  pub sides_in : sides + count ≤ touched
  pub most : count ≤ length c
  pub places : (i : ℕ) → i < count → at w (sides + i) < length c

-- after the pass: the corners are those of the definition, and r is the number of its flips; no word changes but those of the touched corners
pub record Passed (s : Scene) (c ls : List ℕ) (p : ℕ) (w : List ℕ) (sides count touched : ℕ) (c' w' : List ℕ) (r : ℕ) : Type 0 where
  pub corners : length c' ≡ length c
  pub rest : Free touched (touched + p) w w'
  pub tris : triangles c' ≡ (flip_pass (pair_of c ls) (helps s (pair_of c ls)) (flip_start (pair_of c ls)) (map (side_at c) (part w sides count))).tris
  pub flips : r ≡ length (flips_of (pair_of c ls) (helps s (pair_of c ls)) (flip_start (pair_of c ls)) (map (side_at c) (part w sides count)))
