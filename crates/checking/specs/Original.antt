-- The Rust's `validate` of triangles.rs, line by line, and what it says beside ours. Definitions only; `validate_original` of `proofs/Original` proves `EqualsOriginal` of every call that is `Lendable`.
-- Not modelled: machine widths (lengths, and corners in usize, have no bound here), and the zero from which the sum in `dot` starts, which document 01 leaves out: `dot` is (first + second) + third.
use Rattle.std.specs.Prelude.{ℕ, ◌/◌, ◌%◌, ◌≤◌, ◌<◌, ◌≡◌, ◌⊎◌, ◌↔◌, Bool, not, ◌&&◌, ◌||◌, eqb, get_or, Float}
use Rattle.std.proofs.Math.Bool.{cond}
use mathlib.Core.List.{List, [], ◌∷◌, ◌++◌}
use Rattle.std.proofs.Math.Dec.{leb}
use Rattle.std.proofs.Math.ListN.{length}
use Rattle.std.specs.Float.Ieee.{binary64, le}
use Rattle.std.specs.Float.{nan}
use Rattle.float.specs.Root.{root}
use Rattle.float.specs.Order.{lesser, is_finite}
use Rattle.float.specs.Point.{plus, times, difference, dotted, crossed}
use Rattle.float.specs.declared.Point.{Point}
use Rattle.surface.specs.Triangle.{Tri, triangles}
use Rattle.surface.specs.Closed.{Step, step}
use Rattle.surface.specs.Check.{every}
use Rattle.surface.specs.Original.{closed_oriented}
use Rattle.questions.specs.Questions.{needed}
use Rattle.quality.specs.Quality.{number, over}

-- ---- what it returns

pub data Message : Type 0 where
  InvalidArrays : Message
  InvalidIndex : Message
  DegenerateTriangle : Message
  NotClosed : Message
  NonpositiveVolume : Message

pub data Result : Type 0 where
  Panics : Result
  Err : Message → Result
  Ok : Float → Float → Result

-- ---- its text

abbrev pub finite? : Point → Bool
finite? p = is_finite p.x && (is_finite p.y && is_finite p.z)

-- `mesh.points[i]`, which is asked for below its length alone
abbrev pub point_of : List Point → ℕ → Point
point_of points i = get_or points i (record { x = nan; y = nan; z = nan })

module _ (points : List Point) (faces : List Tri) (origin : Point) where
  -- the lines behind the loop
  unfoldable pub behind : (minimum volume : Float) (directed : List Step) → Result
  behind minimum volume directed =
      cond (not (closed_oriented faces directed (length points))) (Err NotClosed)
      (cond (not (is_finite volume) || le volume (number 0)) (Err NonpositiveVolume)
      (Ok minimum volume))

  -- `for face in &mesh.faces`, from a face on, with what the turns before it have made
  unfoldable pub from_face : (minimum volume : Float) (directed : List Step) → List Tri → Result
  unfolding behind
  from_face minimum volume directed [] = behind minimum volume directed
  from_face minimum volume directed (face ∷ left) =
      let n = length points in
      let a = difference (point_of points face.a) origin in
      let b = difference (point_of points face.b) origin in
      let c = difference (point_of points face.c) origin in
      let normal = crossed (difference b a) (difference c a) in
      let sum = plus (plus (dotted (difference b a) (difference b a)) (dotted (difference c b) (difference c b))) (dotted (difference a c) (difference a c)) in
      let q = over (times (times (number 2) (root binary64 (number 3))) (root binary64 (dotted normal normal))) sum in
      let volume' = plus volume (over (dotted a (crossed b c)) (number 6)) in
      let directed' = directed ++ (step face.a face.b ∷ step face.b face.c ∷ step face.c face.a ∷ []) in
      cond (leb n face.a || (leb n face.b || leb n face.c)) (Err InvalidIndex)
      (cond (not (is_finite q) || le q (number 0)) (Err DegenerateTriangle)
      (from_face (lesser minimum q) volume' directed' left))

-- from `let mut minimum` on: `mesh.points[0]` is out of range where there is no point
abbrev pub from_origin : List Point → List Tri → Result
from_origin [] faces = Panics
from_origin (origin ∷ others) faces = from_face (origin ∷ others) faces origin (number 1) (number 0) [] faces

-- `validate`
unfoldable pub original : (points : List Point) (faces : List Tri) (labels : List ℕ) → Result
unfolding from_face every
original points faces labels =
    cond (not (eqb (length faces) (length labels)) || not (every finite? points)) (Err InvalidArrays)
    (cond (eqb (length faces) 0) (Ok (number 0) (number 0))
    (from_origin points faces))

-- ---- beside ours

-- the points of a list of coordinates, three for each
unfoldable pub points_of : List Float → List Point
points_of [] = []
points_of (x ∷ []) = []
points_of (x ∷ y ∷ []) = []
points_of (x ∷ y ∷ z ∷ l) = record { x = x; y = y; z = z } ∷ points_of l

-- what it says of the mesh that lent lists stand for
abbrev pub original_of : (points : List Float) (corners labels : List ℕ) → Result
original_of points corners labels = original (points_of points) (triangles corners) labels

-- what ours asks besides: points and triangles in threes, so that there is a mesh; at most 32,768 of each; and enough work words
pub record Lendable (points : List Float) (corners work : List ℕ) : Type 0 where
  pub points_in_threes : length points % 3 ≡ 0
  pub corners_in_threes : length corners % 3 ≡ 0
  pub few-points : length points / 3 ≤ 32768
  pub few-triangles : length corners / 3 ≤ 32768
  pub enough-words : needed points corners ≤ length work

-- Ours answers a number, and accepts with a quality q and a volume v where `Accepts q v`: the answers, each beside the Rust's.
pub record EqualsOriginal (points : List Float) (corners labels : List ℕ) (Accepts : (q v : Float) → Type 0) (number : ℕ) : Type 0 where
  pub ok : (q v : Float) → (original_of points corners labels ≡ Ok q v) ↔ Accepts q v
  pub arrays : (original_of points corners labels ≡ Err InvalidArrays) ↔ ((number ≡ 1) ⊎ (number ≡ 4))
  -- ours refuses where the Rust panics
  pub index : ((original_of points corners labels ≡ Err InvalidIndex) ⊎ (original_of points corners labels ≡ Panics)) ↔ (number ≡ 5)
  pub degenerate : (original_of points corners labels ≡ Err DegenerateTriangle) ↔ (number ≡ 6)
  pub manifold : (original_of points corners labels ≡ Err NotClosed) ↔ ((number ≡ 31) ⊎ ((number ≡ 32) ⊎ (number ≡ 33)))
  pub volume : (original_of points corners labels ≡ Err NonpositiveVolume) ↔ (number ≡ 8)
  -- the Rust panics where there are triangles, each with its label, and no points
  pub panics : (original_of points corners labels ≡ Panics) ↔ ((length points ≡ 0) × (0 < length corners) × (length labels ≡ length corners / 3))
