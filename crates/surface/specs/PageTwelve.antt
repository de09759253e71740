-- Page twelve of the user's manual: "the order of the triangles does not affect whether the surface closes". Definitions only; the theorem is `page_twelve` of `proofs/PageTwelve`; that it does not affect where a surface is open either is a law of `Finding`.
-- What it comes to for the calls, which are lent corner numbers and labels, is `lanovishel/specs/PageTwelve`.
use Rattle.std.specs.Prelude.{ℕ, ◌≡◌, ◌↔◌, length}
use mathlib.Core.List.{List, [], ◌∷◌, Permᴰ}
use Rattle.surface.specs.Triangle.{Tri, tri, triangles}
use Rattle.surface.specs.Closed.{Paired, Ringed, Distinct, Closed}

-- the same triangle, its turn begun one corner later
abbrev pub turned : Tri → Tri
turned t = tri t.b t.c t.a

-- t is s, its turn begun at any corner
pub data Turns (s : Tri) : Tri → Type 0 where
  first : Turns s s
  second : Turns s (turned s)
  third : Turns s (turned (turned s))

-- place by place the same triangles, the turn of each begun at any corner
pub data EachTurns : List Tri → List Tri → Type 0 where
  none : EachTurns [] []
  more : {s t : Tri} {ss ts : List Tri} → Turns s t → EachTurns ss ts → EachTurns (s ∷ ss) (t ∷ ts)

-- us lists the triangles of ts in any order, the turn of each begun at any corner
pub record Relisted (ts us : List Tri) : Type 0 where
  pub order : List Tri
  pub same : Permᴰ ts order
  pub turns : EachTurns order us

-- each rule that speaks of the whole list holds of both or of neither
pub record PageTwelve (ts us : List Tri) : Type 0 where
  pub paired : Paired ts ↔ Paired us
  pub ringed : Ringed ts ↔ Ringed us
  pub distinct : Distinct ts ↔ Distinct us
  pub closed : Closed ts ↔ Closed us

-- ---- the lists as they are lent

-- a triangle with its label
pub record LabelledTri : Type 0 where
  pub shape : Tri
  pub label : ℕ

-- the triangles, each with its label, as far as there are both
unfoldable pub with_labels : List Tri → List ℕ → List LabelledTri
with_labels [] labels = []
with_labels (t ∷ ts) [] = []
with_labels (t ∷ ts) (l ∷ labels) = record { shape = t; label = l } ∷ with_labels ts labels

-- the second corners and labels list the triangles of the first in any order, each with its label
pub record Reordered (corners labels corners' labels' : List ℕ) : Type 0 where
  pub as_many-corners : length corners' ≡ length corners
  pub as_many-labels : length labels' ≡ length labels
  pub same : Permᴰ (with_labels (triangles corners) labels) (with_labels (triangles corners') labels')

-- and begin the turn of each at any corner
pub record RelistedLists (corners labels corners' labels' : List ℕ) : Type 0 where
  pub order : List ℕ
  pub reordered : Reordered corners labels order labels'
  pub as_many-corners : length corners' ≡ length order
  pub turns : EachTurns (triangles order) (triangles corners')
