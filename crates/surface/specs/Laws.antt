-- What is proved of flips and collapses of a closed list: one record, each field a law. Statements only; `laws` of `proofs/Laws` proves it, and `proofs/Examples` has,
-- for each "if and only if", a list on each side. Throughout, c and d are the corners opposite to the side, p1 and p2 its two triangles, as `hinge` finds them.
use Rattle.std.specs.Prelude.{ℕ, ◌*◌, ◌<◌, ◌≡◌, ◌↔◌, ◌⊎◌, true, List, length}
use Rattle.surface.specs.Triangle.{Tri, tri}
use Rattle.surface.specs.Closed.{around, InUse, SameCorners, Differing, Paired, Ringed, Distinct, Closed}
use Rattle.surface.specs.PageTwelve.{Turns}
use Rattle.surface.specs.Edit.{has, place, hinge, flip, collapse}
use Rattle.surface.specs.Label.{LikeLabels, Covers, collapsed_labels, NoNewLabel}
use Rattle.surface.specs.Euler.{edges, euler, Below}

-- a and b are the ends of a side
abbrev pub IsSide : List Tri → ℕ → ℕ → Type 0
IsSide ts a b = (i : ℕ) × (i < length ts) × (has a b (place ts i) ≡ true)

-- the four corners of a side's two triangles differ
pub record FourDiffer (u v c d : ℕ) : Type 0 where
  pub uv : u ≡ v → ⊥
  pub vc : v ≡ c → ⊥
  pub cu : c ≡ u → ⊥
  pub ud : u ≡ d → ⊥
  pub dv : d ≡ v → ⊥
  pub cd : c ≡ d → ⊥

-- The side of a and b has exactly two triangles, p1 before p2. They run opposite ways: p1 is u v c and p2 is v u d, where u and v are a and b or b and a.
pub record TwoTriangles (ts : List Tri) (a b : ℕ) : Type 0 where
  pub order : (hinge ts a b).p1 < (hinge ts a b).p2
  pub fits : (hinge ts a b).p2 < length ts
  pub ahead : Turns (place ts (hinge ts a b).p1) (tri (hinge ts a b).u (hinge ts a b).v (hinge ts a b).c)
  pub back : Turns (place ts (hinge ts a b).p2) (tri (hinge ts a b).v (hinge ts a b).u (hinge ts a b).d)
  pub ends : (((hinge ts a b).u ≡ a) × ((hinge ts a b).v ≡ b)) ⊎ (((hinge ts a b).u ≡ b) × ((hinge ts a b).v ≡ a))
  pub only : (i : ℕ) → i < length ts → has a b (place ts i) ≡ true → (i ≡ (hinge ts a b).p1) ⊎ (i ≡ (hinge ts a b).p2)
  pub differ : FourDiffer (hinge ts a b).u (hinge ts a b).v (hinge ts a b).c (hinge ts a b).d

-- some triangle has the corners x, y and z
abbrev pub Filled : List Tri → ℕ → ℕ → ℕ → Type 0
Filled ts x y z = (i : ℕ) × (i < length ts) × SameCorners (place ts i) (tri x y z)

-- The link condition: a and b have no common neighbour but c and d, and the piece is no tetrahedron, that is, not both of the two further triangles of a, b, c and d are there.
pub record LinkCondition (ts : List Tri) (a b c d : ℕ) : Type 0 where
  pub common : (e : ℕ) → IsSide ts a e → IsSide ts b e → (e ≡ c) ⊎ (e ≡ d)
  pub piece : Filled ts a c d → Filled ts b c d → ⊥

-- the laws of one side of a closed list
pub record SideLaws (ts : List Tri) (a b : ℕ) : Type 0 where
  pub two-triangles : TwoTriangles ts a b
  -- when the edited list is closed
  pub flip-closed : Closed (flip a b ts) ↔ (IsSide ts (hinge ts a b).c (hinge ts a b).d → ⊥)
  pub collapse-closed : Closed (collapse a b ts) ↔ LinkCondition ts a b (hinge ts a b).c (hinge ts a b).d
  -- a flip keeps the corners in use, a collapse loses b alone
  pub flip-corners : (v : ℕ) → InUse (flip a b ts) v ↔ InUse ts v
  pub collapse-corners : (v : ℕ) → InUse (collapse a b ts) v ↔ ((InUse ts v) × (v ≡ b → ⊥))
  -- corners in use, less sides, plus triangles, is the same
  pub flip-euler : (n : ℕ) → Below n ts → Closed (flip a b ts) → euler n (flip a b ts) ≡ euler n ts
  pub collapse-euler : (n : ℕ) → Below n ts → Closed (collapse a b ts) → euler n (collapse a b ts) ≡ euler n ts
  -- no corner gets a label that it lacked, where the labels allow the edit
  pub flip-labels : (ls : List ℕ) → length ls ≡ length ts → LikeLabels ts ls a b → NoNewLabel ts ls (flip a b ts) ls
  pub collapse-labels : (ls : List ℕ) → length ls ≡ length ts → Covers ts ls a b → NoNewLabel ts ls (collapse a b ts) (collapsed_labels ts ls a b)

pub record Laws : Type 0 where
  pub side : (ts : List Tri) → Closed ts → (a b : ℕ) → IsSide ts a b → SideLaws ts a b
  -- sides are three halves of the triangles
  pub three_halves : (ts : List Tri) → Closed ts → (n : ℕ) → Below n ts → 2 * edges n ts ≡ 3 * length ts
  -- which bound above the corners in use is taken for Euler's number does not matter
  pub any-bound : (ts : List Tri) (m n : ℕ) → Below m ts → Below n ts → euler m ts ≡ euler n ts
  -- given (a) to (c), rule (d) fails exactly at a corner of two triangles
  pub corner_of_two : (ts : List Tri) → Differing ts → Paired ts → Ringed ts → Distinct ts ↔ ((v : ℕ) → length (around ts v) ≡ 2 → ⊥)
