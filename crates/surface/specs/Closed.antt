-- When a list of triangles is closed: document 01's rules (a) to (d), each on its own, and all four together. Definitions only.
-- `Check` has the same as a test that computes.
use Rattle.std.specs.Prelude.{ℕ, ◌+◌, ◌<◌, ◌≡◌, Bool, true, false, ◌&&◌, eqb, length, get_or}
use mathlib.Core.List.{List, [], ◌∷◌, Permᴰ}
use Rattle.surface.specs.Triangle.{Tri, tri, names}

-- ---- sides

abbrev pub one : Bool → ℕ
one true = 1
one false = 0

-- how often a triangle has the directed side from u to v: v follows u in it, the last corner followed by the first
abbrev pub times : Tri → ℕ → ℕ → ℕ
times t u v = one (eqb t.a u && eqb t.b v) + (one (eqb t.b u && eqb t.c v) + one (eqb t.c u && eqb t.a v))

-- how often the directed side from u to v occurs in a list of triangles
unfoldable pub sides : List Tri → ℕ → ℕ → ℕ
sides [] u v = 0
sides (t ∷ ts) u v = times t u v + sides ts u v

-- ---- rings

-- a step around a corner, one for each triangle there: from the corner that follows it in the triangle to the one after
pub record Step : Type 0 where
  pub from : ℕ
  pub to : ℕ

abbrev pub step : ℕ → ℕ → Step
step x y = record { from = x; to = y }

abbrev pub keep : Bool → Step → List Step → List Step
keep true s l = s ∷ l
keep false s l = l

-- the steps around v, one for each place where a triangle names it, in the order of the list
unfoldable pub around : List Tri → ℕ → List Step
around [] v = []
around (t ∷ ts) v =
    keep (eqb t.a v) (step t.b t.c) (keep (eqb t.b v) (step t.c t.a) (keep (eqb t.c v) (step t.a t.b) (around ts v)))

-- a corner is in use if a triangle names it
abbrev pub InUse : List Tri → ℕ → Type 0
InUse ts v = 0 < length (around ts v)

-- the steps lead from x to y, each from where the one before ended
unfoldable pub Leads : ℕ → List Step → ℕ → Type 0
Leads x [] y = x ≡ y
Leads x (s ∷ l) y = (s.from ≡ x) × Leads s.to l y

-- the steps, in some order, lead once around. (Where (b) holds, no two leave one corner, so that no corner is met twice on the way.)
pub record Ring (l : List Step) : Type 0 where
  pub order : List Step
  pub same : Permᴰ order l
  pub start : ℕ
  pub leads : Leads start order start

-- ---- the rules

pub record Differ (t : Tri) : Type 0 where
  pub ab : t.a ≡ t.b → ⊥
  pub bc : t.b ≡ t.c → ⊥
  pub ca : t.c ≡ t.a → ⊥

-- (a) the corners of a triangle differ
abbrev pub Differing : List Tri → Type 0
Differing ts = (i : ℕ) → i < length ts → Differ (get_or ts i (tri 0 0 0))

-- (b) every directed side occurs once and its reverse occurs once
pub record Paired (ts : List Tri) : Type 0 where
  pub once : (u v : ℕ) → 0 < sides ts u v → sides ts u v ≡ 1
  pub back : (u v : ℕ) → 0 < sides ts u v → sides ts v u ≡ 1

-- (c) around each corner in use the triangles form one ring
abbrev pub Ringed : List Tri → Type 0
Ringed ts = (v : ℕ) → InUse ts v → Ring (around ts v)

-- the triangles have the same three corners, in any order
abbrev pub SameCorners : Tri → Tri → Type 0
SameCorners s t = (v : ℕ) → names s v ≡ names t v

-- (d) no two triangles have the same three corners
abbrev pub Distinct : List Tri → Type 0
Distinct ts = (i j : ℕ) → i < j → j < length ts → SameCorners (get_or ts i (tri 0 0 0)) (get_or ts j (tri 0 0 0)) → ⊥

-- (b) and (c), which `closed_oriented_manifold` judges
pub record Manifold (ts : List Tri) : Type 0 where
  pub paired : Paired ts
  pub ringed : Ringed ts

-- all four
pub record Closed (ts : List Tri) : Type 0 where
  pub differ : Differing ts
  pub paired : Paired ts
  pub ringed : Ringed ts
  pub distinct : Distinct ts
