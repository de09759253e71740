-- The labels of corners: a triangle has one label, and a corner carries the labels of the triangles that name it. Definitions only.
use Rattle.std.specs.Prelude.{ℕ, ◌≡◌, Bool, true, false, ◌&&◌, ◌||◌, List, [], ◌∷◌, eqb, get_or}
use Rattle.surface.specs.Triangle.{Tri, names}
use Rattle.surface.specs.Edit.{hinge, without}

-- the corner v carries the label l: a triangle of that label names it
unfoldable pub carries : List Tri → List ℕ → ℕ → ℕ → Bool
carries [] ls v l = false
carries (t ∷ ts) [] v l = false
carries (t ∷ ts) (m ∷ ls) v l = (names t v && eqb m l) || carries ts ls v l

-- the labels allow a flip: the two triangles of the side have the same one
abbrev pub LikeLabels : List Tri → List ℕ → ℕ → ℕ → Type 0
LikeLabels ts ls a b = let h = hinge ts a b in get_or ls h.p1 0 ≡ get_or ls h.p2 0

-- the labels allow a collapse that keeps a and removes b: b carries no label that a lacks
abbrev pub Covers : List Tri → List ℕ → ℕ → ℕ → Type 0
Covers ts ls a b = (l : ℕ) → carries ts ls b l ≡ true → carries ts ls a l ≡ true

-- the labels that are left by a collapse
abbrev pub collapsed_labels : List Tri → List ℕ → ℕ → ℕ → List ℕ
collapsed_labels ts ls a b = let h = hinge ts a b in without h.p1 (without h.p2 ls)

-- no corner has a label in the second pair of lists that it lacks in the first
abbrev pub NoNewLabel : List Tri → List ℕ → List Tri → List ℕ → Type 0
NoNewLabel ts ls us ms = (v l : ℕ) → carries us ms v l ≡ true → carries ts ls v l ≡ true
