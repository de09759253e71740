-- The collapse pass (the original's `collapse_slivers` up to its loop's end). All tests but `touched` are of the pair that the pass began with: a triangle with an untouched corner is still what it was then. Definitions only.
use Rattle.std.specs.Prelude.{ℕ, Bool, true, false, not, ◌&&◌, ◌||◌, cond, List, [], ◌∷◌, map, Float}
use Rattle.std.specs.Float.Ieee as Ieee
use Rattle.std.specs.Float.{inf}
use Rattle.float.specs.Order.{lesser, within}
use Rattle.surface.specs.Triangle.{Tri, names}
use Rattle.surface.specs.Edit.{hinge, renamed}
use Rattle.surface.specs.Check.{every}
use Rattle.surface.specs.Label.{carries}
use Rattle.history.specs.History.{Pair, Entry, covered, exists}
use Rattle.rounds.specs.Pass.{State, near, collapse_entry, result}
use Rattle.rounds.specs.Choices.{Side, Decision, common, filled, collapse_step, collapse_start}
use Rattle.oracle.specs.Number.{floor_low, floor_high}
use Rattle.oracle.specs.Scene.{Scene, score}

-- what a triangle's shape must not fall below: its shape, kept within 0.05 and 0.3
abbrev pub floor : Float → Float
floor q = within q floor_low floor_high

-- the collapse that keeps a and removes b changes the triangle, and it stays: it names b and not a
abbrev pub changed : ℕ → ℕ → Tri → Bool
changed a b t = names t b && not (names t a)

-- no triangle that the collapse changes falls below its floor
unfoldable pub valid : Scene → List Tri → List ℕ → ℕ → ℕ → Bool
unfolding score within
valid s [] ls a b = true
valid s (t ∷ ts) [] a b = true
valid s (t ∷ ts) (l ∷ ls) a b = not (changed a b t && Ieee.lt (score s (renamed a b t) l) (floor (score s t l))) && valid s ts ls a b

-- the least of m and the shapes of the triangles that the collapse changes, in the order of the list
unfoldable pub least : Scene → ℕ → ℕ → Float → List Tri → List ℕ → Float
unfolding score lesser
least s a b m [] ls = m
least s a b m (t ∷ ts) [] = m
least s a b m (t ∷ ts) (l ∷ ls) = least s a b (cond (changed a b t) (lesser m (score s (renamed a b t) l)) m) ts ls

abbrev pub worst : Scene → Pair → ℕ → ℕ → Float
worst s p a b = least s a b (inf false) p.tris p.labels

-- the labels and the shapes allow the collapse that keeps a and removes b
unfoldable pub fit : Scene → Pair → ℕ → ℕ → Bool
unfolding valid every carries
fit s p a b = covered p a b && valid s p.tris p.labels a b

abbrev pub deciding : ℕ → ℕ → Decision
deciding a b = record { keep = a; remove = b }

-- Which end of a side is kept: the first, unless only the second way is fit, or both are and the least shape is greater by the second. (Where neither is fit, `accepts` says no.)
unfoldable pub better : Scene → Pair → Side → Decision
unfolding fit least
better s p d =
    let first = fit s p d.one d.two in
    let second = fit s p d.two d.one in
    cond (first && not (second && Ieee.lt (worst s p d.one d.two) (worst s p d.two d.one))) (deciding d.one d.two) (deciding d.two d.one)

-- The side between a and b is one of a piece of just four corners: with the corners c and d opposite to it, the triangles on a, c, d and on b, c, d are there too.
unfoldable pub tetrahedron : Pair → ℕ → ℕ → Bool
unfolding filled
tetrahedron p a b = let h = hinge p.tris a b in filled p.tris a h.c h.d && filled p.tris b h.c h.d

-- The pass takes the decision: both ends are untouched, the side is there, its ends have only the opposite corners for common neighbours, and the collapse is fit. With `skip`, the side of a piece of just four corners is left.
unfoldable pub accepts : Bool → Scene → Pair → State → Decision → Bool
unfolding common tetrahedron every carries valid
accepts skip s p st d =
    let a = d.keep in
    let b = d.remove in
    let h = hinge p.tris a b in
    (not (st.touched a) && (not (st.touched b) && (exists p a b && (common p.tris a b h.c h.d && (not (skip && tetrahedron p a b) && covered p a b)))))
    && valid s p.tris p.labels a b

-- the pass over the candidates
unfoldable pub pass : Bool → Scene → Pair → State → List Side → State
unfolding accepts better collapse_step
pass skip s p st [] = st
pass skip s p st (d ∷ ds) =
    let m = better s p d in
    pass skip s p (cond (accepts skip s p st m) (collapse_step p st m.keep m.remove) st) ds

-- the collapses that it makes
unfoldable pub collapses : Bool → Scene → Pair → State → List Side → List Decision
unfolding accepts better collapse_step
collapses skip s p st [] = []
collapses skip s p st (d ∷ ds) =
    let m = better s p d in
    let next = collapse_step p st m.keep m.remove in
    cond (accepts skip s p st m) (m ∷ collapses skip s p next ds) (collapses skip s p st ds)
