-- Small surfaces by computation: one tetrahedron cut below its top, cut between two and two corners, and two tetrahedra cut at once.
use Prim.Native.Nat.{ℕ, ◌+◌}
use mathlib.Core.Path.{◌≡◌, refl}
use mathlib.Core.Bool.{true, ◌||◌}
use mathlib.Core.List.{List, [], ◌∷◌}
use lib.Dec.{eqb, leb}
use Rattle.surface.specs.Triangle.{Tri, tri}
use Rattle.outlines.specs.Side.{insert_side, strike, strike_all}
use Rattle.outlines.specs.Crossing.{crossings, apex_of, next_crossed}
use Rattle.outlines.specs.Outline.{circuit, loop_from, loops_of, numbered_loops, outlines, place_words}

-- a tetrahedron whose corners are numbered from n on
abbrev four : ℕ → List Tri → List Tri
four n l = tri n (n + 2) (n + 1) ∷ tri n (n + 1) (n + 3) ∷ tri (n + 1) (n + 2) (n + 3) ∷ tri (n + 2) n (n + 3) ∷ l

below_top : place_words (outlines (λ v. eqb v 3) (four 0 [])) ≡ 0 ∷ 3 ∷ 0 ∷ 2 ∷ 3 ∷ 0 ∷ 1 ∷ 3 ∷ 0 ∷ []
unfolding insert_side strike strike_all crossings apex_of next_crossed circuit loop_from loops_of numbered_loops place_words
below_top = refl

two_and_two : place_words (outlines (λ v. leb 2 v) (four 0 [])) ≡ 0 ∷ 2 ∷ 0 ∷ 1 ∷ 2 ∷ 0 ∷ 1 ∷ 3 ∷ 0 ∷ 0 ∷ 3 ∷ 0 ∷ []
unfolding insert_side strike strike_all crossings apex_of next_crossed circuit loop_from loops_of numbered_loops place_words
two_and_two = refl

two-loops : place_words (outlines (λ v. eqb v 3 || eqb v 4) (four 0 (four 4 []))) ≡ 0 ∷ 3 ∷ 0 ∷ 2 ∷ 3 ∷ 0 ∷ 1 ∷ 3 ∷ 0 ∷ 4 ∷ 5 ∷ 1 ∷ 4 ∷ 7 ∷ 1 ∷ 4 ∷ 6 ∷ 1 ∷ []
unfolding insert_side strike strike_all crossings apex_of next_crossed circuit loop_from loops_of numbered_loops place_words
two-loops = refl

-- a plane above or below all corners
no_loop : place_words (outlines (λ v. true) (four 0 [])) ≡ []
unfolding insert_side strike strike_all crossings apex_of next_crossed circuit loop_from loops_of numbered_loops place_words
no_loop = refl
