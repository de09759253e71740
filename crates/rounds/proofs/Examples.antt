-- Two octahedra, 0 to 5 and 6 to 11: the passes and the round compute.
use Prim.Native.Nat.{ℕ}
use mathlib.Core.Path.{◌≡◌, refl}
use mathlib.Core.Bool.{true, false}
use mathlib.Core.List.{List, [], ◌∷◌}
use Rattle.surface.specs.Triangle.{Tri, tri, corners}
use Rattle.surface.specs.Edit.{flip, collapse, first, hinge}
use Rattle.surface.specs.Check.{closed?, leftover, unused, next as after, others}
use Rattle.surface.specs.Closed.{sides, around}
use Rattle.history.specs.History as History
use Rattle.history.specs.History.{Pair, Entry, last, begun}
use Rattle.rounds.specs.Pass.{retain}
use Rattle.rounds.specs.Renumber.{index, walk}
use Rattle.rounds.specs.Choices.{common, Decision, Side, collapse_start, collapse_pass, collapses_of, flip_start, flips_of, dropped}

octahedra : List Tri
octahedra =
    tri 0 2 4 ∷ tri 2 1 4 ∷ tri 1 3 4 ∷ tri 3 0 4 ∷ tri 2 0 5 ∷ tri 1 2 5 ∷ tri 3 1 5 ∷ tri 0 3 5
    ∷ tri 6 8 10 ∷ tri 8 7 10 ∷ tri 7 9 10 ∷ tri 9 6 10 ∷ tri 8 6 11 ∷ tri 7 8 11 ∷ tri 9 7 11 ∷ tri 6 9 11 ∷ []

start : Pair
unfolding octahedra
start = record { tris = octahedra; labels = 0 ∷ 0 ∷ 0 ∷ 0 ∷ 0 ∷ 0 ∷ 0 ∷ 0 ∷ 1 ∷ 1 ∷ 1 ∷ 1 ∷ 1 ∷ 1 ∷ 1 ∷ 1 ∷ [] }

is-closed : closed? octahedra ≡ true
unfolding closed? octahedra sides around leftover unused after others
is-closed = refl

abbrev de : ℕ → ℕ → Decision
de x y = record { keep = x; remove = y }

abbrev si : ℕ → ℕ → Side
si x y = record { one = x; two = y }

-- 0 1 is no side; 1 3 and 0 3 are touched once 2 went to 0; 6 8 is far from them
decisions : List Decision
decisions = de 0 1 ∷ de 0 2 ∷ de 0 3 ∷ de 1 3 ∷ de 6 8 ∷ de 7 9 ∷ []

applied : List Entry
unfolding start decisions collapses_of
applied = collapses_of start (λ s d. true) (collapse_start start) decisions

two-applied : applied ≡ (record { kind = 2; a = 0; b = 2 } ∷ record { kind = 2; a = 6; b = 8 } ∷ [])
unfolding applied sides first hinge
two-applied = refl

left : List ℕ
unfolding start decisions collapse_pass retain corners
left = corners (dropped start (λ s d. true) decisions).tris

history : List ℕ
unfolding start applied History.after corners
history = corners (last (History.after 9 (begun start) applied)).tris

verdicts : List ℕ
unfolding start applied History.verdicts
verdicts = History.verdicts 9 (begun start) applied

all-accepted : verdicts ≡ (0 ∷ 0 ∷ [])
unfolding verdicts first flip collapse sides around leftover unused after others hinge
all-accepted = refl

same_lists : history ≡ (0 ∷ 1 ∷ 4 ∷ 1 ∷ 3 ∷ 4 ∷ 3 ∷ 0 ∷ 4 ∷ 1 ∷ 0 ∷ 5 ∷ 3 ∷ 1 ∷ 5 ∷ 0 ∷ 3 ∷ 5 ∷ 6 ∷ 7 ∷ 10 ∷ 7 ∷ 9 ∷ 10 ∷ 9 ∷ 6 ∷ 10 ∷ 7 ∷ 6 ∷ 11 ∷ 9 ∷ 7 ∷ 11 ∷ 6 ∷ 9 ∷ 11 ∷ [])
unfolding history first flip collapse sides around leftover unused after others hinge
same_lists = refl

left_is : left ≡ (0 ∷ 1 ∷ 4 ∷ 1 ∷ 3 ∷ 4 ∷ 3 ∷ 0 ∷ 4 ∷ 1 ∷ 0 ∷ 5 ∷ 3 ∷ 1 ∷ 5 ∷ 0 ∷ 3 ∷ 5 ∷ 6 ∷ 7 ∷ 10 ∷ 7 ∷ 9 ∷ 10 ∷ 9 ∷ 6 ∷ 10 ∷ 7 ∷ 6 ∷ 11 ∷ 9 ∷ 7 ∷ 11 ∷ 6 ∷ 9 ∷ 11 ∷ [])
unfolding left first sides hinge
left_is = refl

-- the renumbering by first use
new-numbers : List ℕ
unfolding left walk
new-numbers = walk [] left

new-numbers_are : new-numbers ≡ (0 ∷ 1 ∷ 2 ∷ 1 ∷ 3 ∷ 2 ∷ 3 ∷ 0 ∷ 2 ∷ 1 ∷ 0 ∷ 4 ∷ 3 ∷ 1 ∷ 4 ∷ 0 ∷ 3 ∷ 4 ∷ 5 ∷ 6 ∷ 7 ∷ 6 ∷ 8 ∷ 7 ∷ 8 ∷ 5 ∷ 7 ∷ 6 ∷ 5 ∷ 9 ∷ 8 ∷ 6 ∷ 9 ∷ 5 ∷ 8 ∷ 9 ∷ [])
unfolding new-numbers first sides index hinge
new-numbers_are = refl

-- flips of the octahedra as they are: one in each, and then nothing is untouched enough
flips : List Entry
unfolding start flips_of
flips = flips_of start (λ s d. true) (flip_start start) (si 0 2 ∷ si 1 3 ∷ si 0 1 ∷ si 6 8 ∷ si 10 7 ∷ [])

two-flips : flips ≡ (record { kind = 1; a = 0; b = 2 } ∷ record { kind = 1; a = 6; b = 8 } ∷ [])
unfolding flips first sides hinge
two-flips = refl

-- The tests of the neighbours alone do not do: in a tetrahedron the common neighbours of 0 and 1 are 2 and 3, the two opposite corners, and the collapse is not closed.
tetrahedron : List Tri
tetrahedron = tri 0 1 2 ∷ tri 1 0 3 ∷ tri 0 2 3 ∷ tri 1 3 2 ∷ []

tetrahedron-closed : closed? tetrahedron ≡ true
unfolding closed? tetrahedron sides around leftover unused after others
tetrahedron-closed = refl

neighbours-pass : common tetrahedron 0 1 2 3 ≡ true
unfolding common tetrahedron
neighbours-pass = refl

not_closed : closed? (collapse 0 1 tetrahedron) ≡ false
unfolding closed? collapse tetrahedron sides around leftover unused after others first hinge
not_closed = refl
