-- The flip pass (the loop over the sides in the original's `improve`). All tests but `touched` are of the pair that the pass began with. Definitions only.
use Rattle.std.specs.Prelude.{ℕ, zero, suc, ◌+◌, ◌-◌, ◌*◌, Bool, true, false, not, ◌&&◌, ◌||◌, List, [], ◌∷◌, eqb, ltb, length, Float}
use Rattle.std.specs.Float.Ieee as Ieee
use Rattle.std.specs.Float.{inf}
use Rattle.float.specs.Order.{lesser, greater}
use Rattle.float.specs.Point.{plus}
use Rattle.surface.specs.Triangle.{Tri, tri}
use Rattle.surface.specs.Closed.{sides, around}
use Rattle.surface.specs.Edit.{hinge, place}
use Rattle.history.specs.History.{Pair, label}
use Rattle.rounds.specs.Flips.{FlipState}
use Rattle.rounds.specs.Choices.{Side}
use Rattle.oracle.specs.Number.{gain_least, shape_enough}
use Rattle.oracle.specs.Scene.{Scene, score}

-- the worse of the two triangles on the side as they are, and as the flip would make them
abbrev pub before : Scene → Pair → Side → Float
before s p d = let h = hinge p.tris d.one d.two in
    lesser (score s (place p.tris h.p1) (label p h.p1)) (score s (place p.tris h.p2) (label p h.p2))

abbrev pub after : Scene → Pair → Side → Float
after s p d = let h = hinge p.tris d.one d.two in
    lesser (lesser (inf false) (score s (tri h.c h.d h.v) (label p h.p1))) (score s (tri h.d h.c h.u) (label p h.p1))

-- how many sides end at a corner: as many as there are triangles around it
abbrev pub degree : List Tri → ℕ → ℕ
degree ts v = length (around ts v)

-- (n - 6) squared, in whole numbers: one of the two differences is 0
abbrev pub excess : ℕ → ℕ
excess n = (n - 6) * (n - 6) + (6 - n) * (6 - n)

-- the sum over the four corners falls by the flip, which takes a side from two of them and gives one to the others
unfoldable pub evens : ℕ → ℕ → ℕ → ℕ → Bool
evens a b c d = ltb (excess (a - 1) + excess (b - 1) + excess (c + 1) + excess (d + 1)) (excess a + excess b + excess c + excess d)

-- the worse shape gains more than 0.01; or the degrees gain, and it is no worse than it was and than 0.5
unfoldable pub improves : Scene → Pair → Side → Bool
unfolding score lesser greater around evens
improves s p d = let h = hinge p.tris d.one d.two in
    Ieee.lt (plus (before s p d) gain_least) (after s p d)
    || (evens (degree p.tris h.u) (degree p.tris h.v) (degree p.tris h.c) (degree p.tris h.d) && Ieee.le (greater (before s p d) shape_enough) (after s p d))

-- Beside the tests of `may_flip`: the opposite corners differ and are not joined the other way either, which a closed list has anyway; and the flip helps.
unfoldable pub helps : Scene → Pair → FlipState → Side → Bool
unfolding sides improves
helps s p st d = let h = hinge p.tris d.one d.two in
    not (eqb h.c h.d) && (eqb (sides p.tris h.d h.c) 0 && improves s p d)
