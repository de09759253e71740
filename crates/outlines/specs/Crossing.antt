-- What the plane crosses, and how one goes on from a crossed side. `above` tells of each corner whether it lies above the plane; none lies on it. Definitions only.
use Rattle.std.specs.Prelude.{ℕ, ◌+◌, Bool, not, cond, List, [], ◌∷◌, eqb}
use Rattle.std.specs.Bool.{beq}
use Rattle.surface.specs.Triangle.{Tri, runs}
use Rattle.surface.specs.Closed.{one}
use Rattle.surface.specs.Edit.{opposite}
use Rattle.outlines.specs.Side.{Side, side_of, insert_side}

-- the plane crosses a side: one end is above and the other below
abbrev pub crossed? : (ℕ → Bool) → Side → Bool
crossed? above s = not (beq (above s.low) (above s.high))

-- the plane crosses a triangle: it crosses two of its sides
abbrev pub crossed_triangle? : (ℕ → Bool) → Tri → Bool
crossed_triangle? above t =
    eqb (one (crossed? above (side_of t.a t.b)) + (one (crossed? above (side_of t.b t.c)) + one (crossed? above (side_of t.c t.a)))) 2

-- all crossed sides of a triangle list, in rising order, each once
abbrev pub insert_crossed : (ℕ → Bool) → Side → List Side → List Side
insert_crossed above s l = cond (crossed? above s) (insert_side s l) l

unfoldable pub crossings : (ℕ → Bool) → List Tri → List Side
unfolding insert_side
crossings above [] = []
crossings above (t ∷ ts) =
    insert_crossed above (side_of t.a t.b) (insert_crossed above (side_of t.b t.c) (insert_crossed above (side_of t.c t.a) (crossings above ts)))

-- the corner opposite to the side in the triangle that runs from u to v. (A closed list has one such triangle; 0 where there is none.)
unfoldable pub apex_of : List Tri → ℕ → ℕ → ℕ
apex_of [] u v = 0
apex_of (t ∷ ts) u v = cond (runs t u v) (opposite t u v) (apex_of ts u v)

-- the end of a crossed side that lies above, where `up` is true, and the one that lies below, where it is false
abbrev pub end_of : (ℕ → Bool) → Bool → Side → ℕ
end_of above up s = cond (beq (above s.low) up) s.low s.high

-- The other crossed side of the triangle that runs the side s from its end of the kind `up` to the other end. The triangle beyond that side runs it, too, from the kind `up` to the other,
-- so that one goes on and on by the same rule.
unfoldable pub next_crossed : (ℕ → Bool) → List Tri → Bool → Side → Side
unfolding apex_of
next_crossed above ts up s =
    let x = end_of above up s in
    let y = end_of above (not up) s in
    let z = apex_of ts x y in
    cond (beq (above z) up) (side_of z y) (side_of x z)
