-- The tables with which the original's `closed_oriented_manifold` lays the steps of each corner together, as its text makes them: `start`, `fill` and `link`. Definitions only.
-- Every corner is below the number n of points: `validate` asks that before.
use Rattle.std.specs.Prelude.{ℕ, zero, suc, ◌+◌, ◌-◌, List, [], ◌∷◌, get_or, set, take, drop, replicate}
use Rattle.surface.specs.Triangle.{Tri}
use Rattle.surface.specs.Closed.{Step, step}

-- a corner v and an edge: a step around v
pub record Around : Type 0 where
  pub at : ℕ
  pub edge : Step

-- `[(a, [b, c]), (b, [c, a]), (c, [a, b])]`, face by face
unfoldable pub steps : List Tri → List Around
steps [] = []
steps (t ∷ ts) = record { at = t.a; edge = step t.b t.c } ∷ record { at = t.b; edge = step t.c t.a } ∷ record { at = t.c; edge = step t.a t.b } ∷ steps ts

-- `table[i] += 1`
abbrev pub raised : List ℕ → ℕ → List ℕ
raised table i = set table i (suc (get_or table i 0))

-- `start[v + 1] += 1`, for every corner of every face
unfoldable pub counted : List Around → List ℕ → List ℕ
counted [] start = start
counted (x ∷ l) start = counted l (raised start (suc x.at))

-- `start[v + 1] += start[v]`, for every v below a number
unfoldable pub summed : ℕ → List ℕ → List ℕ
summed zero start = start
summed (suc v) start = let s = summed v start in set s (suc v) (get_or s (suc v) 0 + get_or s v 0)

-- `link[fill[v]] = edge; fill[v] += 1`, for every step: the table `link` afterwards
unfoldable pub linked : List Around → (fill : List ℕ) (link : List Step) → List Step
linked [] fill link = link
linked (x ∷ l) fill link = linked l (raised fill x.at) (set link (get_or fill x.at 0) x.edge)

-- `link[start[v]..start[v + 1]]`, of n points
unfoldable pub ring_at : List Tri → (n v : ℕ) → List Step
unfolding steps counted summed linked
ring_at faces n v =
    let start = summed n (counted (steps faces) (replicate (n + 1) 0)) in
    let link = linked (steps faces) start (replicate (get_or start n 0) (step 0 0)) in
    take (get_or start (v + 1) 0 - get_or start v 0) (drop (get_or start v 0) link)
