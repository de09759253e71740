-- Taking back a flip or a collapse, from the record's words and the pair that the edit made alone, as a program computes it. Definitions only.
use Rattle.std.specs.Prelude.{ℕ, zero, suc, Bool, false, ◌&&◌, ◌||◌, cond, List, [], ◌∷◌, map, eqb, length, get_or, set}
use Rattle.surface.specs.Triangle.{Tri, tri}
use Rattle.surface.specs.Closed.{Step, around}
use Rattle.surface.specs.Check.{next}
use Rattle.history.specs.History.{Pair}

-- the triangle that reads x y z from its corner number s (0 to 2)
abbrev pub turned : ℕ → ℕ → ℕ → ℕ → Tri
turned zero x y z = tri x y z
turned (suc zero) x y z = tri z x y
turned (suc (suc n)) x y z = tri y z x

-- the list with x put in at the place n; what stood there and behind it moves back
unfoldable pub inserted : {A : Type 0} → ℕ → A → List A → List A
inserted zero x l = x ∷ l
inserted (suc n) x [] = x ∷ []
inserted (suc n) x (y ∷ l) = y ∷ inserted n x l

-- the corners that are met from y on before x, a step at a time, in at most n steps
unfoldable pub walk : ℕ → ℕ → ℕ → List Step → List ℕ
unfolding next
walk zero y x l = []
walk (suc n) y x l = cond (eqb y x) [] (y ∷ walk n (next y l) x l)

unfoldable pub among : ℕ → List ℕ → Bool
among x [] = false
among x (y ∷ l) = eqb y x || among x l

-- the corner x, which y follows in its triangle: an a that a corner of the walk follows was b
abbrev pub again : ℕ → ℕ → List ℕ → ℕ → ℕ → ℕ
again a b w x y = cond (eqb x a && among y w) b x

abbrev pub restored : ℕ → ℕ → List ℕ → Tri → Tri
restored a b w t = tri (again a b w t.a t.b) (again a b w t.b t.c) (again a b w t.c t.a)

-- a flip taken back: the two triangles at their places
abbrev pub unflipped : ℕ → ℕ → Tri → Tri → Pair → Pair
unflipped p1 p2 t1 t2 p = record { tris = set (set p.tris p1 t1) p2 t2; labels = p.labels }

-- a collapse taken back: the triangles around a on the walk from x to y get b for a, and the two triangles and labels come in again at their places
unfoldable pub uncollapsed : ℕ → ℕ → ℕ → ℕ → ℕ → ℕ → Tri → Tri → ℕ → ℕ → Pair → Pair
unfolding inserted walk among
uncollapsed a b x y p1 p2 t1 t2 l1 l2 p =
    let l = around p.tris a in
    let w = walk (length l) x y l in
    record { tris = inserted p2 t2 (inserted p1 t1 (map (restored a b w) p.tris)); labels = inserted p2 l2 (inserted p1 l1 p.labels) }

-- the twelve words are kind, a, b, c, d, p1, p2, where the side starts in p1 and in p2, the labels of p1 and p2, and 1 if p1 runs a to b
abbrev pub undone : List ℕ → Pair → Pair
undone ws p =
    let a = get_or ws 1 0 in
    let b = get_or ws 2 0 in
    let c = get_or ws 3 0 in
    let d = get_or ws 4 0 in
    let p1 = get_or ws 5 0 in
    let p2 = get_or ws 6 0 in
    let ahead = eqb (get_or ws 11 0) 1 in
    let u = cond ahead a b in
    let v = cond ahead b a in
    let t1 = turned (get_or ws 7 0) u v c in
    let t2 = turned (get_or ws 8 0) v u d in
    cond (eqb (get_or ws 0 0) 1) (unflipped p1 p2 t1 t2 p)
    (uncollapsed a b (cond ahead d c) (cond ahead c d) p1 p2 t1 t2 (get_or ws 9 0) (get_or ws 10 0) p)
