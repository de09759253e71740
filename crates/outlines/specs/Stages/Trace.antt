-- The walk as the program makes it, over places of the corner list: which words it reads and which it writes. Definitions only.
-- The lent words: what `list_sides` leaves, then a word for each point, 1 where it lies above and else 0, then a word for each place, 1 where the side that it runs from its smaller corner is done.
use Rattle.std.specs.Prelude.{ℕ, zero, suc, ◌+◌, ◌*◌, ◌-◌, ◌%◌, ◌<◌, ◌≤◌, ◌≡◌, Bool, not, ◌&&◌, cond, List, [], ◌∷◌, eqb, ltb, length, set}
use Rattle.halfedges.specs.Place.{nx, pv, at}
use Rattle.sides.specs.Order.{Upward}
use Rattle.sides.specs.Side.{Twin, twins-from, sides-from, sorted}

-- where the areas of the lent words start: the kinds of the points, and the marks
abbrev pub kinds-from : List ℕ → ℕ → ℕ
kinds-from c p = sides-from c p + length c

abbrev pub marks-from : List ℕ → ℕ → ℕ
marks-from c p = kinds-from c p + p

-- whether the point v lies above, as noted
abbrev pub kind_of : List ℕ → ℕ → List ℕ → ℕ → ℕ
kind_of c p w v = at w (kinds-from c p + v)

-- the place that runs the next side the way of the walk
abbrev pub next_place : List ℕ → ℕ → List ℕ → ℕ → ℕ
next_place c p w k = at w (twins-from c p + cond (eqb (kind_of c p w (at c (pv k))) (kind_of c p w (at c k))) (nx k) (pv k))

-- of the places k and t of a side, the one that runs it from its smaller corner; and that of the side of k
abbrev pub upper_of : List ℕ → ℕ → ℕ → ℕ
upper_of c k t = cond (ltb (at c k) (at c (nx k))) k t

abbrev pub up_place : List ℕ → ℕ → List ℕ → ℕ → ℕ
up_place c p w k = upper_of c k (at w (twins-from c p + k))

-- the side of k is crossed, and not yet done
abbrev pub crossed_place : List ℕ → ℕ → List ℕ → ℕ → Bool
crossed_place c p w k = not (eqb (kind_of c p w (at c k)) (kind_of c p w (at c (nx k))))

abbrev pub open? : List ℕ → ℕ → List ℕ → ℕ → Bool
open? c p w k = crossed_place c p w k && eqb (at w (marks-from c p + k)) 0

-- what a visit of the side of k writes: the mark, and the list's place f
abbrev pub with_mark : List ℕ → ℕ → List ℕ → ℕ → List ℕ
with_mark c p w k = set w (marks-from c p + up_place c p w k) 1

abbrev pub put3 : List ℕ → ℕ → ℕ → ℕ → ℕ → List ℕ
put3 l f x y q = set (set (set l (3 * f) x) (3 * f + 1) y) (3 * f + 2) q

abbrev pub with_place : List ℕ → ℕ → List ℕ → List ℕ → ℕ → ℕ → ℕ → List ℕ
with_place c p w l k f q = put3 l f (at c (up_place c p w k)) (at c (nx (up_place c p w k))) q

pub record Visited (c : List ℕ) (p : ℕ) (w w' l l' : List ℕ) (k f q r : ℕ) : Type 0 where
  pub mark : w' ≡ with_mark c p w k
  pub place : l' ≡ with_place c p w l k f q
  pub upper : r ≡ up_place c p w k

-- from the place k on until the start is met again, at most n places
unfoldable pub follow : (ℕ → ℕ) → ℕ → ℕ → ℕ → List ℕ
follow next start zero k = []
follow next start (suc n) k = let more = follow next start n (next k) in cond (eqb k start) [] (k ∷ more)

-- visits of several places: the work words, and the list from its place f on
unfoldable pub mark_all : List ℕ → ℕ → List ℕ → List ℕ → List ℕ
mark_all c p w [] = w
mark_all c p w (k ∷ ks) = mark_all c p (with_mark c p w k) ks

unfoldable pub note_all : List ℕ → ℕ → List ℕ → List ℕ → ℕ → ℕ → List ℕ → List ℕ
note_all c p w l f q [] = l
note_all c p w l f q (k ∷ ks) = note_all c p w (with_place c p w l k f q) (suc f) q ks

-- what the walks are handed: corners of p points, and room for the areas
pub record Walkable (c : List ℕ) (p : ℕ) (w : List ℕ) : Type 0 where
  pub thirds : length c % 3 ≡ 0
  pub few : length c ≤ 98304
  pub points : p ≤ 32768
  pub below : (k : ℕ) → k < length c → at c k < p
  pub room : marks-from c p + length c ≤ length w
  pub twins : (k : ℕ) → k < length c → Twin c k (at w (twins-from c p + k))

-- the loop of the place k, where f of n places of the list are filled: its places
abbrev pub loop_of : List ℕ → ℕ → List ℕ → ℕ → ℕ → ℕ → List ℕ
loop_of c p w n f k = k ∷ follow (next_place c p w) k (n - suc f) (next_place c p w k)

-- after a loop is followed
pub record Followed (c : List ℕ) (p : ℕ) (w w' l l' : List ℕ) (ks : List ℕ) (f q r : ℕ) : Type 0 where
  pub marks : w' ≡ mark_all c p w ks
  pub list : l' ≡ note_all c p w l f q ks
  pub filled : r ≡ f + length ks

-- what stands between two sides of the list: the words, the answer, how many of its places are filled, and how many loops
pub record Progress : Type 0 where
  pub work : List ℕ
  pub list : List ℕ
  pub filled : ℕ
  pub loops : ℕ

-- the loop of the place k is followed, where its side is open
abbrev pub side_done : List ℕ → ℕ → ℕ → ℕ → Progress → Progress
side_done c p n k s =
    let ks = loop_of c p s.work n s.filled k in
    cond (open? c p s.work k && ltb s.filled n)
    (record { work = mark_all c p s.work ks; list = note_all c p s.work s.list s.filled s.loops ks; filled = s.filled + length ks; loops = suc s.loops }) s

-- the sides of the places ks in turn
unfoldable pub sides_done : List ℕ → ℕ → ℕ → List ℕ → Progress → Progress
unfolding mark_all note_all follow
sides_done c p n [] s = s
sides_done c p n (k ∷ ks) s = sides_done c p n ks (side_done c p n k s)

-- the number of loops after a side
abbrev pub loops_after : ℕ → ℕ → ℕ → ℕ
loops_after filled next number = cond (ltb filled next) (number + 1) number

-- after one side
pub record SideTraced (c : List ℕ) (p n k : ℕ) (w w' l l' : List ℕ) (f q r : ℕ) : Type 0 where
  pub work : w' ≡ (side_done c p n k (record { work = w; list = l; filled = f; loops = q })).work
  pub list : l' ≡ (side_done c p n k (record { work = w; list = l; filled = f; loops = q })).list
  pub filled : r ≡ (side_done c p n k (record { work = w; list = l; filled = f; loops = q })).filled

-- the words hold the sides, in rising order
pub record Arranged (c : List ℕ) (p : ℕ) (w : List ℕ) (r : ℕ) : Type 0 where
  pub ready : Walkable c p w
  pub count : r ≡ length (sorted c p)
  pub few : r ≤ length c
  pub each : (i : ℕ) → i < r → at w (sides-from c p + i) ≡ at (sorted c p) i
  pub upward : (i : ℕ) → i < r → Upward c (at (sorted c p) i)

-- after all sides are done: the words, the list and the number of loops
pub record Traced (c : List ℕ) (p n : ℕ) (w w' l l' : List ℕ) (r : ℕ) : Type 0 where
  pub work : w' ≡ (sides_done c p n (sorted c p) (record { work = w; list = l; filled = 0; loops = 0 })).work
  pub list : l' ≡ (sides_done c p n (sorted c p) (record { work = w; list = l; filled = 0; loops = 0 })).list
  pub loops : r ≡ (sides_done c p n (sorted c p) (record { work = w; list = l; filled = 0; loops = 0 })).loops

-- a count, one more where the side of k is open
abbrev pub open_after : List ℕ → ℕ → List ℕ → ℕ → ℕ → ℕ
open_after c p w k n = cond (open? c p w k) (n + 1) n

-- the open sides among those of the places ks
unfoldable pub open_count : List ℕ → ℕ → List ℕ → List ℕ → ℕ
open_count c p w [] = 0
open_count c p w (k ∷ ks) = cond (open? c p w k) (suc (open_count c p w ks)) (open_count c p w ks)

-- the first k marks are taken away
pub record Unmarked (c : List ℕ) (p : ℕ) (w w' : List ℕ) (k : ℕ) : Type 0 where
  pub under : (j : ℕ) → j < marks-from c p → at w' j ≡ at w j
  pub over : (j : ℕ) → marks-from c p + length c ≤ j → at w' j ≡ at w j
  pub blank : (i : ℕ) → i < k → at w' (marks-from c p + i) ≡ 0
