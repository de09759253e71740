-- The original's test of rules (b) and (c), `closed_oriented_manifold` of triangles.rs, as a function on values. Definitions only.
-- A directed side and a step around a corner are both a [usize; 2] there, and both a Step here.
use Rattle.std.specs.Prelude.{ℕ, zero, suc, ◌/◌, Bool, true, false, ◌&&◌, ◌||◌, not, cond, List, [], ◌∷◌, eqb, ltb, length, get_or, take, drop}
use Rattle.std.proofs.Math.Option.{Option, none, some}
use Rattle.surface.specs.Triangle.{Tri}
use Rattle.surface.specs.Closed.{Step, step}
use Rattle.surface.specs.Links.{ring_at}

-- `directed`: the directed sides, face by face
unfoldable pub directed : List Tri → List Step
directed [] = []
directed (t ∷ ts) = step t.a t.b ∷ step t.b t.c ∷ step t.c t.a ∷ directed ts

-- pairs are compared by their first corners, and by their second where those are equal
abbrev pub equal? : Step → Step → Bool
equal? x y = eqb x.from y.from && eqb x.to y.to

abbrev pub less? : Step → Step → Bool
less? x y = ltb x.from y.from || (eqb x.from y.from && ltb x.to y.to)

-- `sort_unstable`: every way to sort the list gives this one (`sorted-only`)
unfoldable pub insert : Step → List Step → List Step
insert x [] = x ∷ []
insert x (y ∷ l) = cond (less? y x) (y ∷ insert x l) (x ∷ y ∷ l)

unfoldable pub sorted : List Step → List Step
sorted [] = []
sorted (x ∷ l) = insert x (sorted l)

-- `windows(2)`: no two neighbours are equal
unfoldable pub distinct? : List Step → Bool
distinct? [] = true
distinct? (x ∷ []) = true
distinct? (x ∷ y ∷ l) = not (equal? x y) && distinct? (y ∷ l)

-- `binary_search`: x is the pair in the middle, or is searched for below or above it; n bounds the number of turns. (In a sorted list any search finds just the pairs that occur: `found-there` of `proofs/Pairs`.)
unfoldable pub found? : ℕ → Step → List Step → Bool
found? zero x l = false
found? (suc n) x [] = false
found? (suc n) x (y ∷ l) =
    let half = length (y ∷ l) / 2 in
    let middle = get_or (y ∷ l) half y in
    equal? x middle || cond (less? x middle) (found? n x (take half (y ∷ l))) (found? n x (drop (suc half) (y ∷ l)))

-- the reverse of each pair of l is found in s
unfoldable pub reversed? : List Step → List Step → Bool
reversed? s [] = true
reversed? s (x ∷ l) = found? (length s) (step x.to x.from) s && reversed? s l

-- `find`: the first step of a ring that leaves a corner
unfoldable pub find : ℕ → List Step → Option Step
find current [] = none
find current (e ∷ l) = cond (eqb e.from current) (some e) (find current l)

-- the loop over `steps`, with `left` turns to go: the walk must be back at the first step when it has made as many steps as the ring has
unfoldable pub walk : ℕ → ℕ → ℕ → Step → List Step → Bool
walk zero steps current first ring = false
walk (suc left) steps current first ring =
    elim (find current ring) [
      | none ↦ false
      | some e ↦ cond (equal? e first) (eqb steps (length ring)) (walk left (suc steps) e.to first ring)
    ]

unfoldable pub ring? : List Step → Bool
ring? [] = true
ring? (e ∷ l) = walk (length (e ∷ l)) 1 e.to e (e ∷ l)

-- `(0..n).all`
unfoldable pub all : ℕ → (ℕ → Bool) → Bool
all zero f = true
all (suc n) f = all n f && f n

-- `closed_oriented_manifold`
unfoldable pub closed_oriented : (faces : List Tri) (directed : List Step) (n : ℕ) → Bool
unfolding insert sorted distinct? found? reversed? find walk ring? all ring_at
closed_oriented faces directed n =
    let s = sorted directed in
    distinct? s && (reversed? s s && all n (λ v. ring? (ring_at faces n v)))

-- the same of the directed sides of the faces, with which `validate` calls it
unfoldable pub original_closed : List Tri → ℕ → Bool
unfolding directed closed_oriented
original_closed ts n = closed_oriented ts (directed ts) n
