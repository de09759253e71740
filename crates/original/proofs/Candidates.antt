-- The candidates of `collapse_slivers`, in their order, are those of crate oracle.
use Prim.Native.Nat.{ℕ, zero, suc, ◌+◌, ◌<◌}
use mathlib.Core.Path.{◌≡◌, refl, ◌∙◌, ap, ap₂}
use mathlib.Core.Bool.{Bool, true, false, ◌&&◌, ◌||◌, cond}
use mathlib.Core.List.{List, [], ◌∷◌, ◌++◌, map}
use native.Mathlib.Nat.{zero-add}
use lib.Dec.{leb, ltb}
use lib.Ieee as Ieee
use lib.Ieee.{Float, binary64}
use lib.ListN.{length}
use borrow.Author.Tests.{ltb-true}
use Rattle.surface.specs.Triangle.{Tri}
use Rattle.surface.specs.Closed.{Differ, Closed}
use Rattle.surface.specs.Check.{every}
use Rattle.surface.specs.Edit.{has, place}
use Rattle.surface.specs.Euler.{Below}
use Rattle.surface.proofs.Bools.{both, join}
use Rattle.history.specs.History.{Pair, label}
use Rattle.rounds.specs.Choices.{Side}
use Rattle.float.specs.Point.{times}
use Rattle.field.specs.Number.{counted}
use Rattle.oracle.specs.Number.{weak_below, short_part}
use Rattle.oracle.specs.Scene.{Scene, score, squared}
use Rattle.oracle.specs.Rising.{joined, row_of, rows_of, rising}
use Rattle.oracle.specs.Candidates.{chosen, insert_by, sort_by, limit, weak, candidate, candidates}
use Rattle.original.specs.Sets.{push}
use Rattle.original.specs.Maps.{Spot, spot, spots, shared, score_at}
use Rattle.original.specs.Sorted as text
use Rattle.original.specs.Sorted.{most, some, sort}
use Rattle.original.proofs.Spots.{start_in, spots-more}
use Rattle.original.proofs.Rising.{keys-rising}
use Rattle.original.proofs.Tries.{Each, finished, also, each}
use Rattle.original.proofs.Pass.{Upward}
use Rattle.original.proofs.Lengths.{sort-is, total-is}

-- ---- the lesser end comes first

abbrev up : Side → Bool
up d = ltb d.one d.two

every_append : (l m : List Side) → every up l ≡ true → every up m ≡ true → every up (l ++ m) ≡ true
unfolding every
every_append [] m e f = f
every_append (d ∷ l) m e f = let w = both (up d) (every up l) e in join (up d) (every up (l ++ m)) w.0 (every_append l m w.1 f)

row-upward : (ts : List Tri) (a b d : ℕ) → Upward (row_of ts a b d)
unfolding row_of every
row-upward ts a b zero = refl
row-upward ts a b (suc d) = pick (ltb a b) refl (joined ts a b) (row-upward ts a (suc b) d)
  where
    pick : (x : Bool) → ltb a b ≡ x → (y : Bool) → Upward (row_of ts a (suc b) d) → Upward (cond (ltb a b && y) (record { one = a; two = b } ∷ row_of ts a (suc b) d) (row_of ts a (suc b) d))
    pick true e true r = rw (e, e) r
    pick true e false r = rw e r
    pick false e y r = rw e r

rows-upward : (ts : List Tri) (n a d : ℕ) → Upward (rows_of ts n a d)
unfolding rows_of every
rows-upward ts n a zero = refl
rows-upward ts n a (suc d) = every_append (row_of ts a 0 n) (rows_of ts n (suc a) d) (row-upward ts a 0 n) (rows-upward ts n (suc a) d)

pub rising-upward : (ts : List Tri) (n : ℕ) → Upward (rising ts n)
rising-upward ts n = rows-upward ts n 0 n

chosen-upward : (f : Side → Bool) (l : List Side) → Upward l → Upward (chosen f l)
unfolding chosen every
chosen-upward f [] u = refl
chosen-upward f (d ∷ l) u = let w = both (up d) (every up l) u in pick (f d) w.0 (chosen-upward f l w.1)
  where
    pick : (k : Bool) → up d ≡ true → Upward (chosen f l) → Upward (cond k (d ∷ chosen f l) (chosen f l))
    pick true e r = join (up d) (every up (chosen f l)) e r
    pick false e r = r

insert-upward : (key : Side → ℕ) (d : Side) (l : List Side) → up d ≡ true → Upward l → Upward (insert_by key d l)
unfolding insert_by every
insert-upward key d [] e u = join (up d) true e refl
insert-upward key d (x ∷ l) e u = let w = both (up x) (every up l) u in pick (leb (key d) (key x)) w.0 (insert-upward key d l e w.1)
  where
    pick : (k : Bool) → up x ≡ true → Upward (insert_by key d l) → Upward (cond k (d ∷ x ∷ l) (x ∷ insert_by key d l))
    pick true f r = join (up d) (up x && every up l) e u
    pick false f r = join (up x) (every up (insert_by key d l)) f r

sort-upward : (key : Side → ℕ) (l : List Side) → Upward l → Upward (sort_by key l)
unfolding sort_by every
sort-upward key [] u = refl
sort-upward key (d ∷ l) u = let w = both (up d) (every up l) u in insert-upward key d (sort_by key l) w.0 (sort-upward key l w.1)

pub candidates-upward : (s : Scene) (p : Pair) (n : ℕ) → Upward (candidates s p n)
unfolding candidates
candidates-upward s p n = sort-upward _ _ (chosen-upward _ (rising p.tris n) (rising-upward p.tris n))

-- ---- the test

chosen-same : (f g : Side → Bool) (l : List Side) → Upward l → ((d : Side) → up d ≡ true → f d ≡ g d) → chosen f l ≡ chosen g l
unfolding chosen every
chosen-same f g [] u h = refl
chosen-same f g (d ∷ l) u h =
    let w = both (up d) (every up l) u in
    ap₂ (λ (k : Bool) (m : List Side). cond k (d ∷ m) m) (h d w.0) (chosen-same f g l w.1 h)

module _ (s : Scene) (p : Pair) (a b : ℕ) (low : a < b) where
  record Seen (i : ℕ) (t : Tri) (l : ℕ) : Type 0 where
    differ : Differ t
    was : place p.tris i ≡ t
    tag : label p i ≡ l

  -- faces.iter().any(|&i| scores[i] < 0.4)
  some-weak : {i : ℕ} {ts : List Tri} {ls : List ℕ} → Each Seen i ts ls
      → some (λ (j : ℕ). Ieee.lt (score_at s p j) weak_below) (map (λ (x : Spot). x.face) (spots i ts a b)) ≡ weak s ts ls a b
  unfolding some spots weak
  some-weak finished = refl
  some-weak (also {i = i} {l = l} {t = t} {ts = ts} {ls = ls} f r) =
      ap (λ (x : List Spot). some (λ (j : ℕ). Ieee.lt (score_at s p j) weak_below) (map (λ (x : Spot). x.face) x)) (spots-more a b low t f.differ i ts) ∙ pick (has a b t) (some-weak r)
    where
      pick : (k : Bool) → some (λ (j : ℕ). Ieee.lt (score_at s p j) weak_below) (map (λ (x : Spot). x.face) (spots (suc i) ts a b)) ≡ weak s ts ls a b
          → some (λ (j : ℕ). Ieee.lt (score_at s p j) weak_below) (map (λ (x : Spot). x.face) (push k (spot i (start_in t a b)) (spots (suc i) ts a b))) ≡ ((k && Ieee.lt (score s t l) weak_below) || weak s ts ls a b)
      pick true ih = rw (f.was, f.tag) (ap (λ (q : Bool). Ieee.lt (score s t l) weak_below || q) ih)
      pick false ih = ih

module _ (s : Scene) (p : Pair) (c : Closed p.tris) (l : length p.labels ≡ length p.tris) where
  candidate-is : (bound : Float) (d : Side) → up d ≡ true → text.candidate s p bound d ≡ candidate s p bound d
  unfolding text.candidate candidate shared
  candidate-is bound d e = ap (λ (k : Bool). Ieee.lt (squared s.points d.one d.two) bound && k)
      (let m = ltb-true d.one d.two e in some-weak s p d.one d.two m (each (Seen s p d.one d.two m) 0 p.tris p.labels l (λ j h. rw (zero-add j) (record { differ = c.differ j h; was = refl; tag = refl }))))

  -- 0.36 * mean; of no sides there is none to test
  chosen-bound : (all : List Side) → chosen (text.candidate s p (most s.points all)) all ≡ chosen (text.candidate s p (limit s.points all)) all
  unfolding chosen
  chosen-bound [] = refl
  chosen-bound (d ∷ all) = ap (λ (x : Float). chosen (text.candidate s p (times short_part (Ieee.div binary64 x (counted (length (d ∷ all)))))) (d ∷ all)) (total-is s.points d all)

  -- the candidates, sorted
  pub candidates_are : (n : ℕ) → Below n p.tris → text.candidates s p ≡ candidates s p n
  unfolding text.candidates candidates
  candidates_are n b =
      let all = rising p.tris n in
      let bound = limit s.points all in
      ap (λ (all : List Side). sort s.points (chosen (text.candidate s p (most s.points all)) all)) (keys-rising c n b)
      ∙ ap (sort s.points) (chosen-bound all ∙ chosen-same (text.candidate s p bound) (candidate s p bound) all (rising-upward p.tris n) (candidate-is bound))
      ∙ sort-is s.points (chosen (candidate s p bound) all)
