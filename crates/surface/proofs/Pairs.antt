-- Pairs of corners in the order of the original's sort: what sorting, comparing neighbours and binary search find is how often each pair occurs.
use Prim.Native.Nat.{ℕ, zero, suc, ◌+◌, ◌/◌, ◌≤◌, ◌<◌}
use mathlib.Core.Path.{◌≡◌, refl, sym, ◌∙◌, ap, ap₂, subst}
use mathlib.Core.Logic.{◌↔◌, ◌⊎◌, inl, inr}
use mathlib.Core.Bool.{Bool, true, false, ◌&&◌, ◌||◌, not, cond}
use mathlib.Core.List.Permᴰ
use mathlib.Core.List.{List, [], ◌∷◌, ◌++◌, Permᴰ}
use native.Mathlib.Omega.{arith}
use lib.Dec.{eqb, ltb}
use lib.ListN.{length, get_or, take, drop, length-take, length-drop}
use lib.Seq.{split_at}
use borrow.Author.Tests.{ltb-true, ltb-false, eqb-true, eqb-false, lt-ltb}
use Rattle.surface.specs.Closed.{Step, step}
use Rattle.surface.specs.Original.{equal?, less?, insert, sorted, distinct?, found?, reversed?}
use Rattle.surface.proofs.Bools.{true_false, both, join, not_true}
use Rattle.surface.proofs.Reading.{hit, Hit, same, first, second, view, hit_yes}

-- x stands before y in the order, or is y
abbrev Le : Step → Step → Type 0
Le x y = (x.from < y.from) ⊎ ((x.from ≡ y.from) × (x.to ≤ y.to))

abbrev Same : Step → Step → Type 0
Same x y = (x.from ≡ y.from) × (x.to ≡ y.to)

le_trans : {x y z : Step} → Le x y → Le y z → Le x z
le_trans (inl p) (inl q) = inl (omega arith)
le_trans (inl p) (inr q) = inl (omega arith)
le_trans (inr p) (inl q) = inl (omega arith)
le_trans (inr p) (inr q) = inr (omega arith)

le_anti : {x y : Step} → Le x y → Le y x → Same x y
le_anti (inl p) (inl q) = absurd (omega arith)
le_anti (inl p) (inr q) = absurd (omega arith)
le_anti (inr p) (inl q) = absurd (omega arith)
le_anti (inr p) (inr q) = omega arith

pub step_path : {x y : Step} → Same x y → x ≡ y
step_path p = λ i. record { from = p.0 i; to = p.1 i }

le_self : (x : Step) → Le x x
le_self x = inr (refl, omega arith)

-- the two tests, with what they say
data Compared (x y : Step) : Type 0 where
  less : less? x y ≡ true → equal? x y ≡ false → Le x y → (Same x y → ⊥) → Compared x y
  alike : less? x y ≡ false → equal? x y ≡ true → Same x y → Compared x y
  more : less? x y ≡ false → equal? x y ≡ false → Le y x → (Same x y → ⊥) → Compared x y

compared : (x y : Step) → Compared x y
compared x y = go (ltb x.from y.from) refl (eqb x.from y.from) refl (ltb x.to y.to) refl (eqb x.to y.to) refl
  where
    go : (p : Bool) → ltb x.from y.from ≡ p → (q : Bool) → eqb x.from y.from ≡ q → (r : Bool) → ltb x.to y.to ≡ r → (s : Bool) → eqb x.to y.to ≡ s → Compared x y
    go true e true f r g s h = absurd (omega (arith, ltb-true, eqb-true))
    go true e false f r g s h = less (rw e) (rw f) (inl (ltb-true _ _ e)) (λ k. eqb-false _ _ f k.0)
    go false e false f r g s h = more (rw (e, f)) (rw f) (inl (omega (arith, ltb-false, eqb-false))) (λ k. eqb-false _ _ f k.0)
    go false e true f true g true h = absurd (omega (arith, ltb-true, eqb-true))
    go false e true f true g false h = less (rw (e, f, g)) (rw (f, h)) (inr (omega (arith, ltb-true, eqb-true))) (λ k. eqb-false _ _ h k.1)
    go false e true f false g true h = alike (rw (e, f, g)) (rw (f, h)) (eqb-true _ _ f, eqb-true _ _ h)
    go false e true f false g false h = more (rw (e, f, g)) (rw (f, h)) (inr (omega (arith, ltb-false, eqb-true))) (λ k. eqb-false _ _ h k.1)

-- how often the pair u v occurs
unfoldable pub tally : List Step → ℕ → ℕ → ℕ
tally [] u v = 0
tally (x ∷ l) u v = hit x.from x.to u v + tally l u v

tally-append : (l m : List Step) (u v : ℕ) → tally (l ++ m) u v ≡ tally l u v + tally m u v
unfolding tally
tally-append [] m u v = omega arith
tally-append (x ∷ l) m u v = omega (arith, tally-append l m u v)

pub tally_perm : {l m : List Step} (u v : ℕ) → Permᴰ l m → tally l u v ≡ tally m u v
unfolding tally
tally_perm u v Permᴰ.nil = refl
tally_perm u v (Permᴰ.cons e d) = omega (arith, tally_perm u v d, ap (λ (x : Step). hit x.from x.to u v) e)
tally_perm u v (Permᴰ.swap e f) = omega (arith, ap (λ (x : Step). hit x.from x.to u v) e, ap (λ (x : Step). hit x.from x.to u v) f)
tally_perm u v (Permᴰ.trans d e) = tally_perm u v d ∙ tally_perm u v e

-- what holds of every pair that occurs
abbrev pub Every : (Step → Type 0) → List Step → Type 0
Every P l = (u v : ℕ) → 0 < tally l u v → P (step u v)

every-none : (P : Step → Type 0) → Every P []
unfolding tally
every-none P u v h = absurd (omega arith)

module _ (P : Step → Type 0) (x : Step) (l : List Step) where
  every_cons : P x → Every P l → Every P (x ∷ l)
  unfolding tally
  every_cons p f u v h = go (view x.from x.to u v)
    where
      go : Hit x.from x.to u v → P (step u v)
      go (same a b e) = subst P (step_path (a, b)) p
      go (first n e) = f u v (omega arith)
      go (second n e) = f u v (omega arith)

  every-head : Every P (x ∷ l) → P x
  unfolding tally
  every-head f = f x.from x.to (omega (arith, hit_yes x.from x.to x.from x.to refl refl))

  every_tail : Every P (x ∷ l) → Every P l
  unfolding tally
  every_tail f u v h = f u v (omega arith)

pub data Rising : List Step → Type 0 where
  none : Rising []
  cons : {x : Step} {l : List Step} → Every (Le x) l → Rising l → Rising (x ∷ l)

-- sorting changes the order alone, and puts the list in order
insert_perm : (x : Step) (l : List Step) → Permᴰ (insert x l) (x ∷ l)
unfolding insert
insert_perm x [] = Permᴰ.refl (x ∷ [])
insert_perm x (y ∷ l) = go (less? y x) refl (insert_perm x l)
  where
    go : (k : Bool) → less? y x ≡ k → Permᴰ (insert x l) (x ∷ l) → Permᴰ (insert x (y ∷ l)) (x ∷ y ∷ l)
    go true e p = rw (e, insert) (Permᴰ.trans (Permᴰ.cons refl p) (Permᴰ.swap refl refl))
    go false e p = rw (e, insert) (Permᴰ.refl (x ∷ y ∷ l))

every-insert : (P : Step → Type 0) (x : Step) (l : List Step) → P x → Every P l → Every P (insert x l)
unfolding tally
every-insert P x l p f u v h = every_cons P x l p f u v (omega (arith, tally_perm u v (insert_perm x l)))

insert-rising : (x : Step) {l : List Step} → Rising l → Rising (insert x l)
unfolding insert
insert-rising x none = cons (every-none (Le x)) none
insert-rising x (cons {x = y} {l = l} f r) = go (compared y x) (insert-rising x r)
  where
    front : Le x y → Rising (x ∷ y ∷ l)
    front p = cons (every_cons (Le x) y l p (λ u v h. le_trans p (f u v h))) (cons f r)

    go : Compared y x → Rising (insert x l) → Rising (insert x (y ∷ l))
    go (less e n p d) s = rw (e, insert) (cons (every-insert (Le y) x l p f) s)
    go (alike e n p) s = rw (e, insert) (front (inr (omega arith)))
    go (more e n p d) s = rw (e, insert) (front p)

pub sorted_perm : (l : List Step) → Permᴰ (sorted l) l
unfolding sorted
sorted_perm [] = Permᴰ.nil
sorted_perm (x ∷ l) = Permᴰ.trans (insert_perm x (sorted l)) (Permᴰ.cons refl (sorted_perm l))

pub sorted-rising : (l : List Step) → Rising (sorted l)
unfolding sorted
sorted-rising [] = none
sorted-rising (x ∷ l) = insert-rising x (sorted-rising l)

-- two lists in order, with the same pairs in them, are one list
rising-only : {l m : List Step} → Rising l → Rising m → ((u v : ℕ) → tally l u v ≡ tally m u v) → l ≡ m
unfolding tally
rising-only none none e = refl
rising-only none (cons {x = y} {l = m} g s) e = absurd (every-head (λ z. ⊥) y m (λ u v h. omega (arith, e u v)))
rising-only (cons {x = x} {l = l} f r) none e = absurd (every-head (λ z. ⊥) x l (λ u v h. omega (arith, e u v)))
rising-only (cons {x = x} {l = l} f r) (cons {x = y} {l = m} g s) e =
    let p : Le x y = every-head (Le x) y m (λ u v h. every_cons (Le x) x l (le_self x) f u v (omega (arith, e u v))) in
    let q : Le y x = every-head (Le y) x l (λ u v h. every_cons (Le y) y m (le_self y) g u v (omega (arith, e u v))) in
    let d = step_path (le_anti p q) in
    ap₂ (λ (z : Step) (k : List Step). z ∷ k) d (rising-only r s (λ u v. omega (arith, e u v, ap (λ (z : Step). hit z.from z.to u v) d)))

-- whatever sorts the list, the result is this
pub sorted-only : {l m : List Step} → Permᴰ m l → Rising m → m ≡ sorted l
sorted-only {l} p r = rising-only r (sorted-rising l) (λ u v. tally_perm u v p ∙ sym (tally_perm u v (sorted_perm l)))

-- no two neighbours are equal if and only if no pair occurs twice
none-there : (n : ℕ) → (0 < n → ⊥) → n ≡ 0
none-there zero f = refl
none-there (suc n) f = absurd (f (omega arith))

once_cons : (x : Step) (l : List Step) → (0 < tally l x.from x.to → ⊥) → ((u v : ℕ) → tally l u v ≤ 1) → (u v : ℕ) → tally (x ∷ l) u v ≤ 1
unfolding tally
once_cons x l n f u v = go (view x.from x.to u v)
  where
    go : Hit x.from x.to u v → hit x.from x.to u v + tally l u v ≤ 1
    go (same a b e) = omega (arith, none-there _ n, ap₂ (tally l) a b)
    go (first m e) = omega (arith, f u v)
    go (second m e) = omega (arith, f u v)

pub distinct-once : {l : List Step} → Rising l → distinct? l ≡ true → (u v : ℕ) → tally l u v ≤ 1
unfolding tally distinct?
distinct-once none e = λ u v. omega arith
distinct-once (cons {x = x} f none) e = once_cons x [] (λ h. omega arith) (λ u v. omega arith)
distinct-once (cons {x = x} f (cons {x = y} {l = l} g r)) e =
    let k = both (not (equal? x y)) (distinct? (y ∷ l)) e in
    once_cons x (y ∷ l) (λ h. go (compared x y) k.0 (every_cons (Le y) y l (le_self y) g x.from x.to h)) (distinct-once (cons g r) k.1)
  where
    go : Compared x y → not (equal? x y) ≡ true → Le y x → ⊥
    go (less n e p d) k q = d (le_anti p q)
    go (alike n e p) k q = true_false e (not_true _ k)
    go (more n e p d) k q = d (le_anti (every-head (Le x) y l f) q)

pub once-distinct : (l : List Step) → ((u v : ℕ) → tally l u v ≤ 1) → distinct? l ≡ true
unfolding tally distinct?
once-distinct [] f = refl
once-distinct (x ∷ []) f = refl
once-distinct (x ∷ y ∷ l) f = go (compared x y) (once-distinct (y ∷ l) (λ u v. omega (arith, f u v)))
  where
    go : Compared x y → distinct? (y ∷ l) ≡ true → (not (equal? x y) && distinct? (y ∷ l)) ≡ true
    go (less e n p d) k = rw n k
    go (more e n p d) k = rw n k
    go (alike e n p) k =
        absurd (omega (arith, f x.from x.to, hit_yes x.from x.to x.from x.to refl refl, hit_yes y.from y.to x.from x.to (sym p.0) (sym p.1)))

-- binary search: what lies below and above a pair of the list
record Parts (l : List Step) (m : Step) (h : List Step) : Type 0 where
  below : Every (λ x. Le x m) l
  above : Every (Le m) h
  low : Rising l
  high : Rising h

parts : (l : List Step) (m : Step) (h : List Step) → Rising (l ++ (m ∷ h)) → Parts l m h
unfolding tally
parts [] m h (cons f r) = record { below = every-none (λ x. Le x m); above = f; low = none; high = r }
parts (x ∷ l) m h (cons f r) =
    let k = parts l m h r in
    let e = tally-append l (m ∷ h) in
    let p : Le x m = every-head (Le x) m h (λ u v p. f u v (omega (arith, e u v))) in
    record { below = every_cons (λ x. Le x m) x l p k.below; above = k.above; low = cons {l = l} (λ u v p. f u v (omega (arith, e u v))) k.low; high = k.high }

abbrev there? : Step → List Step → Bool
there? x l = ltb 0 (tally l x.from x.to)

module _ (x m : Step) (l h k : List Step) (split : k ≡ l ++ (m ∷ h)) (r : Parts l m h) where
  tallied : tally k x.from x.to ≡ tally l x.from x.to + (hit m.from m.to x.from x.to + tally h x.from x.to)
  unfolding tally
  tallied = ap (λ (j : List Step). tally j x.from x.to) split ∙ tally-append l (m ∷ h) x.from x.to

  missed : (Same x m → ⊥) → hit m.from m.to x.from x.to ≡ 0
  missed d = go (view m.from m.to x.from x.to)
    where
      go : Hit m.from m.to x.from x.to → hit m.from m.to x.from x.to ≡ 0
      go (same a b e) = absurd (d (sym a, sym b))
      go (first n e) = e
      go (second n e) = e

  one_turn : (equal? x m || cond (less? x m) (there? x l) (there? x h)) ≡ there? x k
  one_turn = go (compared x m)
    where
      u : ℕ
      u = x.from

      v : ℕ
      v = x.to

      go : Compared x m → (equal? x m || cond (less? x m) (there? x l) (there? x h)) ≡ there? x k
      go (less e n p d) =
          let z = none-there (tally h u v) (λ q. d (le_anti p (r.above u v q))) in
          let w : tally l u v ≡ tally k u v = omega (arith, tallied, missed d) in
          rw (n, e) (ap (ltb 0) w)
      go (alike e n p) = rw n (sym (lt-ltb 0 (tally k u v) (omega (arith, tallied, hit_yes m.from m.to u v (sym p.0) (sym p.1)))))
      go (more e n p d) =
          let z = none-there (tally l u v) (λ q. d (le_anti (r.below u v q) p)) in
          let w : tally h u v ≡ tally k u v = omega (arith, tallied, missed d) in
          rw (n, e) (ap (ltb 0) w)

-- it finds exactly the pairs that occur
pub found-there : (n : ℕ) (x : Step) (l : List Step) → length l ≤ n → Rising l → found? n x l ≡ there? x l
unfolding found? tally
found-there zero x [] p r = refl
found-there zero x (y ∷ l) p r = absurd (omega arith)
found-there (suc n) x [] p r = refl
found-there (suc n) x (y ∷ l) p r =
    let k = y ∷ l in
    let half = length k / 2 in
    let s = split_at k half y (omega arith) in
    let q = parts (take half k) (get_or k half y) (drop (suc half) k) (subst Rising s r) in
    rw (found-there n x (take half k) (omega (arith, length-take half k)) q.low, found-there n x (drop (suc half) k) (omega (arith, length-drop (suc half) k)) q.high)
    (one_turn x (get_or k half y) (take half k) (drop (suc half) k) k s q)

-- the reverse of every pair that occurs is found
module _ (s : List Step) (r : Rising s) where
  found : (u v : ℕ) → (found? (length s) (step u v) s ≡ true) ↔ (0 < tally s u v)
  found u v =
      let e = found-there (length s) (step u v) s (omega arith) r in
      ((λ p. ltb-true 0 (tally s u v) (sym e ∙ p)), λ p. e ∙ lt-ltb 0 (tally s u v) p)

  pub reversed_back : (l : List Step) → reversed? s l ≡ true → Every (λ x. 0 < tally s x.to x.from) l
  unfolding reversed?
  reversed_back [] e = every-none (λ x. 0 < tally s x.to x.from)
  reversed_back (x ∷ l) e =
      let k = both (found? (length s) (step x.to x.from) s) (reversed? s l) e in
      every_cons (λ x. 0 < tally s x.to x.from) x l ((found x.to x.from).0 k.0) (reversed_back l k.1)

  pub back_reversed : (l : List Step) → Every (λ x. 0 < tally s x.to x.from) l → reversed? s l ≡ true
  unfolding reversed?
  back_reversed [] f = refl
  back_reversed (x ∷ l) f =
      join _ _ ((found x.to x.from).1 (every-head (λ x. 0 < tally s x.to x.from) x l f)) (back_reversed l (every_tail (λ x. 0 < tally s x.to x.from) x l f))
