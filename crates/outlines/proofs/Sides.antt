-- Lists of sides: counting, rising order, putting in and striking out.
use Prim.Native.Nat.{ℕ, zero, suc, ◌≤◌, ◌<◌}
use mathlib.Core.Path.{◌≡◌, refl, sym, ◌∙◌, ap, ap₂, subst}
use mathlib.Core.Logic.{◌⊎◌, inl, inr}
use mathlib.Core.Bool.{Bool, true, false, ◌&&◌, true≢false}
use mathlib.Core.List.{List, [], ◌∷◌}
use native.Mathlib.Omega.{arith}
use lib.Dec.{eqb, ltb}
use lib.ListN.{length}
use borrow.Author.Tests.{ltb-true, ltb-false, eqb-true, eqb-false, lt-ltb, eq-eqb}
use Rattle.surface.specs.Closed.{one}
use Rattle.surface.proofs.Bools.{both}
use Rattle.outlines.specs.Side.{Side, same?, before?, tally, times_in, Each, Ascending, insert_side, strike, strike_all}

pub side_path : {s t : Side} → s.low ≡ t.low → s.high ≡ t.high → s ≡ t
side_path p q = λ i. record { low = p i; high = q i }

-- the test of equality, with what it says
pub data Compared (s t : Side) : Type 0 where
  alike : s ≡ t → same? s t ≡ true → Compared s t
  unlike : (s ≡ t → ⊥) → same? s t ≡ false → Compared s t

pub compared : (s t : Side) → Compared s t
compared s t = go (eqb s.low t.low) refl (eqb s.high t.high) refl
  where
    go : (p : Bool) → eqb s.low t.low ≡ p → (q : Bool) → eqb s.high t.high ≡ q → Compared s t
    go true e true f = alike (side_path (eqb-true _ _ e) (eqb-true _ _ f)) (rw (e, f) refl)
    go true e false f = unlike (λ k. eqb-false _ _ f (ap (λ (r : Side). r.high) k)) (rw (e, f) refl)
    go false e q f = unlike (λ k. eqb-false _ _ e (ap (λ (r : Side). r.low) k)) (rw e refl)

pub same_refl : (s : Side) → same? s s ≡ true
same_refl s = go (compared s s)
  where
    go : Compared s s → same? s s ≡ true
    go (alike e f) = f
    go (unlike n f) = absurd (n refl)

-- the side is in the list
abbrev pub In : Side → List Side → Type 0
In s l = 0 < times_in s l

pub in_first : (s : Side) (l : List Side) → In s (s ∷ l)
unfolding tally
in_first s l = omega (arith, ap one (same_refl s))

-- what holds of each element holds of one that is in the list
pub each-count : (P : Side → Type 0) (l : List Side) → Each P l → (s : Side) → In s l → P s
unfolding Each tally
each-count P [] e s h = absurd (omega arith)
each-count P (t ∷ l) e s h = go (compared s t) (each-count P l e.1 s)
  where
    go : Compared s t → (In s l → P s) → P s
    go (alike p f) k = subst P (sym p) e.0
    go (unlike n f) k = k (omega (arith, ap one f))

pub count-each : (P : Side → Type 0) (l : List Side) → ((s : Side) → In s l → P s) → Each P l
unfolding Each tally
count-each P [] f = tt
count-each P (t ∷ l) f = (f t (in_first t l), count-each P l (λ s h. f s (omega arith)))

-- the order
abbrev pub Before : Side → Side → Type 0
Before s t = before? s t ≡ true

pub data Order (s t : Side) : Type 0 where
  by-low : s.low < t.low → Order s t
  by_high : s.low ≡ t.low → s.high < t.high → Order s t

order : (s t : Side) → Before s t → Order s t
order s t k = go (ltb s.low t.low) refl
  where
    go : (p : Bool) → ltb s.low t.low ≡ p → Order s t
    go true e = by-low (ltb-true _ _ e)
    go false e =
        let m : (eqb s.low t.low && ltb s.high t.high) ≡ true = rw e at k in
        let n = both (eqb s.low t.low) (ltb s.high t.high) m in
        by_high (eqb-true _ _ n.0) (ltb-true _ _ n.1)

pub before : (s t : Side) → Order s t → Before s t
before s t (by-low l) = rw (lt-ltb s.low t.low l) refl
before s t (by_high e l) = go (ltb s.low t.low) refl
  where
    go : (p : Bool) → ltb s.low t.low ≡ p → Before s t
    go true f = rw f refl
    go false f = rw (f, eq-eqb s.low t.low e, lt-ltb s.high t.high l) refl

pub before_trans : (s t r : Side) → Before s t → Before t r → Before s r
before_trans s t r p q = before s r (go (order s t p) (order t r q))
  where
    go : Order s t → Order t r → Order s r
    go (by-low a) (by-low b) = by-low (omega arith)
    go (by-low a) (by_high b c) = by-low (omega arith)
    go (by_high a b) (by-low c) = by-low (omega arith)
    go (by_high a b) (by_high c d) = by_high (omega arith) (omega arith)

pub before_irreflexive : {s t : Side} → s ≡ t → Before s t → ⊥
before_irreflexive {s} {t} e p = go (order s t p) (ap (λ (r : Side). r.low) e) (ap (λ (r : Side). r.high) e)
  where
    go : Order s t → s.low ≡ t.low → s.high ≡ t.high → ⊥
    go (by-low a) b c = omega arith
    go (by_high a b) c d = omega arith

-- neither equal nor before: behind
behind : (s t : Side) → before? s t ≡ false → (s ≡ t → ⊥) → Before t s
behind s t k n = go (ltb s.low t.low) refl (ltb t.low s.low) refl (ltb t.high s.high) refl (ltb s.high t.high) refl
  where
    go : (p : Bool) → ltb s.low t.low ≡ p → (q : Bool) → ltb t.low s.low ≡ q → (r : Bool) → ltb t.high s.high ≡ r → (u : Bool) → ltb s.high t.high ≡ u → Before t s
    go true e q f r g u h = absurd (true≢false (sym (before s t (by-low (ltb-true _ _ e))) ∙ k))
    go false e true f r g u h = before t s (by-low (ltb-true _ _ f))
    go false e false f true g u h = before t s (by_high (omega (arith, ltb-false)) (ltb-true _ _ g))
    go false e false f false g true h = absurd (true≢false (sym (before s t (by_high (omega (arith, ltb-false)) (ltb-true _ _ h))) ∙ k))
    go false e false f false g false h = absurd (n (side_path (omega (arith, ltb-false)) (omega (arith, ltb-false))))

-- in a list that rises a side is at most once
pub rises-once : (l : List Side) → Ascending l → (s : Side) → times_in s l ≤ 1
unfolding Ascending tally
rises-once [] r s = omega arith
rises-once (t ∷ l) r s = go (compared s t) (rises-once l r.1 s)
  where
    none : (n : ℕ) → (0 < n → ⊥) → n ≡ 0
    none zero f = refl
    none (suc n) f = absurd (f (omega arith))

    go : Compared s t → times_in s l ≤ 1 → times_in s (t ∷ l) ≤ 1
    go (alike e f) k = omega (arith, ap one f, none (times_in s l) (λ h. before_irreflexive (sym e) (each-count (Before t) l r.0 s h)))
    go (unlike n f) k = omega (arith, ap one f)

-- ---- putting in

pub insert-new : (s : Side) (l : List Side) → In s (insert_side s l)
unfolding insert_side tally
insert-new s [] = in_first s []
insert-new s (t ∷ l) = go (before? s t) refl (compared s t) (insert-new s l)
  where
    go : (p : Bool) → before? s t ≡ p → Compared s t → In s (insert_side s l) → In s (insert_side s (t ∷ l))
    go true e k i = rw (e, insert_side) (in_first s (t ∷ l))
    go false e (alike p f) i = rw (e, f, insert_side) (omega (arith, ap one f))
    go false e (unlike n f) i = rw (e, f, insert_side) (omega arith)

pub insert-old : (r s : Side) (l : List Side) → In r l → In r (insert_side s l)
unfolding insert_side tally
insert-old r s [] h = absurd (omega arith)
insert-old r s (t ∷ l) h = go (before? s t) refl (compared s t) (compared r t) (insert-old r s l)
  where
    go : (p : Bool) → before? s t ≡ p → Compared s t → Compared r t → (In r l → In r (insert_side s l)) → In r (insert_side s (t ∷ l))
    go true e k m i = rw (e, insert_side) (omega arith)
    go false e (alike p f) m i = rw (e, f, insert_side) h
    go false e (unlike n f) (alike q g) i = rw (e, f, insert_side) (omega (arith, ap one g))
    go false e (unlike n f) (unlike q g) i = rw (e, f, insert_side) (omega (arith, i (omega (arith, ap one g))))

pub insert-only : (r s : Side) (l : List Side) → In r (insert_side s l) → (r ≡ s) ⊎ (In r l)
unfolding insert_side tally
insert-only r s [] h = go (compared r s)
  where
    go : Compared r s → (r ≡ s) ⊎ (In r [])
    go (alike p f) = inl p
    go (unlike n f) = absurd (omega (arith, ap one f))
insert-only r s (t ∷ l) h = go (before? s t) refl (compared s t) (compared r t) (compared r s) (insert-only r s l)
  where
    back : (r ≡ s) ⊎ (In r l) → (r ≡ s) ⊎ (In r (t ∷ l))
    back (inl p) = inl p
    back (inr p) = inr (omega arith)

    go : (p : Bool) → before? s t ≡ p → Compared s t → Compared r t → Compared r s → (In r (insert_side s l) → (r ≡ s) ⊎ (In r l)) → (r ≡ s) ⊎ (In r (t ∷ l))
    go p e k (alike q g) m i = inr (omega (arith, ap one g))
    go p e k (unlike q g) (alike o j) i = inl o
    go true e k (unlike q g) (unlike o j) i = let h' : In r (s ∷ t ∷ l) = rw (e, insert_side) at h in inr (omega (arith, ap one j))
    go false e (alike p f) (unlike q g) (unlike o j) i = let h' : In r (t ∷ l) = rw (e, f, insert_side) at h in inr h'
    go false e (unlike n f) (unlike q g) (unlike o j) i = let h' : In r (t ∷ insert_side s l) = rw (e, f, insert_side) at h in back (i (omega (arith, ap one g)))

pub insert-rises : (s : Side) (l : List Side) → Ascending l → Ascending (insert_side s l)
unfolding insert_side Ascending Each
insert-rises s [] r = (tt, tt)
insert-rises s (t ∷ l) r = go (before? s t) refl (compared s t) (insert-rises s l r.1)
  where
    later : Before t s → (u : Side) → In u (insert_side s l) → Before t u
    later b u h = pick (insert-only u s l h)
      where
        pick : (u ≡ s) ⊎ (In u l) → Before t u
        pick (inl p) = subst (Before t) (sym p) b
        pick (inr p) = each-count (Before t) l r.0 u p

    go : (p : Bool) → before? s t ≡ p → Compared s t → Ascending (insert_side s l) → Ascending (insert_side s (t ∷ l))
    go true e k i = rw (e, insert_side) ((e, count-each (Before s) l (λ u h. before_trans s t u e (each-count (Before t) l r.0 u h))), r)
    go false e (alike p f) i = rw (e, f, insert_side) r
    go false e (unlike n f) i = rw (e, f, insert_side) (count-each (Before t) (insert_side s l) (later (behind s t e n)), i)

-- ---- striking out

pub strike-count : (r s : Side) (l : List Side) → (r ≡ s → ⊥) → times_in r (strike s l) ≡ times_in r l
unfolding strike tally
strike-count r s [] d = refl
strike-count r s (t ∷ l) d = go (compared s t) (compared r t) (strike-count r s l d)
  where
    go : Compared s t → Compared r t → times_in r (strike s l) ≡ times_in r l → times_in r (strike s (t ∷ l)) ≡ times_in r (t ∷ l)
    go (alike p f) (alike q g) i = absurd (d (q ∙ sym p))
    go (alike p f) (unlike q g) i = rw (f, strike) (omega (arith, ap one g))
    go (unlike n f) m i = rw (f, strike) (omega arith)

pub strike-gone : (s : Side) (l : List Side) → times_in s (strike s l) ≡ 0
unfolding strike tally
strike-gone s [] = refl
strike-gone s (t ∷ l) = go (compared s t) (strike-gone s l)
  where
    go : Compared s t → times_in s (strike s l) ≡ 0 → times_in s (strike s (t ∷ l)) ≡ 0
    go (alike p f) i = rw (f, strike) i
    go (unlike n f) i = rw (f, strike) (omega (arith, ap one f))

strike-short : (s : Side) (l : List Side) → length (strike s l) ≤ length l
unfolding strike
strike-short s [] = omega arith
strike-short s (t ∷ l) = go (compared s t) (strike-short s l)
  where
    go : Compared s t → length (strike s l) ≤ length l → length (strike s (t ∷ l)) ≤ suc (length l)
    go (alike p f) i = rw (f, strike) (omega arith)
    go (unlike n f) i = rw (f, strike) (omega arith)

pub strike-length : (s : Side) (l : List Side) → In s l → length (strike s l) < length l
unfolding strike tally
strike-length s [] h = absurd (omega arith)
strike-length s (t ∷ l) h = go (compared s t) (strike-length s l)
  where
    go : Compared s t → (In s l → length (strike s l) < length l) → length (strike s (t ∷ l)) < suc (length l)
    go (alike p f) i = rw (f, strike) (omega (arith, strike-short s l))
    go (unlike n f) i = rw (f, strike) (omega (arith, i (omega (arith, ap one f))))

pub strike-within : (r s : Side) (l : List Side) → In r (strike s l) → In r l
strike-within r s l h = go (compared r s)
  where
    go : Compared r s → In r l
    go (alike p f) = absurd (omega (arith, strike-gone s l, ap (λ (q : Side). times_in q (strike s l)) p))
    go (unlike n f) = omega (arith, strike-count r s l n)

pub strike-rises : (s : Side) (l : List Side) → Ascending l → Ascending (strike s l)
unfolding strike Ascending
strike-rises s [] r = tt
strike-rises s (t ∷ l) r = go (compared s t) (strike-rises s l r.1)
  where
    go : Compared s t → Ascending (strike s l) → Ascending (strike s (t ∷ l))
    go (alike p f) i = rw (f, strike) i
    go (unlike n f) i = rw (f, strike) (count-each (Before t) (strike s l) (λ u h. each-count (Before t) l r.0 u (strike-within u s l h)), i)

pub strike-all-rises : (w l : List Side) → Ascending l → Ascending (strike_all w l)
unfolding strike_all
strike-all-rises [] l r = r
strike-all-rises (s ∷ w) l r = strike-all-rises w (strike s l) (strike-rises s l r)

pub strike-all-short : (w l : List Side) → length (strike_all w l) ≤ length l
unfolding strike_all
strike-all-short [] l = omega arith
strike-all-short (s ∷ w) l = omega (arith, strike-all-short w (strike s l), strike-short s l)

pub strike-none : (s : Side) (l : List Side) → times_in s l ≡ 0 → strike s l ≡ l
unfolding strike tally
strike-none s [] e = refl
strike-none s (t ∷ l) e = go (compared s t) (strike-none s l)
  where
    go : Compared s t → (times_in s l ≡ 0 → strike s l ≡ l) → strike s (t ∷ l) ≡ t ∷ l
    go (alike p f) i = absurd (omega (arith, ap one f))
    go (unlike n f) i = rw (f, strike) (ap (λ (m : List Side). t ∷ m) (i (omega (arith, ap one f))))

pub strike-once : (s : Side) (l : List Side) → times_in s l ≡ 1 → suc (length (strike s l)) ≡ length l
unfolding strike tally
strike-once s [] e = absurd (omega arith)
strike-once s (t ∷ l) e = go (compared s t) (strike-once s l)
  where
    go : Compared s t → (times_in s l ≡ 1 → suc (length (strike s l)) ≡ length l) → suc (length (strike s (t ∷ l))) ≡ suc (length l)
    go (alike p f) i = rw (f, strike) (ap suc (ap length (strike-none s l (omega (arith, ap one f)))))
    go (unlike n f) i = rw (f, strike) (omega (arith, i (omega (arith, ap one f))))

-- two lists that rise and have the same sides are one
pub rises-only : (l m : List Side) → Ascending l → Ascending m → ((s : Side) → In s l → In s m) → ((s : Side) → In s m → In s l) → l ≡ m
unfolding Ascending tally
rises-only [] [] r q f g = refl
rises-only [] (t ∷ m) r q f g = absurd (omega (arith, g t (in_first t m)))
rises-only (s ∷ l) [] r q f g = absurd (omega (arith, f s (in_first s l)))
rises-only (s ∷ l) (t ∷ m) r q f g = go (compared s t) (rises-only l m r.1 q.1)
  where
    first : (x y : Side) (k : List Side) → In x (y ∷ k) → (x ≡ y → ⊥) → In x k
    first x y k h n = pick (compared x y)
      where
        pick : Compared x y → In x k
        pick (alike e d) = absurd (n e)
        pick (unlike e d) = omega (arith, ap one d)

    later : (x y : Side) (k : List Side) → x ≡ y → Each (λ z. before? x z ≡ true) k → In y k → ⊥
    later x y k e b h = before_irreflexive {s = x} {t = y} e (each-count (Before x) k b y h)

    go : Compared s t → (((x : Side) → In x l → In x m) → ((x : Side) → In x m → In x l) → l ≡ m) → s ∷ l ≡ t ∷ m
    go (alike e d) i =
        ap₂ (λ (x : Side) (k : List Side). x ∷ k) e
        (i (λ x h. first x t m (f x (omega arith)) (λ k. later s x l (e ∙ sym k) r.0 h)) (λ x h. first x s l (g x (omega arith)) (λ k. later t x m (sym e ∙ sym k) q.0 h)))
    go (unlike n d) i =
        let a = each-count (Before t) m q.0 s (first s t m (f s (in_first s l)) n) in
        let b = each-count (Before s) l r.0 t (first t s l (g t (in_first t m)) (λ e. n (sym e))) in
        absurd (before_irreflexive {s = s} {t = s} refl (before_trans s t s b a))
