-- Lists of sides in strictly rising order: `entry` leaves such a list, and the sides in it determine it.
use Prim.Native.Nat.{ℕ, ◌<◌}
use mathlib.Core.Path.{◌≡◌, refl, sym, ◌∙◌, ap, ap₂, subst}
use mathlib.Core.Logic.{◌⊎◌, inl, inr}
use mathlib.Core.Bool.{Bool, true, false, ◌&&◌, ◌||◌, cond, false≢true}
use mathlib.Core.List.{List, [], ◌∷◌}
use native.Mathlib.Omega.{arith}
use native.Mathlib.Decide.{ℕ_discrete, dec_lt}
use lib.Dec.{eqb, ltb}
use borrow.Author.Tests.{eqb-true, eq-eqb, ltb-true, lt-ltb}
use Rattle.surface.proofs.Bools.{both, join, or_second, true_false}
use Rattle.rounds.specs.Choices.{Side}
use Rattle.oracle.specs.Rising.{side}
use Rattle.original.specs.Maps.{before, entry}
use Rattle.original.proofs.Sets.{or_left, or_right}

-- ---- the order

pub data Less (a b c d : ℕ) : Type 0 where
  first : a < c → Less a b c d
  second : a ≡ c → b < d → Less a b c d

less_through : {a b c d x y : ℕ} → Less a b c d → Less c d x y → Less a b x y
less_through (first p) (first q) = first (omega arith)
less_through (first p) (second e q) = first (omega arith)
less_through (second e p) (first q) = first (omega arith)
less_through (second e p) (second f q) = second (omega arith) (omega arith)

less_not : {a b c d : ℕ} → Less a b c d → Less c d a b → ⊥
less_not (first p) (first q) = omega arith
less_not (first p) (second e q) = omega arith
less_not (second e p) (first q) = omega arith
less_not (second e p) (second f q) = omega arith

before-less : (k x : Side) → before k x ≡ true → Less k.one k.two x.one x.two
before-less k x e = pick (ltb k.one x.one) refl
  where
    pick : (q : Bool) → ltb k.one x.one ≡ q → Less k.one k.two x.one x.two
    pick true f = first (ltb-true k.one x.one f)
    pick false f =
        let m = both (eqb k.one x.one) (ltb k.two x.two) (or_second (ltb k.one x.one) (eqb k.one x.one && ltb k.two x.two) e f) in
        second (eqb-true k.one x.one m.0) (ltb-true k.two x.two m.1)

-- if neither is before the other they are equal
level : (k x : Side) → before k x ≡ false → before x k ≡ false → (k.one ≡ x.one) × (k.two ≡ x.two)
level k x e f = pick (ℕ_discrete k.one x.one) (ℕ_discrete k.two x.two)
  where
    ahead : (k x : Side) → k.one < x.one → before k x ≡ true
    ahead k x l = rw (lt-ltb k.one x.one l) refl

    behind : (k x : Side) → k.one ≡ x.one → k.two < x.two → before k x ≡ true
    behind k x q l = rw (eq-eqb k.one x.one q, lt-ltb k.two x.two l) (or_right (ltb k.one x.one) true refl)

    apart : Dec (k.one < x.one) → (k.one ≡ x.one → ⊥) → ⊥
    apart (yes l) n = true_false (ahead k x l) e
    apart (no i) n = true_false (ahead x k (more k.one x.one n i)) f
      where
        more : (u v : ℕ) → (u ≡ v → ⊥) → (u < v → ⊥) → v < u
        more u v n i = omega arith

    apart-two : Dec (k.two < x.two) → k.one ≡ x.one → (k.two ≡ x.two → ⊥) → ⊥
    apart-two (yes l) q n = true_false (behind k x q l) e
    apart-two (no i) q n = true_false (behind x k (sym q) (more k.two x.two n i)) f
      where
        more : (u v : ℕ) → (u ≡ v → ⊥) → (u < v → ⊥) → v < u
        more u v n i = omega arith

    pick : Dec (k.one ≡ x.one) → Dec (k.two ≡ x.two) → (k.one ≡ x.one) × (k.two ≡ x.two)
    pick (yes q) (yes r) = (q, r)
    pick (yes q) (no r) = absurd (apart-two (dec_lt k.two x.two) q r)
    pick (no q) r = absurd (apart (dec_lt k.one x.one) q)

-- ---- two rising lists of the same sides

unfoldable pub among : List Side → ℕ → ℕ → Bool
among [] a b = false
among (x ∷ l) a b = (eqb x.one a && eqb x.two b) || among l a b

abbrev pub Rises : List Side → Type 0
Rises [] = Unit {0}
Rises (x ∷ l) = ((a b : ℕ) → among l a b ≡ true → Less x.one x.two a b) × Rises l

same-side : (x : Side) (a b : ℕ) → (eqb x.one a && eqb x.two b) ≡ true → (x.one ≡ a) × (x.two ≡ b)
same-side x a b e = let m = both (eqb x.one a) (eqb x.two b) e in (eqb-true x.one a m.0, eqb-true x.two b m.1)

its_own : (x : Side) → (eqb x.one x.one && eqb x.two x.two) ≡ true
its_own x = join _ _ (eq-eqb x.one x.one refl) (eq-eqb x.two x.two refl)

head-among : (x : Side) (l : List Side) → among (x ∷ l) x.one x.two ≡ true
unfolding among
head-among x l = or_left (eqb x.one x.one && eqb x.two x.two) (among l x.one x.two) (its_own x)

-- a member is the head, or a member of the tail
pub cases : (x : Side) (l : List Side) (a b : ℕ) → among (x ∷ l) a b ≡ true → ((x.one ≡ a) × (x.two ≡ b)) ⊎ (among l a b ≡ true)
unfolding among
cases x l a b e = pick (eqb x.one a && eqb x.two b) refl
  where
    pick : (k : Bool) → (eqb x.one a && eqb x.two b) ≡ k → ((x.one ≡ a) × (x.two ≡ b)) ⊎ (among l a b ≡ true)
    pick true f = inl (same-side x a b f)
    pick false f = inr (or_second (eqb x.one a && eqb x.two b) (among l a b) e f)

tail_among : (x : Side) (l : List Side) (a b : ℕ) → among l a b ≡ true → among (x ∷ l) a b ≡ true
unfolding among
tail_among x l a b e = or_right (eqb x.one a && eqb x.two b) (among l a b) e

side-eq : (x y : Side) → x.one ≡ y.one → x.two ≡ y.two → x ≡ y
side-eq x y e f = ap₂ (λ (a b : ℕ). side a b) e f

less_self : {a b c d : ℕ} → a ≡ c → b ≡ d → Less a b c d → ⊥
less_self e f (first p) = omega arith
less_self e f (second q p) = omega arith

-- with equal heads the tails have the same members
tails : (x y : Side) (l m : List Side) → x ≡ y → Rises (x ∷ l) → ((a b : ℕ) → among (x ∷ l) a b ≡ true → among (y ∷ m) a b ≡ true) → (a b : ℕ) → among l a b ≡ true → among m a b ≡ true
tails x y l m e r h a b i = pick (cases y m a b (h a b (tail_among x l a b i)))
  where
    pick : ((y.one ≡ a) × (y.two ≡ b)) ⊎ (among m a b ≡ true) → among m a b ≡ true
    pick (inl q) = absurd (less_self (ap (λ (z : Side). z.one) e ∙ q.0) (ap (λ (z : Side). z.two) e ∙ q.1) (r.0 a b i))
    pick (inr q) = q

pub unique : (l m : List Side) → Rises l → Rises m → ((a b : ℕ) → among l a b ≡ true → among m a b ≡ true) → ((a b : ℕ) → among m a b ≡ true → among l a b ≡ true) → l ≡ m
unfolding among
unique [] [] r q g h = refl
unique [] (y ∷ m) r q g h = absurd (none (h y.one y.two (head-among y m)))
  where
    none : among [] y.one y.two ≡ true → ⊥
    none e = false≢true e
unique (x ∷ l) [] r q g h = absurd (none (g x.one x.two (head-among x l)))
  where
    none : among [] x.one x.two ≡ true → ⊥
    none e = false≢true e
unique (x ∷ l) (y ∷ m) r q g h =
    let e = pick (cases y m x.one x.two (g x.one x.two (head-among x l))) (cases x l y.one y.two (h y.one y.two (head-among y m))) in
    ap₂ (λ (z : Side) (k : List Side). z ∷ k) e (unique l m r.1 q.1 (tails x y l m e r g) (tails y x m l (sym e) q h))
  where
    pick : ((y.one ≡ x.one) × (y.two ≡ x.two)) ⊎ (among m x.one x.two ≡ true) → ((x.one ≡ y.one) × (x.two ≡ y.two)) ⊎ (among l y.one y.two ≡ true) → x ≡ y
    pick (inl e) j = side-eq x y (sym e.0) (sym e.1)
    pick (inr i) (inl e) = side-eq x y e.0 e.1
    pick (inr i) (inr j) = absurd (less_not (q.0 x.one x.two i) (r.0 y.one y.two j))

-- ---- `entry`

pub entry-among : (k : Side) (l : List Side) (a b : ℕ) → among (entry k l) a b ≡ ((eqb k.one a && eqb k.two b) || among l a b)
unfolding entry among
entry-among k [] a b = refl
entry-among k (x ∷ l) a b = pick (before k x) refl (before x k) refl (entry-among k l a b)
  where
    swap : (p q r : Bool) → (q || (p || r)) ≡ (p || (q || r))
    swap true true r = refl
    swap true false r = refl
    swap false true r = refl
    swap false false r = refl

    twice : (p r : Bool) → (p || r) ≡ (p || (p || r))
    twice true r = refl
    twice false r = refl

    pick : (p : Bool) → before k x ≡ p → (q : Bool) → before x k ≡ q → among (entry k l) a b ≡ ((eqb k.one a && eqb k.two b) || among l a b)
        → among (cond (before k x) (k ∷ x ∷ l) (cond (before x k) (x ∷ entry k l) (x ∷ l))) a b ≡ ((eqb k.one a && eqb k.two b) || ((eqb x.one a && eqb x.two b) || among l a b))
    pick true e q f ih = rw e refl
    pick false e true f ih = rw (e, f, ih) (swap (eqb k.one a && eqb k.two b) (eqb x.one a && eqb x.two b) (among l a b))
    pick false e false f ih = let z = level k x e f in rw (e, f, z.0, z.1) (twice (eqb x.one a && eqb x.two b) (among l a b))

pub entry-rises : (k : Side) (l : List Side) → Rises l → Rises (entry k l)
unfolding entry among
entry-rises k [] r = ((λ a b e. absurd (false≢true e)), tt)
entry-rises k (x ∷ l) r = pick (before k x) refl (before x k) refl (entry-rises k l r.1)
  where
    over : Less k.one k.two x.one x.two → (a b : ℕ) → ((x.one ≡ a) × (x.two ≡ b)) ⊎ (among l a b ≡ true) → Less k.one k.two a b
    over s a b (inl e) = subst (λ (n : ℕ). Less k.one k.two a n) e.1 (subst (λ (n : ℕ). Less k.one k.two n x.two) e.0 s)
    over s a b (inr e) = less_through s (r.0 a b e)

    under : Less x.one x.two k.one k.two → (a b : ℕ) → ((k.one ≡ a) × (k.two ≡ b)) ⊎ (among l a b ≡ true) → Less x.one x.two a b
    under s a b (inl e) = subst (λ (n : ℕ). Less x.one x.two a n) e.1 (subst (λ (n : ℕ). Less x.one x.two n k.two) e.0 s)
    under s a b (inr e) = r.0 a b e

    pick : (p : Bool) → before k x ≡ p → (q : Bool) → before x k ≡ q → Rises (entry k l) → Rises (cond (before k x) (k ∷ x ∷ l) (cond (before x k) (x ∷ entry k l) (x ∷ l)))
    pick true e q f ih = rw e ((λ a b i. over (before-less k x e) a b (cases x l a b i)), r)
    pick false e true f ih = rw (e, f) ((λ a b i. under (before-less x k f) a b (cases k l a b (sym (entry-among k l a b) ∙ i))), ih)
    pick false e false f ih = rw (e, f) r
