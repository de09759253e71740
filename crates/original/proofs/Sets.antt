-- Membership in lists that stand for sets, and some tests put otherwise.
use Prim.Native.Nat.{ℕ, ◌+◌}
use mathlib.Core.Path.{◌≡◌, refl, sym, ◌∙◌, ap}
use mathlib.Core.Logic.{◌↔◌}
use mathlib.Core.Bool.{Bool, true, false, ◌&&◌, ◌||◌, cond, false≢true}
use mathlib.Core.List.{List, [], ◌∷◌, ◌++◌}
use native.Mathlib.Nat.{zero-add}
use native.Mathlib.Omega.{arith}
use lib.Dec.{eqb, ltb}
use borrow.Author.Tests.{eqb-true, eq-eqb, lt-ltb}
use Rattle.surface.specs.Closed.{one}
use Rattle.surface.specs.Check.{every}
use Rattle.surface.proofs.Bools.{both, join}
use Rattle.oracle.specs.Candidates.{chosen}
use Rattle.original.specs.Sets.{push, member, same_set, intersection}

-- tests of which each follows from the other are the same
pub same_test : (p q : Bool) → (p ≡ true → q ≡ true) → (q ≡ true → p ≡ true) → p ≡ q
same_test true q f g = sym (f refl)
same_test false true f g = g refl
same_test false false f g = refl

pub and_swap : (p q : Bool) → (p && q) ≡ (q && p)
and_swap true true = refl
and_swap true false = refl
and_swap false true = refl
and_swap false false = refl

pub or_swap : (p q : Bool) → (p || q) ≡ (q || p)
or_swap true true = refl
or_swap true false = refl
or_swap false true = refl
or_swap false false = refl

pub or_left : (p q : Bool) → p ≡ true → (p || q) ≡ true
or_left p q e = rw e refl

pub or_right : (p q : Bool) → q ≡ true → (p || q) ≡ true
or_right true q e = refl
or_right false q e = e

-- tests as counts, and members of lists put together
pub or_count : (p : Bool) (n : ℕ) → (p || ltb 0 n) ≡ ltb 0 (one p + n)
or_count true n = sym (lt-ltb 0 (1 + n) (omega arith))
or_count false n = ap (ltb 0) (sym (zero-add n))

pub member-push : (k : Bool) (y : ℕ) (l : List ℕ) (x : ℕ) → member (push k y l) x ≡ ((k && eqb y x) || member l x)
unfolding member
member-push true y l x = refl
member-push false y l x = refl

pub member-append : (l m : List ℕ) (x : ℕ) → member (l ++ m) x ≡ (member l x || member m x)
unfolding member
member-append [] m x = refl
member-append (y ∷ l) m x = ap (λ (k : Bool). eqb y x || k) (member-append l m x) ∙ assoc (eqb y x) (member l x) (member m x)
  where
    assoc : (p q r : Bool) → (p || (q || r)) ≡ ((p || q) || r)
    assoc true q r = refl
    assoc false q r = refl

pub member-chosen : (f : ℕ → Bool) (l : List ℕ) (x : ℕ) → member (chosen f l) x ≡ (f x && member l x)
unfolding member chosen
member-chosen f [] x = and_none (f x)
  where
    and_none : (p : Bool) → false ≡ (p && false)
    and_none true = refl
    and_none false = refl
member-chosen f (y ∷ l) x = pick (f y) refl (eqb y x) refl (member-chosen f l x)
  where
    taken : (p q r : Bool) → p ≡ true → q ≡ true → (q || r) ≡ (p && true)
    taken p q r e g = rw (e, g) refl

    pick : (k : Bool) → f y ≡ k → (j : Bool) → eqb y x ≡ j → member (chosen f l) x ≡ (f x && member l x) → member (cond (f y) (y ∷ chosen f l) (chosen f l)) x ≡ (f x && (eqb y x || member l x))
    pick true e true g r = rw (e, g, sym (ap f (eqb-true y x g)) ∙ e) refl
    pick true e false g r = rw (e, g) r
    pick false e true g r = rw (e, g) (r ∙ rw (sym (ap f (eqb-true y x g)) ∙ e) refl)
    pick false e false g r = rw (e, g) r

-- `every`, by members
pub every-member : (f : ℕ → Bool) (l : List ℕ) → (every f l ≡ true) ↔ ((x : ℕ) → member l x ≡ true → f x ≡ true)
unfolding every member
every-member f l = (to f l, from f l)
  where
    to : (f : ℕ → Bool) (l : List ℕ) → every f l ≡ true → (x : ℕ) → member l x ≡ true → f x ≡ true
    to f [] e x m = absurd (false≢true m)
    to f (y ∷ l) e x m = pick (eqb y x) refl (to f l (both (f y) (every f l) e).1 x)
      where
        pick : (k : Bool) → eqb y x ≡ k → (member l x ≡ true → f x ≡ true) → f x ≡ true
        pick true g r = sym (ap f (eqb-true y x g)) ∙ (both (f y) (every f l) e).0
        pick false g r = r (rw g at m)

    from : (f : ℕ → Bool) (l : List ℕ) → ((x : ℕ) → member l x ≡ true → f x ≡ true) → every f l ≡ true
    from f [] h = refl
    from f (y ∷ l) h = join (f y) (every f l) (h y (or_left (eqb y y) (member l y) (eq-eqb y y refl))) (from f l (λ x m. h x (or_right (eqb y x) (member l x) m)))

-- `same_set`, by members
pub same_set_lem : (l m : List ℕ) → (same_set l m ≡ true) ↔ (((x : ℕ) → member l x ≡ true → member m x ≡ true) × ((x : ℕ) → member m x ≡ true → member l x ≡ true))
unfolding same_set
same_set_lem l m = (
  (λ e. let w = both (every (member m) l) (every (member l) m) e in ((every-member (member m) l).0 w.0, (every-member (member l) m).0 w.1)),
  λ w. join (every (member m) l) (every (member l) m) ((every-member (member m) l).1 w.0) ((every-member (member l) m).1 w.1),
)

pub member-both : (l m : List ℕ) (x : ℕ) → member (intersection l m) x ≡ (member m x && member l x)
unfolding intersection
member-both l m x = member-chosen (member m) l x
