-- Facts about the tests on one triangle, and about marks.
use Prim.Native.Nat.{ℕ}
use mathlib.Core.Path.{◌≡◌, refl, ◌∙◌, ap}
use mathlib.Core.Bool.{Bool, true, false, ◌&&◌, ◌||◌, not, true≢false, false≢true}
use mathlib.Core.List.{List, [], ◌∷◌}
use lib.Dec.{eqb}
use borrow.Author.Tests.{eqb-true, eq-eqb, ne_eqb}
use Rattle.surface.specs.Triangle.{Tri, names, runs}
use Rattle.surface.specs.Closed.{around}
use Rattle.surface.specs.Edit.{has, put, renamed}
use Rattle.surface.proofs.Bools.{or_none, true_false}
use Rattle.surface.specs.Label.{carries}

pub none3 : (p q r : Bool) → (p || (q || r)) ≡ false → (p ≡ false) × (q ≡ false) × (r ≡ false)
none3 p q r e = let m = or_none p (q || r) e in let n = or_none q r m.1 in (m.0, n.0, n.1)

pub and_off_1 : (p q : Bool) → p ≡ false → (p && q) ≡ false
and_off_1 p q e = rw e refl

pub and_off_2 : (p q : Bool) → q ≡ false → (p && q) ≡ false
and_off_2 true q e = e
and_off_2 false q e = refl

-- where a conjunction fails and the first part holds, the second fails
pub and_second : (p q : Bool) → (p && q) ≡ false → p ≡ true → q ≡ false
and_second true q e f = e
and_second false q e f = absurd (false≢true f)

-- a corner that a triangle does not name
module _ (t : Tri) (x : ℕ) (e : names t x ≡ false) where
  pub off : (eqb t.a x ≡ false) × (eqb t.b x ≡ false) × (eqb t.c x ≡ false)
  off = none3 (eqb t.a x) (eqb t.b x) (eqb t.c x) e

  pub around-off : (ts : List Tri) → around (t ∷ ts) x ≡ around ts x
  unfolding around
  around-off ts = rw (off.0, off.1, off.2) refl

  pub carries-off : (ts : List Tri) (m : ℕ) (ls : List ℕ) (l : ℕ) → carries (t ∷ ts) (m ∷ ls) x l ≡ carries ts ls x l
  unfolding carries
  carries-off ts m ls l = rw (off.0, off.1, off.2) refl

  -- no side at it, and nothing to rename
  pub has-off : (y : ℕ) → has x y t ≡ false
  has-off y = rw (
    off.0,
    off.1,
    off.2,
    and_off_2 (eqb t.a y) false refl,
    and_off_2 (eqb t.b y) false refl,
    and_off_2 (eqb t.c y) false refl,
  ) refl

  pub renamed-off : (y : ℕ) → renamed y x t ≡ t
  renamed-off y = rw (off.0, off.1, off.2) refl

-- what a renamed triangle names, a apart, the triangle named
pub named-before : (a b x : ℕ) (t : Tri) → (a ≡ x → ⊥) → names t x ≡ false → names (renamed a b t) x ≡ false
named-before a b x t n e =
    let o = off t x e in
    rw (at t.a o.0, at t.b o.1, at t.c o.2) refl
  where
    at : (y : ℕ) → eqb y x ≡ false → eqb (put a b y) x ≡ false
    at y f = pick (eqb y b) refl
      where
        pick : (k : Bool) → eqb y b ≡ k → eqb (put a b y) x ≡ false
        pick true g = rw g (ne_eqb a x n)
        pick false g = rw g f

pub carries-none : (ts : List Tri) (v l : ℕ) → carries ts [] v l ≡ false
unfolding carries
carries-none [] v l = refl
carries-none (t ∷ ts) v l = refl

-- a triangle on the side names both ends
pub has-names : (a b : ℕ) (t : Tri) → has a b t ≡ true → (names t a ≡ true) × (names t b ≡ true)
has-names a b t e = (pick (names t a) refl, other (names t b) refl)
  where
    pick : (k : Bool) → names t a ≡ k → names t a ≡ true
    pick true f = f
    pick false f = absurd (true_false e (has-off t a f b))

    swap : (p q : Bool) → (p || q) ≡ (q || p)
    swap true true = refl
    swap true false = refl
    swap false true = refl
    swap false false = refl

    other : (k : Bool) → names t b ≡ k → names t b ≡ true
    other true f = f
    other false f = absurd (true_false (swap (runs t b a) (runs t a b) ∙ e) (has-off t b f a))

-- every corner but x is touched
unfoldable pub only : ℕ → ℕ → Bool
only x y = not (eqb y x)

pub only-is : (x y : ℕ) → only x y ≡ false → y ≡ x
unfolding only
only-is x y e = eqb-true y x (pick (eqb y x) e)
  where
    pick : (k : Bool) → not k ≡ false → k ≡ true
    pick true f = refl
    pick false f = absurd (true≢false f)

pub only_self : (x : ℕ) → only x x ≡ false
unfolding only
only_self x = ap not (eq-eqb x x refl)
