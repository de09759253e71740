-- The walk along a permutation of sides: it comes back to its start, meets no side twice, and leaves sides that are permuted too.
-- No counting of steps is needed: the sides that are left get fewer, and what is left is closed but for the place where the walk stands.
use Prim.Native.Nat.{ℕ, zero, suc, ◌+◌, ◌≤◌}
use mathlib.Core.Path.{◌≡◌, refl, sym, ◌∙◌, ap}
use mathlib.Core.Logic.{◌⊎◌, inl, inr}
use mathlib.Core.List.{List, [], ◌∷◌}
use native.Mathlib.Omega.{arith}
use lib.ListN.{length}
use Rattle.surface.specs.Closed.{one}
use Rattle.outlines.specs.Side.{Side, tally, times_in, strike, strike_all}
use Rattle.outlines.specs.Outline.{circuit}
use Rattle.outlines.proofs.Sides.{Compared, alike, unlike, compared, same_refl, In, in_first, strike-count, strike-gone, strike-length, strike-within, strike-once}

-- f permutes the sides of the list, and g undoes it
pub record Permutes (f g : Side → Side) (l : List Side) : Type 0 where
  pub once : (s : Side) → times_in s l ≤ 1
  pub ahead : (s : Side) → In s l → In (f s) l
  pub back : (s : Side) → In s l → In (g s) l
  pub there : (s : Side) → In s l → g (f s) ≡ s
  pub again : (s : Side) → In s l → f (g s) ≡ s

pub reversed : {f g : Side → Side} {l : List Side} → Permutes f g l → Permutes g f l
reversed p = record { once = p.once; ahead = p.back; back = p.ahead; there = p.again; again = p.there }

-- each side of w is what f makes of the one before, x the first, and the last leads to the start
unfoldable pub Chain : (Side → Side) → Side → Side → List Side → Type 0
Chain f start x [] = x ≡ start
Chain f start x (y ∷ w) = (y ≡ x) × Chain f start (f y) w

-- the walk stands before x; l are the sides not yet met
record Underway (f g : Side → Side) (start x : Side) (l : List Side) : Type 0 where
  once : (s : Side) → times_in s l ≤ 1
  met : times_in start l ≡ 0
  ahead : (s : Side) → In s l → (In (f s) l) ⊎ (f s ≡ start)
  back : (s : Side) → In s l → (In (g s) l) ⊎ (s ≡ x)
  there : (s : Side) → In s l → g (f s) ≡ s
  again : (s : Side) → In s l → f (g s) ≡ s
  here : (In x l) ⊎ (x ≡ start)
  behind : times_in (g x) l ≡ 0

pub record Walked (f g : Side → Side) (start x : Side) (w l : List Side) : Type 0 where
  pub chain : Chain f start x w
  pub split : (s : Side) → times_in s w + times_in s (strike_all w l) ≡ times_in s l
  pub left : Permutes f g (strike_all w l)
  pub long : length w + length (strike_all w l) ≡ length l

-- a side of the list without x
module _ (x : Side) (l : List Side) where
  other : (s : Side) → In s (strike x l) → s ≡ x → ⊥
  other s h e = omega (arith, strike-gone x l, ap (λ (t : Side). times_in t (strike x l)) e)

  keep : (s : Side) → In s l → (In s (strike x l)) ⊎ (s ≡ x)
  keep s h = go (compared s x)
    where
      go : Compared s x → (In s (strike x l)) ⊎ (s ≡ x)
      go (alike e f) = inr e
      go (unlike n f) = inl (omega (arith, strike-count s x l n))

  fewer : (s : Side) → times_in s (strike x l) ≤ times_in s l
  fewer s = go (compared s x)
    where
      go : Compared s x → times_in s (strike x l) ≤ times_in s l
      go (alike e f) = omega (arith, strike-gone x l, ap (λ (t : Side). times_in t (strike x l)) e)
      go (unlike n f) = omega (arith, strike-count s x l n)

module _ (f g : Side → Side) (start : Side) where
  -- a turn of the walk
  turn : (x : Side) (l : List Side) → Underway f g start x l → In x l → Underway f g start (f x) (strike x l)
  turn x l u i = record {
    once = λ s. omega (arith, u.once s, fewer x l s);
    met = omega (arith, u.met, fewer x l start);
    ahead = λ s h. ahead s h (u.ahead s (strike-within s x l h));
    back = λ s h. back s h (u.back s (strike-within s x l h));
    there = λ s h. u.there s (strike-within s x l h);
    again = λ s h. u.again s (strike-within s x l h);
    here = here (u.ahead x i);
    behind = ap (λ (t : Side). times_in t (strike x l)) (u.there x i) ∙ strike-gone x l;
  }
    where
      before-x : (s : Side) → In s l → f s ≡ x → ⊥
      before-x s h e =
          let p : s ≡ g x = sym (u.there s h) ∙ ap g e in
          omega (arith, u.behind, ap (λ (t : Side). times_in t l) p)

      ahead : (s : Side) → In s (strike x l) → (In (f s) l) ⊎ (f s ≡ start) → (In (f s) (strike x l)) ⊎ (f s ≡ start)
      ahead s h (inr e) = inr e
      ahead s h (inl k) = pick (keep x l (f s) k)
        where
          pick : (In (f s) (strike x l)) ⊎ (f s ≡ x) → (In (f s) (strike x l)) ⊎ (f s ≡ start)
          pick (inl m) = inl m
          pick (inr e) = absurd (before-x s (strike-within s x l h) e)

      back : (s : Side) → In s (strike x l) → (In (g s) l) ⊎ (s ≡ x) → (In (g s) (strike x l)) ⊎ (s ≡ f x)
      back s h (inr e) = absurd (other x l s h e)
      back s h (inl k) = pick (keep x l (g s) k)
        where
          pick : (In (g s) (strike x l)) ⊎ (g s ≡ x) → (In (g s) (strike x l)) ⊎ (s ≡ f x)
          pick (inl m) = inl m
          pick (inr e) = inr (sym (u.again s (strike-within s x l h)) ∙ ap f e)

      here : (In (f x) l) ⊎ (f x ≡ start) → (In (f x) (strike x l)) ⊎ (f x ≡ start)
      here (inr e) = inr e
      here (inl k) = pick (keep x l (f x) k)
        where
          pick : (In (f x) (strike x l)) ⊎ (f x ≡ x) → (In (f x) (strike x l)) ⊎ (f x ≡ start)
          pick (inl m) = inl m
          pick (inr e) = absurd (before-x x i e)

  -- back at the start, what is left is permuted
  arrived : (x : Side) (l : List Side) → Underway f g start x l → x ≡ start → Permutes f g l
  arrived x l u e = record {
    once = u.once;
    ahead = λ s h. ahead s h (u.ahead s h);
    back = λ s h. back s h (u.back s h);
    there = u.there;
    again = u.again;
  }
    where
      ahead : (s : Side) → In s l → (In (f s) l) ⊎ (f s ≡ start) → In (f s) l
      ahead s h (inl k) = k
      ahead s h (inr k) =
          let p : s ≡ g x = sym (u.there s h) ∙ ap g (k ∙ sym e) in
          absurd (omega (arith, u.behind, ap (λ (t : Side). times_in t l) p))

      back : (s : Side) → In s l → (In (g s) l) ⊎ (s ≡ x) → In (g s) l
      back s h (inl k) = k
      back s h (inr k) = absurd (omega (arith, u.met, ap (λ (t : Side). times_in t l) (k ∙ e)))

  walked : (n : ℕ) (x : Side) (l : List Side) → length l ≤ n → Underway f g start x l → Walked f g start x (circuit f start n x) l
  unfolding circuit strike_all Chain tally
  walked zero x [] m u = none u.here
    where
      none : (In x []) ⊎ (x ≡ start) → Walked f g start x [] []
      none (inl h) = absurd (omega arith)
      none (inr e) = record { chain = e; split = λ s. refl; left = arrived x [] u e; long = refl }
  walked zero x (y ∷ l) m u = absurd (omega arith)
  walked (suc n) x l m u = go (compared x start) (walked n (f x) (strike x l))
    where
      here : (x ≡ start → ⊥) → (In x l) ⊎ (x ≡ start) → In x l
      here d (inl h) = h
      here d (inr e) = absurd (d e)

      split : (w : List Side) (i : In x l) → Walked f g start (f x) w (strike x l) → (s : Side) → times_in s (x ∷ w) + times_in s (strike_all w (strike x l)) ≡ times_in s l
      split w i k s = pick (compared s x)
        where
          pick : Compared s x → times_in s (x ∷ w) + times_in s (strike_all w (strike x l)) ≡ times_in s l
          pick (alike p q) =
              omega (arith, k.split s, ap one q, u.once x, strike-gone x l, ap (λ (t : Side). times_in t (strike x l)) p, ap (λ (t : Side). times_in t l) p)
          pick (unlike p q) = omega (arith, k.split s, ap one q, strike-count s x l p)

      go : Compared x start → (length (strike x l) ≤ n → Underway f g start (f x) (strike x l) → Walked f g start (f x) (circuit f start n (f x)) (strike x l))
          → Walked f g start x (circuit f start (suc n) x) l
      go (alike e q) r = rw (q, circuit) (record { chain = e; split = λ s. omega arith; left = arrived x l u e; long = omega arith })
      go (unlike d q) r =
          let i = here d u.here in
          let k = r (omega (arith, strike-length x l i)) (turn x l u i) in
          rw (q, circuit) (record { chain = (refl, k.chain); split = split (circuit f start n (f x)) i k; left = k.left; long = omega (arith, k.long, strike-once x l (omega (arith, u.once x, i))) })

-- the loop of the first side
pub loop_walked : (f g : Side → Side) (s : Side) (l : List Side) → Permutes f g (s ∷ l) → Walked f g s (f s) (circuit f s (length l) (f s)) l
unfolding tally
loop_walked f g s l p = walked f g s (length l) (f s) l (omega arith) (record {
  once = λ t. omega (arith, p.once t);
  met = met;
  ahead = λ t h. or (f t) (p.ahead t (omega arith));
  back = λ t h. back t (omega arith) (or (g t) (p.back t (omega arith)));
  there = λ t h. p.there t (omega arith);
  again = λ t h. p.again t (omega arith);
  here = or (f s) (p.ahead s (in_first s l));
  behind = ap (λ (t : Side). times_in t l) (p.there s (in_first s l)) ∙ met;
})
  where
    met : times_in s l ≡ 0
    met = omega (arith, ap one (same_refl s), p.once s)

    or : (t : Side) → In t (s ∷ l) → (In t l) ⊎ (t ≡ s)
    or t h = go (compared t s)
      where
        go : Compared t s → (In t l) ⊎ (t ≡ s)
        go (alike e q) = inr e
        go (unlike n q) = inl (omega (arith, ap one q))

    back : (t : Side) → In t (s ∷ l) → (In (g t) l) ⊎ (g t ≡ s) → (In (g t) l) ⊎ (t ≡ f s)
    back t h (inl k) = inl k
    back t h (inr e) = inr (sym (p.again t h) ∙ ap f e)
