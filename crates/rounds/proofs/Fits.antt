-- The state of a collapse pass, triangle by triangle: what is not touched is as it was.
use Prim.Native.Nat.{ℕ, zero, suc, ◌<◌}
use mathlib.Core.Path.{◌≡◌, refl, sym, ◌∙◌, ap}
use mathlib.Core.Bool.{Bool, true, false, ◌&&◌, cond}
use mathlib.Core.List.{List, [], ◌∷◌, map}
use native.Mathlib.Omega.{arith}
use lib.ListN.{length, get_or}
use Rattle.surface.specs.Triangle.{Tri, names}
use Rattle.surface.specs.Closed.{around}
use Rattle.surface.specs.Edit.{has, renamed, place}
use Rattle.surface.proofs.Bools.{or_none, true_false}
use Rattle.surface.specs.Label.{carries}
use Rattle.rounds.specs.Pass.{retain, near, marked, moved}
use Rattle.rounds.proofs.Tests.{and_second, around-off, carries-off, has-off, renamed-off, named-before, carries-none, has-names}

-- u: the touched corners; the triangles at first, now, and the marks
pub data Fits (u : ℕ → Bool) : List Tri → List Tri → List Bool → Type 0 where
  end : Fits u [] [] []
  lost : {t f : Tri} {ts fs : List Tri} {gs : List Bool} → ((x : ℕ) → u x ≡ false → (names t x ≡ false) × (names f x ≡ false)) → Fits u ts fs gs → Fits u (t ∷ ts) (f ∷ fs) (true ∷ gs)
  same : {t f : Tri} {ts fs : List Tri} {gs : List Bool} → f ≡ t → Fits u ts fs gs → Fits u (t ∷ ts) (f ∷ fs) (false ∷ gs)
  other : {t f : Tri} {ts fs : List Tri} {gs : List Bool} → ((x : ℕ) → u x ≡ false → (names t x ≡ false) × (names f x ≡ false)) → Fits u ts fs gs → Fits u (t ∷ ts) (f ∷ fs) (false ∷ gs)

pub fits-begun : (u : ℕ → Bool) (ts : List Tri) → Fits u ts ts (map (λ (t : Tri). false) ts)
fits-begun u [] = end
fits-begun u (t ∷ ts) = same refl (fits-begun u ts)

-- the triangles around an untouched corner are those of the first list, in its order
pub fits-around : {u : ℕ → Bool} {ts fs : List Tri} {gs : List Bool} → Fits u ts fs gs → (x : ℕ) → u x ≡ false → around (retain gs fs) x ≡ around ts x
unfolding retain around
fits-around end x e = refl
fits-around (lost {t = t} {ts = ts} n h) x e = fits-around h x e ∙ sym (around-off t x (n x e).0 ts)
fits-around (same {t = t} {f = f} {ts = ts} p h) x e = rw (p, fits-around h x e) refl
fits-around (other {t = t} {f = f} {ts = ts} {fs = fs} {gs = gs} n h) x e =
    around-off f x (n x e).1 (retain gs fs) ∙ fits-around h x e ∙ sym (around-off t x (n x e).0 ts)

pub fits-carries : {u : ℕ → Bool} {ts fs : List Tri} {gs : List Bool} → Fits u ts fs gs → (ls : List ℕ) (x : ℕ) → u x ≡ false → (l : ℕ)
    → carries (retain gs fs) (retain gs ls) x l ≡ carries ts ls x l
unfolding retain carries
fits-carries end ls x e l = refl
fits-carries (lost {t = t} {ts = ts} {fs = fs} {gs = gs} n h) [] x e l = carries-none (retain gs fs) x l
fits-carries (lost {t = t} {ts = ts} n h) (m ∷ ls) x e l = fits-carries h ls x e l ∙ sym (carries-off t x (n x e).0 ts m ls l)
fits-carries (same p h) [] x e l = refl
fits-carries (same {t = t} {f = f} {ts = ts} p h) (m ∷ ls) x e l = rw (p, fits-carries h ls x e l) refl
fits-carries (other n h) [] x e l = refl
fits-carries (other {t = t} {f = f} {ts = ts} {fs = fs} {gs = gs} n h) (m ∷ ls) x e l =
    carries-off f x (n x e).1 (retain gs fs) m (retain gs ls) l ∙ fits-carries h ls x e l ∙ sym (carries-off t x (n x e).0 ts m ls l)

-- what is marked, among the triangles that are left
abbrev pub on : ℕ → ℕ → List Tri → List Bool
on a b ts = map (has a b) ts

pub retain-none : {A : Type 0} (gs : List Bool) → retain {A = A} gs [] ≡ []
unfolding retain
retain-none [] = refl
retain-none (g ∷ gs) = refl

pub moved-is : (a b : ℕ) (t f : Tri) → f ≡ t → cond (names t b) (renamed a b f) f ≡ renamed a b f
moved-is a b t f p = pick (names t b) refl
  where
    pick : (k : Bool) → names t b ≡ k → cond (names t b) (renamed a b f) f ≡ renamed a b f
    pick true e = rw e refl
    pick false e = rw e (sym (renamed-off f b (ap (λ (q : Tri). names q b) p ∙ e) a))

kept : (a b : ℕ) (t f : Tri) → f ≡ t → (l r : List Tri) → l ≡ map (renamed a b) r
    → cond (has a b t) l (cond (names t b) (renamed a b f) f ∷ l) ≡ map (renamed a b) (cond (has a b f) r (f ∷ r))
kept a b t f p l r q = pick (has a b t) refl
  where
    pick : (k : Bool) → has a b t ≡ k → cond (has a b t) l (cond (names t b) (renamed a b f) f ∷ l) ≡ map (renamed a b) (cond (has a b f) r (f ∷ r))
    pick true e = rw (ap (λ (q : Tri). has a b q) p ∙ e, e) q
    pick false e = rw (ap (λ (q : Tri). has a b q) p ∙ e, e, moved-is a b t f p, q) refl

module _ {v : ℕ → Bool} (a b : ℕ) (away : (x : ℕ) → v x ≡ false → a ≡ x → ⊥) where
  -- one triangle that is as it was
  step_same : {t f : Tri} {ts fs : List Tri} {gs : List Bool} → f ≡ t → ((x : ℕ) → v x ≡ false → (names t b && names t x) ≡ false)
      → Fits v ts fs gs → Fits v (t ∷ ts) (cond (names t b) (renamed a b f) f ∷ fs) (has a b t ∷ gs)
  step_same {t} {f} {ts} {fs} {gs} p k h = pick (has a b t) refl (names t b) refl
    where
      pick : (i : Bool) → has a b t ≡ i → (j : Bool) → names t b ≡ j → Fits v (t ∷ ts) (cond (names t b) (renamed a b f) f ∷ fs) (has a b t ∷ gs)
      pick true e j g = rw (e, (has-names a b t e).1) (lost (λ x q.
          let m = and_second (names t b) (names t x) (k x q) (has-names a b t e).1 in
          (m, named-before a b x f (away x q) (ap (λ (r : Tri). names r x) p ∙ m))) h)
      pick false e true g = rw (e, g) (other (λ x q.
          let m = and_second (names t b) (names t x) (k x q) g in
          (m, named-before a b x f (away x q) (ap (λ (r : Tri). names r x) p ∙ m))) h)
      pick false e false g = rw (e, g) (same p h)

module _ {u : ℕ → Bool} (a b : ℕ) (ea : u a ≡ false) (eb : u b ≡ false) where
  pub fits-labels : {A : Type 0} {ts fs : List Tri} {gs : List Bool} → Fits u ts fs gs → (ls : List A)
      → retain (marked a b ts gs) ls ≡ retain (on a b (retain gs fs)) (retain gs ls)
  unfolding retain marked
  fits-labels end ls = refl
  fits-labels (lost {t = t} {fs = fs} {gs = gs} n h) [] = sym (retain-none (on a b (retain gs fs)))
  fits-labels (lost n h) (l ∷ ls) = fits-labels h ls
  fits-labels (same p h) [] = refl
  fits-labels (same {t = t} {f = f} p h) (l ∷ ls) = rw (p, fits-labels h ls) refl
  fits-labels (other n h) [] = refl
  fits-labels (other {t = t} {f = f} n h) (l ∷ ls) = rw (has-off t a (n a ea).0 b, has-off f a (n a ea).1 b, fits-labels h ls) refl

  -- the step on the whole list, with its marks dropped, is the collapse of what is left
  pub fits-tris : {ts fs : List Tri} {gs : List Bool} → Fits u ts fs gs
      → retain (marked a b ts gs) (moved a b ts fs) ≡ map (renamed a b) (retain (on a b (retain gs fs)) (retain gs fs))
  unfolding retain marked moved
  fits-tris end = refl
  fits-tris (lost n h) = fits-tris h
  fits-tris (same {t = t} {f = f} {ts = ts} {fs = fs} {gs = gs} p h) = kept a b t f p (retain (marked a b ts gs) (moved a b ts fs)) (retain (on a b (retain gs fs)) (retain gs fs)) (fits-tris h)
  fits-tris (other {t = t} {f = f} n h) = rw (has-off t a (n a ea).0 b, has-off f a (n a ea).1 b, (n b eb).0, renamed-off f b (n b eb).1 a, fits-tris h) refl

  -- to rename in the triangles that named b at first is to rename everywhere
  pub moved_all : {ts fs : List Tri} {gs : List Bool} → Fits u ts fs gs → moved a b ts fs ≡ map (renamed a b) fs
  unfolding moved
  moved_all end = refl
  moved_all (lost {t = t} {f = f} n h) = rw ((n b eb).0, renamed-off f b (n b eb).1 a, moved_all h) refl
  moved_all (same {t = t} {f = f} p h) = rw (moved-is a b t f p, moved_all h) refl
  moved_all (other {t = t} {f = f} n h) = rw ((n b eb).0, renamed-off f b (n b eb).1 a, moved_all h) refl

  module _ {v : ℕ → Bool} (away : (x : ℕ) → v x ≡ false → a ≡ x → ⊥) where
    pub fits-step : {ts fs : List Tri} {gs : List Bool} → Fits u ts fs gs
        → ((x : ℕ) → v x ≡ false → (u x ≡ false) × (near ts b x ≡ false)) → Fits v ts (moved a b ts fs) (marked a b ts gs)
    unfolding near moved marked
    fits-step end k = end
    fits-step (lost {t = t} {f = f} {ts = ts} n h) k =
        rw (n b eb).0 (lost (λ x e. n x (k x e).0) (fits-step h (λ x e. ((k x e).0, (or_none (names t b && names t x) (near ts b x) (k x e).1).1))))
    fits-step (same {t = t} {f = f} {ts = ts} p h) k =
        step_same a b away p (λ x e. (or_none (names t b && names t x) (near ts b x) (k x e).1).0)
        (fits-step h (λ x e. ((k x e).0, (or_none (names t b && names t x) (near ts b x) (k x e).1).1)))
    fits-step (other {t = t} {f = f} {ts = ts} n h) k =
        rw (has-off t a (n a ea).0 b, (n b eb).0)
        (other (λ x e. n x (k x e).0) (fits-step h (λ x e. ((k x e).0, (or_none (names t b && names t x) (near ts b x) (k x e).1).1))))

-- a triangle that named an untouched corner at first is not marked, and is as it was
pub fits-place : {u : ℕ → Bool} {ts fs : List Tri} {gs : List Bool} → Fits u ts fs gs → (i a : ℕ) → i < length ts → u a ≡ false → names (place ts i) a ≡ true
    → (place fs i ≡ place ts i) × (get_or gs i true ≡ false)
fits-place end i a l e m = absurd (omega arith)
fits-place (lost n h) zero a l e m = absurd (true_false m (n a e).0)
fits-place (lost n h) (suc i) a l e m = fits-place h i a (omega arith) e m
fits-place (same p h) zero a l e m = (p, refl)
fits-place (same p h) (suc i) a l e m = fits-place h i a (omega arith) e m
fits-place (other n h) zero a l e m = absurd (true_false m (n a e).0)
fits-place (other n h) (suc i) a l e m = fits-place h i a (omega arith) e m
