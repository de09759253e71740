-- R4: a renumbering that is one to one on the corners in use keeps a list closed, with its sides and labels.
use Prim.Native.Nat.{ℕ, ◌≤◌, ◌<◌}
use mathlib.Core.Path.{◌≡◌, refl, sym, ◌∙◌, ap, subst}
use mathlib.Core.Logic.{inl, inr}
use mathlib.Core.Bool.{Bool, true, false}
use mathlib.Core.List.{List, [], ◌∷◌, map}
use native.Mathlib.Omega.{arith}
use native.Mathlib.Decide.{ℕ_discrete, dec_lt}
use lib.Dec.{eqb}
use borrow.Author.Tests.{eq-eqb, ne_eqb}
use Rattle.surface.specs.Triangle.{Tri}
use Rattle.surface.specs.Closed.{sides, Step, step, keep, around, InUse, Closed}
use Rattle.surface.proofs.Reading.{hit, Hit, same, first, second, view, hit_yes, hit_no, r0, r1, r2, Has, here, there, spin, has-eq, side-has, sides_cons}
use Rattle.surface.proofs.Surface.{Reach, stop, go, reach_eq, Surface}
use Rattle.surface.proofs.Bridge.{in_use, closed_surface_lem, surface_closed}
use Rattle.surface.proofs.Euler.{use_has}
use Rattle.surface.specs.Label.{carries}
use Rattle.surface.specs.Renumber.{renumber, renumbered}
use Rattle.rounds.specs.Renumber.{OneToOne}

pub has-number : (f : ℕ → ℕ) {x y z : ℕ} {ts : List Tri} → Has x y z ts → Has (f x) (f y) (f z) (renumbered f ts)
has-number f (here (r0 p q r)) = here (r0 (ap f p) (ap f q) (ap f r))
has-number f (here (r1 p q r)) = here (r1 (ap f p) (ap f q) (ap f r))
has-number f (here (r2 p q r)) = here (r2 (ap f p) (ap f q) (ap f r))
has-number f (there h) = there (has-number f h)

-- where a reading came from
pub record Origin (f : ℕ → ℕ) (ts : List Tri) (x y z : ℕ) : Type 0 where
  pub x0 : ℕ
  pub y0 : ℕ
  pub z0 : ℕ
  pub was : Has x0 y0 z0 ts
  pub ex : f x0 ≡ x
  pub ey : f y0 ≡ y
  pub ez : f z0 ≡ z

pub origin : (f : ℕ → ℕ) (ts : List Tri) {x y z : ℕ} → Has x y z (renumbered f ts) → Origin f ts x y z
origin f (t ∷ ts) (here (r0 p q r)) = record { x0 = t.a; y0 = t.b; z0 = t.c; was = here (r0 refl refl refl); ex = p; ey = q; ez = r }
origin f (t ∷ ts) (here (r1 p q r)) = record { x0 = t.b; y0 = t.c; z0 = t.a; was = here (r1 refl refl refl); ex = p; ey = q; ez = r }
origin f (t ∷ ts) (here (r2 p q r)) = record { x0 = t.c; y0 = t.a; z0 = t.b; was = here (r2 refl refl refl); ex = p; ey = q; ez = r }
origin f (t ∷ ts) (there h) = let s = origin f ts h in record { x0 = s.x0; y0 = s.y0; z0 = s.z0; was = there s.was; ex = s.ex; ey = s.ey; ez = s.ez }
origin f [] {y = y} {z = z} x3 = elim x3 [ ]

-- one to one on a set of corners that holds all of a list's
module _ (f : ℕ → ℕ) (P : ℕ → Type 0) (one : (x y : ℕ) → P x → P y → f x ≡ f y → x ≡ y) where
  hit_number : (p q x y : ℕ) → P p → P q → P x → P y → hit (f p) (f q) (f x) (f y) ≡ hit p q x y
  hit_number p q x y ip iq ix iy = pick (view p q x y)
    where
      pick : Hit p q x y → hit (f p) (f q) (f x) (f y) ≡ hit p q x y
      pick (same e g k) = hit_yes (f p) (f q) (f x) (f y) (ap f e) (ap f g) ∙ sym k
      pick (first n k) = hit_no (f p) (f q) (f x) (f y) (inl (λ e. n (one p x ip ix e))) ∙ sym k
      pick (second n k) = hit_no (f p) (f q) (f x) (f y) (inr (λ e. n (one q y iq iy e))) ∙ sym k

  sides_in : (ts : List Tri) → ((v x y : ℕ) → Has v x y ts → P v) → (x y : ℕ) → P x → P y → sides (renumbered f ts) (f x) (f y) ≡ sides ts x y
  unfolding sides
  sides_in [] every x y ix iy = refl
  sides_in (t ∷ ts) every x y ix iy =
      let ia = every t.a _ _ (here (r0 refl refl refl)) in
      let ib = every t.b _ _ (here (r1 refl refl refl)) in
      let ic = every t.c _ _ (here (r2 refl refl refl)) in
      omega (
        arith,
        sides_cons (renumber f t) (renumbered f ts) (f x) (f y),
        sides_cons t ts x y,
        sides_in ts (λ v x y h. every v x y (there h)) x y ix iy,
        hit_number t.a t.b x y ia ib ix iy,
        hit_number t.b t.c x y ib ic ix iy,
        hit_number t.c t.a x y ic ia ix iy,
      )

  eqb_number : (p x : ℕ) → P p → P x → eqb (f p) (f x) ≡ eqb p x
  eqb_number p x ip ix = pick (ℕ_discrete p x)
    where
      pick : Dec (p ≡ x) → eqb (f p) (f x) ≡ eqb p x
      pick (yes e) = eq-eqb (f p) (f x) (ap f e) ∙ sym (eq-eqb p x e)
      pick (no n) = ne_eqb (f p) (f x) (λ e. n (one p x ip ix e)) ∙ sym (ne_eqb p x n)

  carries_in : (ts : List Tri) → ((v x y : ℕ) → Has v x y ts → P v) → (ls : List ℕ) (x : ℕ) → P x → (l : ℕ) → carries (renumbered f ts) ls (f x) l ≡ carries ts ls x l
  unfolding carries
  carries_in [] every ls x ix l = refl
  carries_in (t ∷ ts) every [] x ix l = refl
  carries_in (t ∷ ts) every (m ∷ ls) x ix l =
      let ia = every t.a _ _ (here (r0 refl refl refl)) in
      let ib = every t.b _ _ (here (r1 refl refl refl)) in
      let ic = every t.c _ _ (here (r2 refl refl refl)) in
      rw (eqb_number t.a x ia ix, eqb_number t.b x ib ix, eqb_number t.c x ic ix, carries_in ts (λ v x y h. every v x y (there h)) ls x ix l) refl

  around_in : (ts : List Tri) → ((v x y : ℕ) → Has v x y ts → P v) → (x : ℕ) → P x → around (renumbered f ts) (f x) ≡ map (λ (s : Step). step (f s.from) (f s.to)) (around ts x)
  unfolding around
  around_in [] every x ix = refl
  around_in (t ∷ ts) every x ix =
      let ia = every t.a _ _ (here (r0 refl refl refl)) in
      let ib = every t.b _ _ (here (r1 refl refl refl)) in
      let ic = every t.c _ _ (here (r2 refl refl refl)) in
      rw (eqb_number t.a x ia ix, eqb_number t.b x ib ix, eqb_number t.c x ic ix, around_in ts (λ v x y h. every v x y (there h)) x ix)
      (three (eqb t.a x) (eqb t.b x) (eqb t.c x) (step t.b t.c) (step t.c t.a) (step t.a t.b) (around ts x))
    where
      g : Step → Step
      g s = step (f s.from) (f s.to)

      three : (i j k : Bool) (p q r : Step) (l : List Step) → keep i (g p) (keep j (g q) (keep k (g r) (map g l))) ≡ map g (keep i p (keep j q (keep k r l)))
      three true true true p q r l = refl
      three true true false p q r l = refl
      three true false true p q r l = refl
      three true false false p q r l = refl
      three false true true p q r l = refl
      three false true false p q r l = refl
      three false false true p q r l = refl
      three false false false p q r l = refl

module _ (f : ℕ → ℕ) (ts : List Tri) (one : OneToOne f ts) where
  used_in : (v x y : ℕ) → Has v x y ts → InUse ts v
  used_in v x y h = in_use h

  pub sides-number : (x y : ℕ) → InUse ts x → InUse ts y → sides (renumbered f ts) (f x) (f y) ≡ sides ts x y
  sides-number x y ix iy = sides_in f (λ v. InUse ts v) one ts used_in x y ix iy

  -- the triangles around a corner, in their order
  pub around-number : (x : ℕ) → InUse ts x → around (renumbered f ts) (f x) ≡ map (λ (s : Step). step (f s.from) (f s.to)) (around ts x)
  around-number x ix = around_in f (λ v. InUse ts v) one ts used_in x ix

  pub carries-number : (ls : List ℕ) (x : ℕ) → InUse ts x → (l : ℕ) → carries (renumbered f ts) ls (f x) l ≡ carries ts ls x l
  carries-number ls x ix l = carries_in f (λ v. InUse ts v) one ts used_in ls x ix l

  pub use_number : (x : ℕ) → InUse ts x → InUse (renumbered f ts) (f x)
  use_number x i = let h = use_has ts x i in in_use (has-number f h.2)

  pub use_origin : (w : ℕ) → InUse (renumbered f ts) w → (x : ℕ) × (InUse ts x) × (f x ≡ w)
  use_origin w i = let h = use_has (renumbered f ts) w i in let o = origin f ts h.2 in (o.x0, in_use o.was, o.ex)

  -- a side afterwards was one before
  record From (x y : ℕ) : Type 0 where
    x0 : ℕ
    y0 : ℕ
    ix : InUse ts x0
    iy : InUse ts y0
    ex : f x0 ≡ x
    ey : f y0 ≡ y

  from : (x y : ℕ) → 0 < sides (renumbered f ts) x y → From x y
  from x y p =
      let h = side-has (renumbered f ts) x y p in
      let o = origin f ts h.1 in
      record { x0 = o.x0; y0 = o.y0; ix = in_use o.was; iy = in_use (spin o.was); ex = o.ex; ey = o.ey }

  count : (x y : ℕ) (k : From x y) → sides (renumbered f ts) x y ≡ sides ts k.x0 k.y0
  count x y k = rw (← k.ex, ← k.ey) (sides-number k.x0 k.y0 k.ix k.iy)

  back : (x y : ℕ) (k : From x y) → sides (renumbered f ts) y x ≡ sides ts k.y0 k.x0
  back x y k = rw (← k.ex, ← k.ey) (sides-number k.y0 k.x0 k.iy k.ix)

  reach_number : {v x y : ℕ} → Reach ts v x y → Reach (renumbered f ts) (f v) (f x) (f y)
  reach_number (stop e) = stop (ap f e)
  reach_number (go h r) = go (has-number f h) (reach_number r)

  pub surface_number : Surface ts → Surface (renumbered f ts)
  surface_number s = record { differ = differ; once = once; even = even; joined = joined; apart = apart }
    where
      differ : (x y z : ℕ) → Has x y z (renumbered f ts) → x ≡ y → ⊥
      differ x y z h e = let o = origin f ts h in s.differ o.x0 o.y0 o.z0 o.was (one o.x0 o.y0 (in_use o.was) (in_use (spin o.was)) (o.ex ∙ e ∙ sym o.ey))

      once : (x y : ℕ) → sides (renumbered f ts) x y ≤ 1
      once x y = pick (dec_lt 0 (sides (renumbered f ts) x y))
        where
          pick : Dec (0 < sides (renumbered f ts) x y) → sides (renumbered f ts) x y ≤ 1
          pick (yes p) = let k = from x y p in omega (arith, count x y k, s.once k.x0 k.y0)
          pick (no n) = omega arith

      even : (x y : ℕ) → sides (renumbered f ts) x y ≡ sides (renumbered f ts) y x
      even x y = pick (dec_lt 0 (sides (renumbered f ts) x y)) (dec_lt 0 (sides (renumbered f ts) y x))
        where
          pick : Dec (0 < sides (renumbered f ts) x y) → Dec (0 < sides (renumbered f ts) y x) → sides (renumbered f ts) x y ≡ sides (renumbered f ts) y x
          pick (yes p) q = let k = from x y p in omega (arith, count x y k, back x y k, s.even k.x0 k.y0)
          pick (no n) (yes q) = let k = from y x q in omega (arith, count y x k, back y x k, s.even k.x0 k.y0)
          pick (no n) (no m) = omega arith

      joined : (v x y : ℕ) → 0 < sides (renumbered f ts) v x → 0 < sides (renumbered f ts) v y → Reach (renumbered f ts) v x y
      joined v x y p q =
          let i = from v x p in
          let j = from v y q in
          let e : j.x0 ≡ i.x0 = one j.x0 i.x0 j.ix i.ix (j.ex ∙ sym i.ex) in
          let p0 : 0 < sides ts i.x0 i.y0 = omega (arith, count v x i) in
          let q0 : 0 < sides ts j.x0 j.y0 = omega (arith, count v y j) in
          reach_eq i.ex i.ey j.ey (reach_number (s.joined i.x0 i.y0 j.y0 p0 (subst (λ (n : ℕ). 0 < sides ts n j.y0) e q0)))

      apart : (x y z : ℕ) → Has x y z (renumbered f ts) → Has x z y (renumbered f ts) → ⊥
      apart x y z h k =
          let o = origin f ts h in
          let r = origin f ts k in
          s.apart o.x0 o.y0 o.z0 o.was (has-eq
          (one r.x0 o.x0 (in_use r.was) (in_use o.was) (r.ex ∙ sym o.ex))
          (one r.y0 o.z0 (in_use (spin r.was)) (in_use (spin (spin o.was))) (r.ey ∙ sym o.ez))
          (one r.z0 o.y0 (in_use (spin (spin r.was))) (in_use (spin o.was)) (r.ez ∙ sym o.ey))
          r.was)

  pub closed-number : Closed ts → Closed (renumbered f ts)
  closed-number c = surface_closed (surface_number (closed_surface_lem c))
