-- R3: a flip changes nothing around a corner that is none of its four, and the flip pass is a history of flips.
use Prim.Native.Nat.{ℕ, ◌≤◌, ◌<◌}
use mathlib.Core.Path.{◌≡◌, refl, sym, ◌∙◌, ap, subst}
use mathlib.Core.Logic.{◌↔◌, ◌⊎◌, inl, inr}
use mathlib.Core.Bool.{Bool, false}
use mathlib.Core.List.{List, [], ◌∷◌, ◌++◌}
use native.Mathlib.Omega.{arith}
use lib.ListN.{length, length-append}
use borrow.Author.Tests.{eq-eqb, ne_eqb, lt-ltb}
use Rattle.surface.specs.Triangle.{Tri, tri, names}
use Rattle.surface.specs.Closed.{sides, around, InUse, Closed}
use Rattle.surface.specs.Edit.{first, Hinge, hinge, flip}
use Rattle.surface.proofs.Surface.{Surface}
use Rattle.surface.proofs.Hinged.{Hinged, hinged}
use Rattle.surface.proofs.Bridge.{closed_surface_lem, reads_names}
use Rattle.surface.proofs.Decision.{closed?_iff}
use Rattle.surface.specs.Euler.{Below, SameEuler}
use Rattle.surface.proofs.Laws.{flip-closed, flip-corners, flip-same-euler}
use Rattle.rounds.proofs.EulerSteps.{euler_refl, euler_trans}
use Rattle.surface.specs.Label.{carries}
use Rattle.history.specs.History.{Pair, Entry, label}
use Rattle.rounds.specs.Accepted.{Accepted}
use Rattle.rounds.specs.Flips.{FlipState, FlipAllowed, flip_at, FlipApplied, flip_entry, FlipReached, flips-begun, flipped, flip_result}
use Rattle.rounds.proofs.Local.{sides-from, sides-to}
use Rattle.rounds.proofs.Tests.{only, only-is, only_self}
use Rattle.rounds.proofs.Stays.{Stays, stays-begun, stays-around, stays-carries, stays-hinge, stays-set}
use Rattle.rounds.proofs.Verdicts.{Good, accepted-none, accepted-more}

names_not : (x y z v : ℕ) → (x ≡ v → ⊥) → (y ≡ v → ⊥) → (z ≡ v → ⊥) → names (tri x y z) v ≡ false
names_not x y z v i j k = rw (ne_eqb x v i, ne_eqb y v j, ne_eqb z v k) refl

-- the flip in place leaves what is none of the four corners as it was
module _ {ts : List Tri} (s : Surface ts) (a b : ℕ) (given : 0 < sides ts a b) {v : ℕ → Bool}
    (va : (x : ℕ) → v x ≡ false → a ≡ x → ⊥) (vb : (x : ℕ) → v x ≡ false → b ≡ x → ⊥)
    (vc : (x : ℕ) → v x ≡ false → (hinge ts a b).c ≡ x → ⊥) (vd : (x : ℕ) → v x ≡ false → (hinge ts a b).d ≡ x → ⊥) where
  h : Hinged ts a b (hinge ts a b)
  h = hinged s a b given

  vu : (x : ℕ) → v x ≡ false → (hinge ts a b).u ≡ x → ⊥
  vu x e f = pick h.ends
    where
      pick : (((hinge ts a b).u ≡ a) × ((hinge ts a b).v ≡ b)) ⊎ (((hinge ts a b).u ≡ b) × ((hinge ts a b).v ≡ a)) → ⊥
      pick (inl k) = va x e (sym k.0 ∙ f)
      pick (inr k) = vb x e (sym k.0 ∙ f)

  vv : (x : ℕ) → v x ≡ false → (hinge ts a b).v ≡ x → ⊥
  vv x e f = pick h.ends
    where
      pick : (((hinge ts a b).u ≡ a) × ((hinge ts a b).v ≡ b)) ⊎ (((hinge ts a b).u ≡ b) × ((hinge ts a b).v ≡ a)) → ⊥
      pick (inl k) = vb x e (sym k.1 ∙ f)
      pick (inr k) = va x e (sym k.1 ∙ f)

  pub stays-flip : {u : ℕ → Bool} {fs : List Tri} → Stays u ts fs → ((x : ℕ) → v x ≡ false → u x ≡ false) → Stays v ts (flip_at (hinge ts a b) fs)
  stays-flip k w =
      let g = hinge ts a b in
      stays-set (stays-set k w g.p1 (tri g.c g.d g.v) (λ x e. (
        reads_names h.ahead x ∙ names_not g.u g.v g.c x (vu x e) (vv x e) (vc x e),
        names_not g.c g.d g.v x (vc x e) (vd x e) (vv x e),
      ))) (λ x e. e) g.p2 (tri g.d g.c g.u) (λ x e. (
        reads_names h.back x ∙ names_not g.v g.u g.d x (vv x e) (vu x e) (vd x e),
        names_not g.d g.c g.u x (vd x e) (vc x e) (vu x e),
      ))

-- R3, first half: a flip changes nothing around a corner that is none of its four
module _ {ts : List Tri} (c : Closed ts) (a b : ℕ) (given : 0 < sides ts a b) (x : ℕ) (xa : a ≡ x → ⊥) (xb : b ≡ x → ⊥)
    (xc : (hinge ts a b).c ≡ x → ⊥) (xd : (hinge ts a b).d ≡ x → ⊥) where
  stays-only : Stays (only x) ts (flip a b ts)
  unfolding flip
  stays-only = stays-flip (closed_surface_lem c) a b given (λ y e f. xa (f ∙ only-is x y e)) (λ y e f. xb (f ∙ only-is x y e)) (λ y e f. xc (f ∙ only-is x y e)) (λ y e f. xd (f ∙ only-is x y e))
      (stays-begun (λ y. false) ts) (λ y e. refl)

  -- the triangles around x, in their order
  pub flip-around-kept : around (flip a b ts) x ≡ around ts x
  flip-around-kept = stays-around stays-only x (only_self x)

  -- the sides at x
  pub flip-sides-from-kept : (z : ℕ) → sides (flip a b ts) x z ≡ sides ts x z
  flip-sides-from-kept = sides-from ts (flip a b ts) x flip-around-kept

  pub flip-sides-to-kept : (z : ℕ) → sides (flip a b ts) z x ≡ sides ts z x
  flip-sides-to-kept = sides-to ts (flip a b ts) x flip-around-kept

  -- the labels that x carries
  pub flip-carries-kept : (ls : List ℕ) (l : ℕ) → carries (flip a b ts) ls x l ≡ carries ts ls x l
  flip-carries-kept ls l = stays-carries stays-only ls x (only_self x) l

pub record FlipKept (room : ℕ) (p : Pair) (s : FlipState) (es : List Entry) : Type 0 where
  -- what is not touched is as it was, triangle by triangle
  pub stays : Stays s.touched p.tris s.tris
  pub closed : Closed s.tris
  -- the bounds and Euler's number
  pub below : (n : ℕ) → Below n p.tris → Below n s.tris
  pub euler : (n : ℕ) → Below n p.tris → SameEuler n p.tris s.tris
  -- the corners in use are the same
  pub uses : (w : ℕ) → InUse s.tris w ↔ InUse p.tris w
  pub accepted : Accepted room p es (flip_result p s)

module _ (p : Pair) (c : Closed p.tris) where
  flip-same : {s : FlipState} (x y : ℕ) → FlipAllowed p s x y → Stays s.touched p.tris s.tris → flip x y s.tris ≡ flip_at (hinge p.tris x y) s.tris
  unfolding flip
  flip-same {s} x y k f = ap (λ (h : Hinge). flip_at h s.tris) (stays-hinge f (closed_surface_lem c) x y k.side k.free_a)

  -- an allowed flip is one that a history accepts
  good : {s : FlipState} (x y : ℕ) → FlipAllowed p s x y → Stays s.touched p.tris s.tris → Closed s.tris
      → (Good (flip_result p s) (flip_entry x y)) × Closed (flip x y s.tris)
  unfolding hinge
  good {s} x y k f d =
      let ts = p.tris in
      let us = s.tris in
      let e = stays-hinge f (closed_surface_lem c) x y k.side k.free_a in
      let ea = stays-around f x k.free_a in
      let ec = stays-around f (hinge ts x y).c k.free_c in
      let given : 0 < sides us x y = omega (arith, k.side, sides-from ts us x ea y) in
      let n : sides us (hinge us x y).c (hinge us x y).d ≡ 0 = ap (λ (h : Hinge). sides us h.c h.d) e ∙ sides-from ts us (hinge ts x y).c ec (hinge ts x y).d ∙ k.fresh in
      let m : Closed (flip x y us) = (flip-closed d x y given).1 n in
      let h = hinged (closed_surface_lem d) x y given in
      let q : label p (hinge us x y).p1 ≡ label p (hinge us x y).p2 = ap (λ (h : Hinge). label p h.p1) e ∙ k.labels ∙ sym (ap (λ (h : Hinge). label p h.p2) e) in (
        record {
          kind = refl;
          edits = refl;
          there = lt-ltb (first x y us) (length us) (omega (arith, h.order, h.fits));
          fine = eq-eqb _ _ q;
          closed = (closed?_iff (flip x y us)).1 m;
        },
        m,
      )

  more : {s t : FlipState} {es : List Entry} (x y room : ℕ) → FlipKept room p s es → FlipAllowed p s x y → FlipApplied p s t x y → length es < room → FlipKept room p t (es ++ (flip_entry x y ∷ []))
  more {s} {t} {es} x y room i k a n = record {
    stays = rw a.tris (stays-flip (closed_surface_lem c) x y k.side a.off-a a.off-b a.off-c a.off-d i.stays a.still);
    closed = subst Closed same g.1;
    below = λ n b. subst (Below n) same (λ w u. i.below n b w ((flip-corners i.closed x y given w).0 u));
    euler = λ n b. subst (SameEuler n p.tris) same (euler_trans n p.tris s.tris (flip x y s.tris) (i.euler n b) (flip-same-euler i.closed x y given n (i.below n b) g.1));
    uses = λ w. subst (λ (q : List Tri). InUse q w ↔ InUse p.tris w) same (
      (λ u. (i.uses w).0 ((flip-corners i.closed x y given w).0 u)),
      λ u. (flip-corners i.closed x y given w).1 ((i.uses w).1 u),
    );
    accepted = subst (λ (q : List Tri). Accepted room p (es ++ (flip_entry x y ∷ [])) (record { tris = q; labels = p.labels })) same (accepted-more i.accepted (flip_entry x y) g.0 n);
  }
    where
      g : (Good (flip_result p s) (flip_entry x y)) × Closed (flip x y s.tris)
      g = good x y k i.stays i.closed

      given : 0 < sides s.tris x y
      given = omega (arith, k.side, sides-from p.tris s.tris x (stays-around i.stays x k.free_a) y)

      same : flip x y s.tris ≡ t.tris
      same = flip-same x y k i.stays ∙ sym a.tris

  pub flips-kept : {s : FlipState} {es : List Entry} → FlipReached p s es → (room : ℕ) → length es ≤ room → FlipKept room p s es
  flips-kept {s} (flips-begun e) room n = record {
    stays = rw e (stays-begun s.touched p.tris);
    closed = rw e c;
    below = λ n b. rw e b;
    euler = λ n b. subst (SameEuler n p.tris) (sym e) (euler_refl n p.tris);
    uses = λ w. subst (λ (q : List Tri). InUse q w ↔ InUse p.tris w) (sym e) ((λ u. u), λ u. u);
    accepted = subst (λ (q : List Tri). Accepted room p [] (record { tris = q; labels = p.labels })) (sym e) (accepted-none room p);
  }
  flips-kept (flipped {s = s} {t = t} {es = es} x y r k a) room n =
      let q = length-append es (flip_entry x y ∷ []) in
      more x y room (flips-kept r room (omega arith)) k a (omega arith)
