-- An accepted flip or collapse is taken back by its record's words.
use Prim.Native.Nat.{ℕ, zero, suc, ◌<◌}
use mathlib.Core.Path.{◌≡◌, refl, sym, ◌∙◌, ap}
use mathlib.Core.Logic.{◌⊎◌, inl, inr, ◌≢◌}
use mathlib.Core.Bool.{Bool, true, false, cond}
use mathlib.Core.List.Memᴰ
use mathlib.Core.List.Permᴰ
use mathlib.Core.List.{List, [], ◌∷◌, map}
use native.Mathlib.Omega.{arith}
use lib.Dec.{eqb}
use lib.ListN.{length, get_or, set}
use lib.Seq.{set-set, set_comm, set-get_or}
use borrow.Author.Tests.{eq-eqb, ne_eqb}
use Rattle.surface.specs.Triangle.{Tri, tri}
use Rattle.surface.specs.Closed.{sides, step, around, Closed}
use Rattle.surface.specs.Edit.{Hinge, hinge, place, start_of, flip, without, renamed, collapse}
use Rattle.surface.proofs.Reading.{hit_yes, Reads, r0, r1, r2, Has, there, spin, has-eq, has-side, side-has}
use Rattle.surface.proofs.Surface.{Surface, surface_alike, next_of}
use Rattle.surface.specs.Laws.{FourDiffer}
use Rattle.surface.proofs.FlipCore.{before, before-sides}
use Rattle.surface.proofs.Rings.{mem_perm}
use Rattle.surface.proofs.Steps.{around-has}
use Rattle.surface.proofs.Places.{place-has}
use Rattle.surface.proofs.Hinged.{Hinged}
use Rattle.surface.proofs.Bridge.{closed_surface_lem, in_use}
use Rattle.surface.proofs.Edits.{as_before}
use Rattle.surface.proofs.CollapseRings.{CollapseRing, collapse_ring}
use Rattle.surface.proofs.Laws.{hinge-found, hinge-differ, collapse-corners}
use Rattle.history.specs.History.{Pair, Entry, label, flipped, collapsed, words, made}
use Rattle.history.specs.Safe.{Sound}
use Rattle.history.specs.Undo.{turned, inserted, walk, restored, unflipped, uncollapsed, undone}
use Rattle.history.proofs.Verdict.{Edit, flips, collapses}
use Rattle.surface.proofs.Places.{length_without}
use Rattle.history.proofs.Walk.{restored-all, route}
use Rattle.history.specs.Route.{Route}

-- the triangle at its place, from where the side starts in it and its three corners
pub turned-back : {t : Tri} {u v c : ℕ} → (u ≡ v → ⊥) → (v ≡ c → ⊥) → (c ≡ u → ⊥) → Reads t u v c → turned (start_of t u v) u v c ≡ t
turned-back {t} {u} {v} {c} i j k (r0 e f g) = rw (eq-eqb t.a u e, eq-eqb t.b v f, ← e, ← f, ← g)
turned-back {t} {u} {v} {c} i j k (r1 e f g) = rw (ne_eqb t.a u (λ q. k (sym g ∙ q)), eq-eqb t.b u e, eq-eqb t.c v f, ← e, ← f, ← g)
turned-back {t} {u} {v} {c} i j k (r2 e f g) = rw (ne_eqb t.a u (λ q. i (sym q ∙ f)), ne_eqb t.b u (λ q. k (sym g ∙ q)), ← e, ← f, ← g)

-- what was taken out is put in again
pub put_in : {A : Type 0} (l : List A) (i : ℕ) (d : A) → i < length l → inserted i (get_or l i d) (without i l) ≡ l
unfolding without inserted
put_in [] i d p = absurd (omega arith)
put_in (x ∷ l) zero d p = refl
put_in (x ∷ l) (suc i) d p = ap (λ (m : List _). x ∷ m) (put_in l i d (omega arith))

at_before : {A : Type 0} (l : List A) (i j : ℕ) (d : A) → i < j → j < length l → get_or (without j l) i d ≡ get_or l i d
unfolding without
at_before [] i j d p q = absurd (omega arith)
at_before (x ∷ l) i zero d p q = absurd (omega arith)
at_before (x ∷ l) zero (suc j) d p q = refl
at_before (x ∷ l) (suc i) (suc j) d p q = at_before l i j d (omega arith) (omega arith)

pub put_two : {A : Type 0} (l : List A) (i j : ℕ) (d : A) → i < j → j < length l → inserted j (get_or l j d) (inserted i (get_or l i d) (without i (without j l))) ≡ l
put_two l i j d p q = rw (← at_before l i j d p q, put_in (without j l) i d (omega (arith, length_without l j q))) (put_in l j d q)

-- what was set is set back
pub set-two : {A : Type 0} (l : List A) (i j : ℕ) (x y d : A) → i < j → set (set (set (set l i x) j y) i (get_or l i d)) j (get_or l j d) ≡ l
set-two l i j x y d p =
    let n : i ≢ j = λ q. omega arith in
    let m : j ≢ i = λ q. omega arith in
    rw (set_comm l i j x y n, set-set (set l j y) i x (get_or l i d), set_comm l j i y (get_or l i d) m, set-get_or l i d, set-set l j y (get_or l j d), set-get_or l j d)

pub ahead-is : (k : Bool) → eqb (cond {A = ℕ} k 1 0) 1 ≡ k
ahead-is true = refl
ahead-is false = refl

module _ (p : Pair) (s : Sound p) (e : Entry) (g : 0 < sides p.tris e.a e.b) where
  abbrev h : Hinge
  h = hinge p.tris e.a e.b

  k : Hinged p.tris e.a e.b (hinge p.tris e.a e.b)
  k = hinge-found s.closed e.a e.b g

  six : FourDiffer h.u h.v h.c h.d
  six = hinge-differ s.closed e.a e.b g

  differ : e.a ≡ e.b → ⊥
  differ q = pick k.ends
    where
      pick : ((h.u ≡ e.a) × (h.v ≡ e.b)) ⊎ ((h.u ≡ e.b) × (h.v ≡ e.a)) → ⊥
      pick (inl f) = six.uv (f.0 ∙ q ∙ sym f.1)
      pick (inr f) = six.uv (f.0 ∙ sym q ∙ sym f.1)

  is-u : cond (eqb h.u e.a) e.a e.b ≡ h.u
  is-u = pick k.ends
    where
      pick : ((h.u ≡ e.a) × (h.v ≡ e.b)) ⊎ ((h.u ≡ e.b) × (h.v ≡ e.a)) → cond (eqb h.u e.a) e.a e.b ≡ h.u
      pick (inl f) = rw (eq-eqb h.u e.a f.0) (sym f.0)
      pick (inr f) = rw (ne_eqb h.u e.a (λ q. differ (sym q ∙ f.0))) (sym f.0)

  is-v : cond (eqb h.u e.a) e.b e.a ≡ h.v
  is-v = pick k.ends
    where
      pick : ((h.u ≡ e.a) × (h.v ≡ e.b)) ⊎ ((h.u ≡ e.b) × (h.v ≡ e.a)) → cond (eqb h.u e.a) e.b e.a ≡ h.v
      pick (inl f) = rw (eq-eqb h.u e.a f.0) (sym f.1)
      pick (inr f) = rw (ne_eqb h.u e.a (λ q. differ (sym q ∙ f.0))) (sym f.1)

  one : turned (start_of (place p.tris h.p1) h.u h.v) h.u h.v h.c ≡ place p.tris h.p1
  one = turned-back six.uv six.vc six.cu k.ahead

  two : turned (start_of (place p.tris h.p2) h.v h.u) h.v h.u h.d ≡ place p.tris h.p2
  two = turned-back (λ q. six.uv (sym q)) six.ud six.dv k.back

  flip-back : unflipped h.p1 h.p2 (place p.tris h.p1) (place p.tris h.p2) (flipped p e.a e.b) ≡ p
  unfolding flip
  flip-back = λ i. record {
    tris = set-two p.tris h.p1 h.p2 (tri h.c h.d h.v) (tri h.d h.c h.u) (tri 0 0 0) k.order i;
    labels = p.labels;
  }

  pub flip-undone : e.kind ≡ 1 → undone (words p e) (flipped p e.a e.b) ≡ p
  flip-undone q = rw (eq-eqb e.kind 1 q, ahead-is (eqb h.u e.a), is-u, is-v, one, two) flip-back

  -- the collapse: the triangles that stay
  abbrev ts : List Tri
  ts = p.tris

  abbrev rest : List Tri
  rest = without h.p1 (without h.p2 p.tris)

  whole : Surface ts
  whole = closed_surface_lem s.closed

  split : Surface (before h.u h.v h.c h.d rest)
  split = surface_alike (as_before whole e.a e.b g) whole

  up : (x y z : ℕ) → Has x y z rest → Has x y z ts
  up x y z m = (as_before whole e.a e.b g).back x y z (there (there m))

  rest-uv : (z : ℕ) → Has h.u h.v z rest → ⊥
  rest-uv z m = omega (arith, before-sides h.u h.v h.c h.d rest h.u h.v, hit_yes h.u h.v h.u h.v refl refl, has-side m, split.once h.u h.v)

  rest_vu : (z : ℕ) → Has h.v h.u z rest → ⊥
  rest_vu z m = omega (arith, before-sides h.u h.v h.c h.d rest h.v h.u, hit_yes h.v h.u h.v h.u refl refl, has-side m, split.once h.v h.u)

  first-there : Has h.u h.v h.c ts
  first-there = place-has ts h.p1 (omega (arith, k.order, k.fits)) k.ahead

  second-there : Has h.v h.u h.d ts
  second-there = place-has ts h.p2 k.fits k.back

  ring_there : {us : List Tri} {c d : ℕ} → CollapseRing ts us e.a e.b c d → Has e.a e.b c ts
  ring_there {us} {c} {d} r = around-has e.a (step e.b c) ts (mem_perm (Permᴰ.symm r.was_a) (Memᴰ.tail (Memᴰ.head refl)))

  module _ (t : Closed (collapse e.a e.b p.tris)) where
    abbrev us : List Tri
    us = map (renamed e.a e.b) rest

    restored-rest : map (restored e.a e.b (walk (length (around us e.a)) (cond (eqb h.u e.a) h.d h.c) (cond (eqb h.u e.a) h.c h.d) (around us e.a))) us ≡ rest
    unfolding collapse
    restored-rest = pick k.ends (collapse_ring s.closed e.a e.b g)
      where
        pick : ((h.u ≡ e.a) × (h.v ≡ e.b)) ⊎ ((h.u ≡ e.b) × (h.v ≡ e.a))
            → (CollapseRing ts us e.a e.b h.c h.d) ⊎ (CollapseRing ts us e.a e.b h.d h.c)
            → map (restored e.a e.b (walk (length (around us e.a)) (cond (eqb h.u e.a) h.d h.c) (cond (eqb h.u e.a) h.c h.d) (around us e.a))) us ≡ rest
        pick (inl f) (inl r) = rw (eq-eqb h.u e.a f.0)
            (restored-all whole e.a e.b h.c h.d rest (closed_surface_lem t) r up (λ z m. rest-uv z (has-eq (sym f.0) (sym f.1) refl m)) (λ z m. rest_vu z (has-eq (sym f.1) (sym f.0) refl m)) differ six.cd)
        pick (inl f) (inr r) = absurd (six.cd (next_of whole (has-eq f.0 f.1 refl first-there) (ring_there r)))
        pick (inr f) (inl r) = absurd (six.cd (next_of whole (ring_there r) (has-eq f.1 f.0 refl second-there)))
        pick (inr f) (inr r) = rw (ne_eqb h.u e.a (λ q. differ (sym q ∙ f.0)))
            (restored-all whole e.a e.b h.d h.c rest (closed_surface_lem t) r up (λ z m. rest_vu z (has-eq (sym f.1) (sym f.0) refl m)) (λ z m. rest-uv z (has-eq (sym f.0) (sym f.1) refl m)) differ (λ q. six.cd (sym q)))

    -- b is gone
    gone : sides us e.a e.b ≡ 0
    unfolding collapse
    gone = pick (sides us e.a e.b) refl
      where
        pick : (n : ℕ) → sides us e.a e.b ≡ n → sides us e.a e.b ≡ 0
        pick zero q = q
        pick (suc n) q = let m = side-has us e.a e.b (omega arith) in absurd (((collapse-corners s.closed e.a e.b g e.b).0 (in_use (spin m.1))).1 refl)

    pub collapse-route : Route (collapse e.a e.b p.tris) e.a e.b (cond (eqb h.u e.a) h.d h.c) (cond (eqb h.u e.a) h.c h.d)
    unfolding collapse
    collapse-route = pick k.ends (collapse_ring s.closed e.a e.b g)
      where
        pick : ((h.u ≡ e.a) × (h.v ≡ e.b)) ⊎ ((h.u ≡ e.b) × (h.v ≡ e.a))
            → (CollapseRing ts us e.a e.b h.c h.d) ⊎ (CollapseRing ts us e.a e.b h.d h.c)
            → Route us e.a e.b (cond (eqb h.u e.a) h.d h.c) (cond (eqb h.u e.a) h.c h.d)
        pick (inl f) (inl r) = rw (eq-eqb h.u e.a f.0)
            (route whole e.a e.b h.c h.d rest (closed_surface_lem t) r up (λ z m. rest-uv z (has-eq (sym f.0) (sym f.1) refl m)) (λ z m. rest_vu z (has-eq (sym f.1) (sym f.0) refl m)) differ six.cd t gone)
        pick (inl f) (inr r) = absurd (six.cd (next_of whole (has-eq f.0 f.1 refl first-there) (ring_there r)))
        pick (inr f) (inl r) = absurd (six.cd (next_of whole (ring_there r) (has-eq f.1 f.0 refl second-there)))
        pick (inr f) (inr r) = rw (ne_eqb h.u e.a (λ q. differ (sym q ∙ f.0)))
            (route whole e.a e.b h.d h.c rest (closed_surface_lem t) r up (λ z m. rest_vu z (has-eq (sym f.1) (sym f.0) refl m)) (λ z m. rest-uv z (has-eq (sym f.0) (sym f.1) refl m)) differ (λ q. six.cd (sym q)) t gone)

    collapse-back : uncollapsed e.a e.b (cond (eqb h.u e.a) h.d h.c) (cond (eqb h.u e.a) h.c h.d) h.p1 h.p2
        (place p.tris h.p1) (place p.tris h.p2) (label p h.p1) (label p h.p2) (collapsed p e.a e.b) ≡ p
    unfolding collapse uncollapsed
    collapse-back = λ i. record {
      tris = (ap (λ (l : List Tri). inserted h.p2 (place p.tris h.p2) (inserted h.p1 (place p.tris h.p1) l)) restored-rest ∙ put_two p.tris h.p1 h.p2 (tri 0 0 0) k.order k.fits) i;
      labels = put_two p.labels h.p1 h.p2 0 k.order (omega (arith, s.labelled, k.fits)) i;
    }

    pub collapse-undone : e.kind ≡ 2 → undone (words p e) (collapsed p e.a e.b) ≡ p
    collapse-undone q = rw (ne_eqb e.kind 1 (λ (f : e.kind ≡ 1). omega arith), ahead-is (eqb h.u e.a), is-u, is-v, one, two) collapse-back

-- D4
pub undo : (p : Pair) (e : Entry) → Sound p → Edit p e → undone (words p e) (made p e) ≡ p
undo p e s (flips k g l c q) = ap (λ (m : Pair). undone (words p e) m) q ∙ flip-undone p s e g k
undo p e s (collapses k g l c q) = ap (λ (m : Pair). undone (words p e) m) q ∙ collapse-undone p s e g c k
