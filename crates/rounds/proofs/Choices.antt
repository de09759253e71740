-- The computed tests say what is allowed, and the passes as functions are passes.
use Prim.Native.Nat.{ℕ, suc, ◌<◌}
use mathlib.Core.Path.{◌≡◌, refl, sym, ◌∙◌, ap, subst}
use mathlib.Core.Logic.{◌⊎◌, inl, inr}
use mathlib.Core.Bool.{Bool, true, false, not, ◌&&◌, ◌||◌, cond, true≢false, false≢true}
use mathlib.Core.List.{List, [], ◌∷◌, ◌++◌, append_assoc, Memᴰ}
use native.Mathlib.Omega.{arith}
use lib.Dec.{eqb}
use lib.ListN.{length}
use borrow.Author.Tests.{eqb-true, eqb-false, ltb-true}
use Rattle.surface.specs.Triangle.{Tri, names, corners}
use Rattle.surface.specs.Closed.{sides, Closed}
use Rattle.surface.specs.Edit.{has, first, place, hinge}
use Rattle.surface.proofs.Bools.{both, join, not_true, or_none, true_false}
use Rattle.surface.proofs.Reading.{turn, Has, here, there, spin, side-has}
use Rattle.surface.proofs.Surface.{Surface}
use Rattle.surface.proofs.Bridge.{reads_name, closed_surface_lem}
use Rattle.surface.proofs.Edits.{Filled, one_way, other_way, Linked}
use Rattle.surface.proofs.Laws.{side-exists}
use Rattle.surface.specs.Check.{every}
use Rattle.history.specs.History.{Pair, Entry, exists}
use Rattle.rounds.specs.Pass.{near, State, Allowed, Applied, collapse_entry, Reached, collapsed}
use Rattle.rounds.specs.Flips.{FlipState, FlipAllowed, FlipApplied, flip_entry, FlipReached, flipped}
use Rattle.rounds.specs.Choices.{common, filled, may_collapse, collapse_step, Decision, collapse_pass, collapses_of, may_flip, flip_step, Side, flip_pass, flips_of}
use Rattle.rounds.proofs.Near.{near_next}
use Rattle.rounds.proofs.FirstUse.{has-corner}

pub all_mem : {A : Type 0} (f : A → Bool) (l : List A) (x : A) → every f l ≡ true → Memᴰ x l → f x ≡ true
unfolding every
all_mem f (y ∷ l) x e (Memᴰ.head p) = ap f p ∙ (both (f y) (every f l) e).0
all_mem f (y ∷ l) x e (Memᴰ.tail m) = all_mem f l x (both (f y) (every f l) e).1 m
all_mem {A = A} f [] x e x4 = elim x4 [ ]

first-has : (a b : ℕ) (ts : List Tri) → first a b ts < length ts → has a b (place ts (first a b ts)) ≡ true
unfolding first
first-has a b [] l = absurd (omega arith)
first-has a b (t ∷ ts) l = pick (has a b t) refl (first-has a b ts)
  where
    pick : (k : Bool) → has a b t ≡ k → (first a b ts < length ts → has a b (place ts (first a b ts)) ≡ true) → has a b (place (t ∷ ts) (cond (has a b t) 0 (suc (first a b ts)))) ≡ true
    pick true e r = rw e e
    pick false e r = rw e (r (inner (rw e at l)))
      where
        inner : suc (first a b ts) < suc (length ts) → first a b ts < length ts
        inner q = omega arith

-- the side exists
pub exists-side : (p : Pair) → Closed p.tris → (a b : ℕ) → exists p a b ≡ true → 0 < sides p.tris a b
exists-side p c a b e =
    let l = ltb-true (first a b p.tris) (length p.tris) e in
    side-exists c a b (first a b p.tris) l (first-has a b p.tris l)

has-filled : {x y z : ℕ} {ts : List Tri} → Has x y z ts → filled ts x y z ≡ true
unfolding filled
has-filled {x} {y} {z} (here {t = t} {ts = ts} r) = rw (reads_name r, reads_name (turn r), reads_name (turn (turn r))) refl
has-filled {x} {y} {z} (there {t = t} {ts = ts} h) = or_right (names t x && (names t y && names t z)) (filled ts x y z) (has-filled h)
  where
    or_right : (p q : Bool) → q ≡ true → (p || q) ≡ true
    or_right true q e = refl
    or_right false q e = e

pub filled_swap : (ts : List Tri) (x y z : ℕ) → filled ts x y z ≡ filled ts x z y
unfolding filled
filled_swap [] x y z = refl
filled_swap (t ∷ ts) x y z = rw (filled_swap ts x y z, swap (names t y) (names t z)) refl
  where
    swap : (p q : Bool) → (p && q) ≡ (q && p)
    swap true true = refl
    swap true false = refl
    swap false true = refl
    swap false false = refl

pub filled_is : {ts : List Tri} {x y z : ℕ} → Filled ts x y z → filled ts x y z ≡ true
filled_is (one_way h) = has-filled h
filled_is {ts} {x} {y} {z} (other_way h) = filled_swap ts x y z ∙ has-filled h

four : (p q r s : Bool) → (p || (q || (r || s))) ≡ true → p ≡ false → q ≡ false → (r ≡ true) ⊎ (s ≡ true)
four true q r s e f g = absurd (true≢false f)
four false true r s e f g = absurd (true≢false g)
four false false true s e f g = inl refl
four false false false s e f g = inr e

implies : (p q : Bool) → (not p || q) ≡ true → p ≡ true → q ≡ true
implies true q e f = e
implies false q e f = absurd (false≢true f)

no_eqb : (x y : ℕ) → (x ≡ y → ⊥) → eqb x y ≡ false
no_eqb x y n = pick (eqb x y) refl
  where
    pick : (k : Bool) → eqb x y ≡ k → eqb x y ≡ false
    pick true e = absurd (n (eqb-true x y e))
    pick false e = e

-- the tests on the neighbours and the tetrahedron
pub linked_test : {ts : List Tri} → Surface ts → (a b c d : ℕ) → common ts a b c d ≡ true → not (filled ts a c d && filled ts b c d) ≡ true → Linked ts a b c d
unfolding common
linked_test {ts} s a b c d e f = record {
  common = λ x p q. near-both x (side-has ts a x p) (side-has ts b x q);
  solid = λ i j. true_false (join _ _ (filled_is i) (filled_is j)) (not_true _ f);
}
  where
    near-both : (x : ℕ) → ((z : ℕ) × Has a x z ts) → ((z : ℕ) × Has b x z ts) → (x ≡ c) ⊎ (x ≡ d)
    near-both x h k = last (four (eqb x a) (eqb x b) (eqb x c) (eqb x d)
        (implies (near ts a x && near ts b x) _ (all_mem _ (corners ts) x e (has-corner (spin h.1))) (join _ _ (near_next h.1) (near_next k.1)))
        (no_eqb x a (λ q. s.differ a x h.0 h.1 (sym q))) (no_eqb x b (λ q. s.differ b x k.0 k.1 (sym q))))
      where
        last : (eqb x c ≡ true) ⊎ (eqb x d ≡ true) → (x ≡ c) ⊎ (x ≡ d)
        last (inl q) = inl (eqb-true x c q)
        last (inr q) = inr (eqb-true x d q)

module _ (p : Pair) (cl : Closed p.tris) where
  pub may_collapse_lem : (s : State) (a b : ℕ) → may_collapse p s a b ≡ true → Allowed p s a b
  unfolding may_collapse
  may_collapse_lem s a b e =
      let e1 = both _ _ e in
      let e2 = both _ _ e1.1 in
      let e3 = both _ _ e2.1 in
      let e4 = both _ _ e3.1 in
      let e5 = both _ _ e4.1 in
      record {
        free_a = not_true _ e1.0;
        free_b = not_true _ e2.0;
        side = exists-side p cl a b e3.0;
        linked = linked_test (closed_surface_lem cl) a b (hinge p.tris a b).c (hinge p.tris a b).d e4.0 e5.0;
        labels = e5.1;
      }

  pub collapse-step : (s : State) (a b : ℕ) → Applied p s (collapse_step p s a b) a b
  unfolding collapse_step
  collapse-step s a b = record {
    tris = refl;
    gone = refl;
    touched = λ x e. let m = or_none (s.touched x) (near p.tris a x || near p.tris b x) e in let n = or_none (near p.tris a x) (near p.tris b x) m.1 in (m.0, n.1);
  }

  pub pass-reached : (choose : State → Decision → Bool) (ds : List Decision) (s : State) (es : List Entry) → Reached p s es
      → Reached p (collapse_pass p choose s ds) (es ++ collapses_of p choose s ds)
  unfolding collapse_pass collapses_of
  pass-reached choose [] s es r = subst (Reached p s) (append-none es) r
    where
      append-none : (l : List Entry) → l ≡ l ++ []
      append-none [] = refl
      append-none (x ∷ l) = ap (λ (k : List Entry). x ∷ k) (append-none l)
  pass-reached choose (d ∷ ds) s es r = pick (may_collapse p s d.keep d.remove && choose s d) refl (pass-reached choose ds)
    where
      pick : (k : Bool) → (may_collapse p s d.keep d.remove && choose s d) ≡ k
          → ((s : State) (es : List Entry) → Reached p s es → Reached p (collapse_pass p choose s ds) (es ++ collapses_of p choose s ds))
          → Reached p (collapse_pass p choose (cond (may_collapse p s d.keep d.remove && choose s d) (collapse_step p s d.keep d.remove) s) ds)
          (es ++ cond (may_collapse p s d.keep d.remove && choose s d) (collapse_entry d.keep d.remove ∷ collapses_of p choose (collapse_step p s d.keep d.remove) ds) (collapses_of p choose s ds))
      pick true e f =
          let t = collapse_step p s d.keep d.remove in
          let a = may_collapse_lem s d.keep d.remove (both _ _ e).0 in
          let k = f t (es ++ (collapse_entry d.keep d.remove ∷ [])) (collapsed d.keep d.remove r a (collapse-step s d.keep d.remove)) in
          rw e (rw append_assoc at k)
      pick false e f = rw e (f s es r)

  pub may_flip_lem : (s : FlipState) (a b : ℕ) → may_flip p s a b ≡ true → FlipAllowed p s a b
  unfolding may_flip
  may_flip_lem s a b e =
      let e1 = both _ _ e in
      let e2 = both _ _ e1.1 in
      let e3 = both _ _ e2.1 in
      let e4 = both _ _ e3.1 in
      let e5 = both _ _ e4.1 in
      let e6 = both _ _ e5.1 in
      record {
        free_a = not_true _ e3.0;
        free_b = not_true _ e4.0;
        free_c = not_true _ e5.0;
        free_d = not_true _ e6.0;
        side = exists-side p cl a b e1.0;
        labels = eqb-true _ _ e2.0;
        fresh = eqb-true _ _ e6.1;
      }

  pub flip-step : (s : FlipState) (a b : ℕ) → FlipApplied p s (flip_step p s a b) a b
  unfolding flip_step
  flip-step s a b = record {
    tris = refl;
    still = λ x e. (five x e).0;
    off-a = λ x e. eqb-false _ _ (five x e).1;
    off-b = λ x e. eqb-false _ _ (five x e).2;
    off-c = λ x e. eqb-false _ _ (five x e).3;
    off-d = λ x e. eqb-false _ _ (five x e).4;
  }
    where
      five : (x : ℕ) → (s.touched x || (eqb a x || (eqb b x || (eqb (hinge p.tris a b).c x || eqb (hinge p.tris a b).d x)))) ≡ false
          → (s.touched x ≡ false) × (eqb a x ≡ false) × (eqb b x ≡ false) × (eqb (hinge p.tris a b).c x ≡ false) × (eqb (hinge p.tris a b).d x ≡ false)
      five x e =
          let m1 = or_none _ _ e in
          let m2 = or_none _ _ m1.1 in
          let m3 = or_none _ _ m2.1 in
          let m4 = or_none _ _ m3.1 in
          (m1.0, m2.0, m3.0, m4.0, m4.1)

  pub flips-reached : (choose : FlipState → Side → Bool) (ds : List Side) (s : FlipState) (es : List Entry) → FlipReached p s es
      → FlipReached p (flip_pass p choose s ds) (es ++ flips_of p choose s ds)
  unfolding flip_pass flips_of
  flips-reached choose [] s es r = subst (FlipReached p s) (append-none es) r
    where
      append-none : (l : List Entry) → l ≡ l ++ []
      append-none [] = refl
      append-none (x ∷ l) = ap (λ (k : List Entry). x ∷ k) (append-none l)
  flips-reached choose (d ∷ ds) s es r = pick (may_flip p s d.one d.two && choose s d) refl (flips-reached choose ds)
    where
      pick : (k : Bool) → (may_flip p s d.one d.two && choose s d) ≡ k
          → ((s : FlipState) (es : List Entry) → FlipReached p s es → FlipReached p (flip_pass p choose s ds) (es ++ flips_of p choose s ds))
          → FlipReached p (flip_pass p choose (cond (may_flip p s d.one d.two && choose s d) (flip_step p s d.one d.two) s) ds)
          (es ++ cond (may_flip p s d.one d.two && choose s d) (flip_entry d.one d.two ∷ flips_of p choose (flip_step p s d.one d.two) ds) (flips_of p choose s ds))
      pick true e f =
          let t = flip_step p s d.one d.two in
          let a = may_flip_lem s d.one d.two (both _ _ e).0 in
          let k = f t (es ++ (flip_entry d.one d.two ∷ [])) (flipped d.one d.two r a (flip-step s d.one d.two)) in
          rw e (rw append_assoc at k)
      pick false e f = rw e (f s es r)
