-- `collapse_slivers` up to its `retain`s: on every closed list its loop over the candidates is the collapse pass of crate oracle without the skip, within the domain and outside.
use Prim.Native.Nat.{ℕ, zero, suc, ◌<◌}
use mathlib.Core.Path.{◌≡◌, refl, sym, ◌∙◌, ap, subst}
use mathlib.Core.Bool.{Bool, true, false, not, ◌&&◌, ◌||◌, cond}
use mathlib.Core.List.{List, [], ◌∷◌}
use native.Mathlib.Omega.{arith}
use lib.Dec.{eqb, ltb}
use lib.Ieee as Ieee
use lib.ListN.{length}
use borrow.Author.Tests.{ltb-true}
use Rattle.surface.specs.Closed.{sides, Closed}
use Rattle.surface.specs.Check.{every}
use Rattle.surface.specs.Edit.{hinge}
use Rattle.surface.proofs.Bools.{both, not_true, or_none, true_false}
use Rattle.surface.proofs.Reading.{side-has}
use Rattle.history.specs.History.{Pair, covered, exists}
use Rattle.rounds.specs.Pass.{near, State}
use Rattle.rounds.specs.Choices.{Side, Decision, common, collapse_step, collapse_start}
use Rattle.rounds.proofs.Near.{near_self}
use Rattle.rounds.proofs.Fits.{fits-begun, fits-step}
use Rattle.rounds.proofs.Choices.{exists-side}
use Rattle.rounds.proofs.Exact.{side-exists_test}
use Rattle.oracle.specs.Scene.{Scene}
use Rattle.oracle.specs.Slivers.{valid, worst, fit, deciding, better, accepts, pass}
use Rattle.original.specs.Sets.{same_set, intersection}
use Rattle.original.specs.Maps.{shared, adjacent}
use Rattle.original.specs.Collapse as text
use Rattle.original.specs.Collapse.{opposite, Best, nothing, attempt, applied}
use Rattle.original.proofs.Sets.{or_swap}
use Rattle.original.proofs.Masks.{Few}
use Rattle.original.proofs.Spots.{side-shared, none-shared}
use Rattle.original.proofs.Opposite.{common-back}
use Rattle.original.proofs.Collapse.{nested, all_tests, Holds, sets_are, applied-is}

-- sides written as keys are, the lesser end first
abbrev pub Upward : List Side → Type 0
Upward ds = every (λ (d : Side). ltb d.one d.two) ds ≡ true

module _ (s : Scene) (p : Pair) (c : Closed p.tris) (l : length p.labels ≡ length p.tris) (few : Few p.labels) where
  -- what is tested of a side before its two ways are tried
  abbrev Gate : State → ℕ → ℕ → Bool
  Gate st a b = not (st.touched a || st.touched b) && (exists p a b && common p.tris a b (hinge p.tris a b).c (hinge p.tris a b).d)

  accepts-is : (st : State) (a b : ℕ) → accepts false s p st (deciding a b) ≡ (Gate st a b && fit s p a b)
  unfolding accepts fit
  accepts-is st a b = all_tests (st.touched a) (st.touched b) (exists p a b) (common p.tris a b (hinge p.tris a b).c (hinge p.tris a b).d) (covered p a b) (valid s p.tris p.labels a b)

  exists-back : (a b : ℕ) → exists p a b ≡ true → exists p b a ≡ true
  exists-back a b e = let g = exists-side p c a b e in side-exists_test p c b a (omega (arith, c.paired.back a b g))

  gate-back : (st : State) (a b : ℕ) → Gate st b a ≡ Gate st a b
  gate-back st a b = pick (exists p a b) refl (exists p b a) refl
    where
      pick : (x : Bool) → exists p a b ≡ x → (y : Bool) → exists p b a ≡ y → Gate st b a ≡ Gate st a b
      pick true e true f = rw (e, f, or_swap (st.touched b) (st.touched a), common-back c a b (exists-side p c a b e) (exists-side p c b a f)) refl
      pick true e false f = absurd (true_false (exists-back a b e) f)
      pick false e true f = absurd (true_false (exists-back b a f) e)
      pick false e false f = rw (e, f, or_swap (st.touched b) (st.touched a)) refl

  abbrev after : State → Decision → State
  after st m = cond (accepts false s p st m) (collapse_step p st m.keep m.remove) st

  after-closed : (st : State) (a b : ℕ) → Gate st a b ≡ false → (k : Bool) → after st (cond k (deciding a b) (deciding b a)) ≡ st
  after-closed st a b e true = rw (accepts-is st a b ∙ ap (λ (q : Bool). q && fit s p a b) e) refl
  after-closed st a b e false = rw (accepts-is st b a ∙ ap (λ (q : Bool). q && fit s p b a) (gate-back st a b ∙ e)) refl

  after_open : (st : State) (a b : ℕ) → Gate st a b ≡ true → (k : Bool)
      → after st (cond k (deciding a b) (deciding b a)) ≡ cond k (cond (fit s p a b) (collapse_step p st a b) st) (cond (fit s p b a) (collapse_step p st b a) st)
  after_open st a b e true = rw (accepts-is st a b ∙ ap (λ (q : Bool). q && fit s p a b) e) refl
  after_open st a b e false = rw (accepts-is st b a ∙ ap (λ (q : Bool). q && fit s p b a) (gate-back st a b ∙ e)) refl

  -- `better` takes the first way
  abbrev ahead : ℕ → ℕ → Bool
  ahead a b = fit s p a b && not (fit s p b a && Ieee.lt (worst s p a b) (worst s p b a))

  better-is : (d : Side) → better s p d ≡ cond (ahead d.one d.two) (deciding d.one d.two) (deciding d.two d.one)
  unfolding better
  better-is d = refl

  -- the Rust's tests come to `Gate`
  shared-two : (a b : ℕ) → a < b → eqb (length (shared p.tris a b)) 2 ≡ exists p a b
  shared-two a b low = pick (sides p.tris a b) refl
    where
      pick : (n : ℕ) → sides p.tris a b ≡ n → eqb (length (shared p.tris a b)) 2 ≡ exists p a b
      pick zero e = ap (λ (is : List ℕ). eqb (length is) 2) (none-shared a b low c e) ∙ sym (off (exists p a b) refl)
        where
          off : (k : Bool) → exists p a b ≡ k → exists p a b ≡ false
          off true f = absurd (omega (arith, exists-side p c a b f))
          off false f = f
      pick (suc n) e =
          let g : 0 < sides p.tris a b = omega arith in
          ap (λ (is : List ℕ). eqb (length is) 2) (side-shared a b low c g) ∙ sym (side-exists_test p c a b g)

  module _ (st : State) (fits : Holds s p c l few st) (a b : ℕ) (low : a < b) where
    abbrev same : Bool
    same = same_set (intersection (adjacent p.tris a) (adjacent p.tris b)) (opposite st.tris (shared p.tris a b) a b)

    abbrev made : State
    made = applied p st a b (attempt s p st.tris (shared p.tris a b) (attempt s p st.tris (shared p.tris a b) nothing a b) b a)

    apply_if : (k : Bool) (x : Best) → applied p st a b (cond k x nothing) ≡ cond k (applied p st a b x) st
    unfolding applied
    apply_if true x = refl
    apply_if false x = refl

    step_nested : text.step s p st (record { one = a; two = b }) ≡ cond (not (st.touched a || st.touched b) && (eqb (length (shared p.tris a b)) 2 && same)) made st
    unfolding text.step text.found
    step_nested =
        let x = attempt s p st.tris (shared p.tris a b) (attempt s p st.tris (shared p.tris a b) nothing a b) b a in
        ap (applied p st a b) (nested (st.touched a || st.touched b) (eqb (length (shared p.tris a b)) 2) same x nothing)
        ∙ apply_if (not (st.touched a || st.touched b) && (eqb (length (shared p.tris a b)) 2 && same)) x

    stepped : (x : Bool) → st.touched a ≡ x → (y : Bool) → st.touched b ≡ y → (e : Bool) → exists p a b ≡ e → (q : Bool) → common p.tris a b (hinge p.tris a b).c (hinge p.tris a b).d ≡ q
        → cond (not (st.touched a || st.touched b) && (eqb (length (shared p.tris a b)) 2 && same)) made st ≡ after st (cond (ahead a b) (deciding a b) (deciding b a))
    stepped true f y g e h q k = rw f (sym (after-closed st a b (rw f refl) (ahead a b)))
    stepped false f true g e h q k = rw (f, g) (sym (after-closed st a b (rw (f, g) refl) (ahead a b)))
    stepped false f false g false h q k = rw (f, g, shared-two a b low, h) (sym (after-closed st a b (rw (f, g, h) refl) (ahead a b)))
    stepped false f false g true h false k =
        let z = sets_are s p c l few a b low (exists-side p c a b h) st fits f g in
        rw (f, g, shared-two a b low, h, z, k) (sym (after-closed st a b (rw (f, g, h, k) refl) (ahead a b)))
    stepped false f false g true h true k =
        let z = sets_are s p c l few a b low (exists-side p c a b h) st fits f g in
        rw (f, g, shared-two a b low, h, z, k) (applied-is s p c l few a b low (exists-side p c a b h) st fits f g ∙ sym (after_open st a b (rw (f, g, h, k) refl) (ahead a b)))

    pub step_is : text.step s p st (record { one = a; two = b }) ≡ after st (better s p (record { one = a; two = b }))
    step_is = step_nested ∙ stepped (st.touched a) refl (st.touched b) refl (exists p a b) refl (common p.tris a b (hinge p.tris a b).c (hinge p.tris a b).d) refl
        ∙ ap (after st) (sym (better-is (record { one = a; two = b })))

  -- a collapse alters nothing that stays untouched
  holds-next : (st : State) → Holds s p c l few st → (a b : ℕ) → accepts false s p st (deciding a b) ≡ true → Holds s p c l few (collapse_step p st a b)
  unfolding collapse_step
  holds-next st fits a b e =
      let w = both _ _ (both _ _ (sym (accepts-is st a b) ∙ e)).0 in
      let u = or_none (st.touched a) (st.touched b) (not_true (st.touched a || st.touched b) w.0) in
      let g = exists-side p c a b (both _ _ w.1).0 in
      let h = side-has p.tris a b g in
      fits-step a b u.0 u.1
      (λ x f q. let m = or_none (st.touched x) (near p.tris a x || near p.tris b x) f in let n = or_none (near p.tris a x) (near p.tris b x) m.1 in true_false (ap (near p.tris a) (sym q) ∙ near_self h.1) n.0)
      fits
      (λ x f. let m = or_none (st.touched x) (near p.tris a x || near p.tris b x) f in let n = or_none (near p.tris a x) (near p.tris b x) m.1 in (m.0, n.1))

  holds_after : (st : State) → Holds s p c l few st → (m : Decision) → Holds s p c l few (after st m)
  holds_after st fits m = pick (accepts false s p st m) refl
    where
      pick : (k : Bool) → accepts false s p st m ≡ k → Holds s p c l few (after st m)
      pick true e = rw e (holds-next st fits m.keep m.remove e)
      pick false e = rw e fits

  pub pass-is : (ds : List Side) → Upward ds → (st : State) → Holds s p c l few st → text.pass s p st ds ≡ pass false s p st ds
  unfolding text.pass pass every
  pass-is [] u st fits = refl
  pass-is (d ∷ ds) u st fits =
      let w = both (ltb d.one d.two) _ u in
      ap (λ (t : State). text.pass s p t ds) (step_is st fits d.one d.two (ltb-true d.one d.two w.0))
      ∙ pass-is ds w.1 (after st (better s p d)) (holds_after st fits (better s p d))

  -- and at every state on the way what is untouched is as it was
  pub pass-holds : (ds : List Side) → Upward ds → (st : State) → Holds s p c l few st → Holds s p c l few (text.pass s p st ds)
  unfolding text.pass every
  pass-holds [] u st fits = fits
  pass-holds (d ∷ ds) u st fits =
      let w = both (ltb d.one d.two) _ u in
      pass-holds ds w.1 (text.step s p st d)
      (subst (λ (t : State). Holds s p c l few t) (sym (step_is st fits d.one d.two (ltb-true d.one d.two w.0))) (holds_after st fits (better s p d)))

  -- from the first candidate to the last
  pub collapse-pass : (ds : List Side) → Upward ds → text.pass s p (collapse_start p) ds ≡ pass false s p (collapse_start p) ds
  collapse-pass ds u = pass-is ds u (collapse_start p) (fits-begun (λ x. false) p.tris)
