-- A candidate of `collapse_slivers` whose ends are untouched: what is read of the present faces is what stood there at first, so that the tests and what is applied are those of crate oracle.
use Prim.Native.Nat.{ℕ, suc, ◌<◌}
use mathlib.Core.Path.{◌≡◌, refl, sym, ◌∙◌, ap, ap₂}
use mathlib.Core.Logic.{◌⊎◌, inl, inr}
use mathlib.Core.Bool.{Bool, true, false, not, ◌&&◌, ◌||◌, cond}
use mathlib.Core.List.{List, [], ◌∷◌}
use native.Mathlib.Nat.{zero-add}
use native.Mathlib.Omega.{arith}
use lib.Dec.{eqb}
use lib.Ieee as Ieee
use lib.Ieee.{Float, inf}
use lib.ListN.{length}
use borrow.Author.Tests.{eqb-true, eq-eqb}
use Rattle.surface.specs.Triangle.{Tri, names, runs}
use Rattle.surface.specs.Closed.{sides, Closed}
use Rattle.surface.specs.Edit.{has, place, Hinge, hinge}
use Rattle.surface.proofs.Bools.{join, or_second}
use Rattle.surface.proofs.Reading.{turn}
use Rattle.surface.proofs.Bridge.{reads_name}
use Rattle.surface.proofs.Hinged.{Hinged}
use Rattle.surface.proofs.Laws.{hinge-found}
use Rattle.history.specs.History.{Pair, covered}
use Rattle.rounds.specs.Pass.{State}
use Rattle.rounds.specs.Choices.{common, collapse_step}
use Rattle.rounds.proofs.Fits.{Fits, fits-place}
use Rattle.rounds.proofs.TwoTriangles.{side-places}
use Rattle.rounds.proofs.Collapses.{fits-length}
use Rattle.oracle.specs.Scene.{Scene}
use Rattle.oracle.specs.Slivers.{valid, worst, fit}
use Rattle.original.specs.Sets.{member, same_set, intersection}
use Rattle.original.specs.Maps.{shared, adjacent}
use Rattle.original.specs.Collapse.{corners_at, opposite, Tried, reached, Best, nothing, best, consider, attempt, applied}
use Rattle.original.proofs.Sets.{same_test, or_swap, or_right}
use Rattle.original.proofs.Masks.{Few, masks_covered}
use Rattle.original.proofs.Spots.{side-shared}
use Rattle.original.proofs.Opposite.{sets_common}
use Rattle.original.proofs.Tries.{Each, each, has_both, outcome, Looks, tried-is}
use Rattle.original.proofs.Applied.{applied-ahead, applied_back}

fits-marks : {u : ℕ → Bool} {ts fs : List Tri} {gs : List Bool} → Fits u ts fs gs → length gs ≡ length ts
fits-marks Fits.end = refl
fits-marks (Fits.lost n h) = ap suc (fits-marks h)
fits-marks (Fits.same q h) = ap suc (fits-marks h)
fits-marks (Fits.other n h) = ap suc (fits-marks h)

-- tests that end in `continue`, and the same tests under `&&`
pub nested : {A : Type 0} (t e k : Bool) (x y : A) → cond t y (cond (not e) y (cond (not k) y x)) ≡ cond (not t && (e && k)) x y
nested true e k x y = refl
nested false false k x y = refl
nested false true false x y = refl
nested false true true x y = refl

pub all_tests : (t u e k v w : Bool) → ((not t && (not u && (e && (k && v)))) && w) ≡ ((not (t || u) && (e && k)) && (v && w))
all_tests true u e k v w = refl
all_tests false true e k v w = refl
all_tests false false false k v w = refl
all_tests false false true false v w = refl
all_tests false false true true v w = refl

consider-is : (old : Best) (k r : ℕ) (v w : Bool) (q : Float) → cond (not v) old (consider old k r (outcome w q)) ≡ cond (v && w) (consider old k r (reached q)) old
unfolding consider
consider-is old k r true true q = refl
consider-is old k r true false q = refl
consider-is old k r false w q = refl

module _ (s : Scene) (p : Pair) (c : Closed p.tris) (l : length p.labels ≡ length p.tris) (few : Few p.labels) where
  -- at every state: a face that is not as it was has touched corners
  abbrev pub Holds : State → Type 0
  Holds st = Fits st.touched p.tris st.tris st.gone

  -- a side of the list with neither end touched
  module _ (a b : ℕ) (low : a < b) (g : 0 < sides p.tris a b) (st : State) (fits : Holds st) (ea : st.touched a ≡ false) (eb : st.touched b ≡ false) where
    abbrev h : Hinge
    h = hinge p.tris a b

    k : Hinged p.tris a b (hinge p.tris a b)
    k = hinge-found c a b g

    back : 0 < sides p.tris b a
    back = omega (arith, c.paired.back a b g)

    named : (t : Tri) (x y : ℕ) → ((x ≡ a) × (y ≡ b)) ⊎ ((x ≡ b) × (y ≡ a)) → names t x ≡ true → names t y ≡ true → (names t a ≡ true) × (names t b ≡ true)
    named t x y (inl e) m n = (ap (names t) (sym e.0) ∙ m, ap (names t) (sym e.1) ∙ n)
    named t x y (inr e) m n = (ap (names t) (sym e.1) ∙ n, ap (names t) (sym e.0) ∙ m)

    turned : ((h.u ≡ a) × (h.v ≡ b)) ⊎ ((h.u ≡ b) × (h.v ≡ a)) → ((h.v ≡ a) × (h.u ≡ b)) ⊎ ((h.v ≡ b) × (h.u ≡ a))
    turned (inl e) = inr (e.1, e.0)
    turned (inr e) = inl (e.1, e.0)

    names-first : (names (place p.tris h.p1) a ≡ true) × (names (place p.tris h.p1) b ≡ true)
    names-first = named (place p.tris h.p1) h.u h.v k.ends (reads_name k.ahead) (reads_name (turn k.ahead))

    names-second : (names (place p.tris h.p2) a ≡ true) × (names (place p.tris h.p2) b ≡ true)
    names-second = named (place p.tris h.p2) h.v h.u (turned k.ends) (reads_name k.back) (reads_name (turn k.back))

    -- `opposite`, of the faces as they were
    opposite_was : opposite st.tris (h.p1 ∷ h.p2 ∷ []) a b ≡ opposite p.tris (h.p1 ∷ h.p2 ∷ []) a b
    unfolding opposite corners_at
    opposite_was = rw ((fits-place fits h.p1 a (omega (arith, k.order, k.fits)) ea names-first.0).0, (fits-place fits h.p2 a k.fits ea names-second.0).0) refl

    pub sets_are : same_set (intersection (adjacent p.tris a) (adjacent p.tris b)) (opposite st.tris (shared p.tris a b) a b) ≡ common p.tris a b h.c h.d
    sets_are = ap (λ (is : List ℕ). same_set (intersection (adjacent p.tris a) (adjacent p.tris b)) (opposite st.tris is a b)) (side-shared a b low c g)
        ∙ ap (same_set (intersection (adjacent p.tris a) (adjacent p.tris b))) opposite_was ∙ sets_common c a b g

    -- shared.contains(&fi) is `has`
    apart : a ≡ b → ⊥
    apart e = omega arith

    shared-is : (j : ℕ) → j < length p.tris → member (shared p.tris a b) j ≡ has a b (place p.tris j)
    unfolding member
    shared-is j m = ap (λ (is : List ℕ). member is j) (side-shared a b low c g) ∙ same_test _ _ (λ e. to (eqb h.p1 j) refl e) (λ e. from (side-places c a b j m e))
      where
        to : (q : Bool) → eqb h.p1 j ≡ q → (eqb h.p1 j || (eqb h.p2 j || false)) ≡ true → has a b (place p.tris j) ≡ true
        to true e f = ap (λ (i : ℕ). has a b (place p.tris i)) (sym (eqb-true h.p1 j e)) ∙ has_both a b (place p.tris h.p1) apart ∙ join _ _ names-first.0 names-first.1
        to false e f =
            let z = or_second (eqb h.p1 j) (eqb h.p2 j || false) f e in
            let w : eqb h.p2 j ≡ true = sym (or_swap (eqb h.p2 j) false) ∙ z in
            ap (λ (i : ℕ). has a b (place p.tris i)) (sym (eqb-true h.p2 j w)) ∙ has_both a b (place p.tris h.p2) apart ∙ join _ _ names-second.0 names-second.1

        from : (j ≡ h.p1) ⊎ (j ≡ h.p2) → (eqb h.p1 j || (eqb h.p2 j || false)) ≡ true
        from (inl e) = rw (eq-eqb h.p1 j (sym e)) refl
        from (inr e) = rw (eq-eqb h.p2 j (sym e)) (or_right (eqb h.p1 j) true refl)

    -- `next`, of the faces as they were
    looks : (keep remove : ℕ) (n : keep ≡ remove → ⊥) → st.touched remove ≡ false → ((t : Tri) → has keep remove t ≡ has a b t)
        → Each (Looks s p st.tris (shared p.tris a b) keep remove n) 0 p.tris p.labels
    looks keep remove n e f = each (Looks s p st.tris (shared p.tris a b) keep remove n) 0 p.tris p.labels l (λ j m. rw (zero-add j) (record {
      differ = c.differ j m;
      was = refl;
      now = λ i. (fits-place fits j remove m e i).0;
      on = shared-is j m ∙ sym (f (place p.tris j));
      tag = refl;
    }))

    -- one way
    attempt-is : (keep remove : ℕ) (n : keep ≡ remove → ⊥) → st.touched remove ≡ false → ((t : Tri) → has keep remove t ≡ has a b t) → (old : Best)
        → attempt s p st.tris (shared p.tris a b) old keep remove ≡ cond (fit s p keep remove) (consider old keep remove (reached (worst s p keep remove))) old
    unfolding attempt fit
    attempt-is keep remove n e f old =
        ap₂ (λ (v : Bool) (t : Tried). cond (not v) old (consider old keep remove t)) (masks_covered p few keep remove) (tried-is s p st.tris (shared p.tris a b) keep remove n (looks keep remove n e f) (inf false))
        ∙ consider-is old keep remove (covered p keep remove) (valid s p.tris p.labels keep remove) (worst s p keep remove)

    has-back : (t : Tri) → has b a t ≡ has a b t
    has-back t = or_swap (runs t b a) (runs t a b)

    abbrev Chosen : Bool → Bool → Best
    Chosen x y = cond y (consider (cond x (best a b (worst s p a b)) nothing) b a (reached (worst s p b a))) (cond x (best a b (worst s p a b)) nothing)

    attempts_are : attempt s p st.tris (shared p.tris a b) (attempt s p st.tris (shared p.tris a b) nothing a b) b a ≡ Chosen (fit s p a b) (fit s p b a)
    unfolding consider
    attempts_are = attempt-is b a (λ e. apart (sym e)) ea has-back (attempt s p st.tris (shared p.tris a b) nothing a b)
        ∙ ap (λ (old : Best). cond (fit s p b a) (consider old b a (reached (worst s p b a))) old) (attempt-is a b apart eb (λ t. refl) nothing)

    -- both ways, and what crate oracle applies
    abbrev pub Done : Bool → Bool → Bool → State
    Done first x y = cond first (cond x (collapse_step p st a b) st) (cond y (collapse_step p st b a) st)

    settled : (x y : Bool) → applied p st a b (Chosen x y) ≡ Done (x && not (y && Ieee.lt (worst s p a b) (worst s p b a))) x y
    unfolding consider applied
    settled true true = pick (Ieee.lt (worst s p a b) (worst s p b a)) refl
      where
        pick : (q : Bool) → Ieee.lt (worst s p a b) (worst s p b a) ≡ q → applied p st a b (cond (Ieee.lt (worst s p a b) (worst s p b a)) (best b a (worst s p b a)) (best a b (worst s p a b)))
            ≡ cond (not (Ieee.lt (worst s p a b) (worst s p b a))) (collapse_step p st a b) (collapse_step p st b a)
        pick true e = rw e (applied_back p c a b low g st (fits-length fits) (fits-marks fits) (worst s p b a))
        pick false e = rw e (applied-ahead p c a b low g st (fits-length fits) (fits-marks fits) (worst s p a b))
    settled true false = applied-ahead p c a b low g st (fits-length fits) (fits-marks fits) (worst s p a b)
    settled false true = applied_back p c a b low g st (fits-length fits) (fits-marks fits) (worst s p b a)
    settled false false = refl

    pub applied-is : applied p st a b (attempt s p st.tris (shared p.tris a b) (attempt s p st.tris (shared p.tris a b) nothing a b) b a)
        ≡ Done (fit s p a b && not (fit s p b a && Ieee.lt (worst s p a b) (worst s p b a))) (fit s p a b) (fit s p b a)
    applied-is = ap (applied p st a b) attempts_are ∙ settled (fit s p a b) (fit s p b a)
