-- For the code's loops: what each loop's list is, one element further; and what a pass's state says of the untouched.
use Prim.Native.Nat.{ℕ, suc, ◌≤◌, ◌<◌}
use mathlib.Core.Path.{◌≡◌, refl, ap}
use mathlib.Core.Logic.{◌↔◌}
use mathlib.Core.Bool.{Bool, true, false, not, ◌||◌, cond}
use mathlib.Core.List.{List, [], ◌∷◌, ◌++◌, map}
use native.Mathlib.Omega.{arith}
use lib.Dec.{eqb}
use lib.ListN.{length, get_or, set}
use borrow.Author.Tests.{ne_eqb, lt-ltb, le-ltb}
use Rattle.surface.specs.Triangle.{Tri, names}
use Rattle.surface.specs.Closed.{sides, around, Closed}
use Rattle.surface.specs.Edit.{place, hinge, renamed}
use Rattle.surface.proofs.Bridge.{closed_surface_lem}
use Rattle.surface.proofs.Reading.{side-has}
use Rattle.surface.specs.Label.{carries}
use Rattle.history.specs.History.{Pair, Entry, covered}
use Rattle.rounds.specs.Pass.{retain, near, marked, moved, State, Reached, result}
use Rattle.rounds.specs.Flips.{FlipState, FlipReached}
use Rattle.rounds.specs.Renumber.{index, meet, met, walk}
use Rattle.rounds.proofs.Fits.{Fits, fits-around, fits-carries, fits-place, moved_all}
use Rattle.rounds.proofs.Stays.{stays-around, stays-place, stays-hinge}
use Rattle.rounds.proofs.Marks.{marked-places}
use Rattle.rounds.proofs.Local.{all_carried, all_of, implied, implies}
use Rattle.rounds.proofs.Near.{near-side, near_next}
use Rattle.rounds.proofs.FirstUse.{In, index-new}
use Rattle.rounds.proofs.Collapses.{Kept, kept, fits-length}
use Rattle.rounds.proofs.FlipPass.{FlipKept, flips-kept}

-- dropping, one place further
pub retain-more : {A : Type 0} (gs : List Bool) (xs : List A) (g : Bool) (x : A) → length gs ≡ length xs
    → retain (gs ++ (g ∷ [])) (xs ++ (x ∷ [])) ≡ retain gs xs ++ cond g [] (x ∷ [])
unfolding retain
retain-more [] [] true x e = refl
retain-more [] [] false x e = refl
retain-more [] (y ∷ xs) g x e = absurd (omega arith)
retain-more (h ∷ gs) [] g x e = absurd (omega arith)
retain-more (true ∷ gs) (y ∷ xs) g x e = retain-more gs xs g x (omega arith)
retain-more (false ∷ gs) (y ∷ xs) g x e = ap (λ (l : List _). y ∷ l) (retain-more gs xs g x (omega arith))

-- the walk of the renumbering, one corner further
pub met-more : (old xs : List ℕ) (x : ℕ) → met old (xs ++ (x ∷ [])) ≡ meet (met old xs) x
unfolding met
met-more old [] x = refl
met-more old (y ∷ xs) x = met-more (meet old y) xs x

pub walk_more : (old xs : List ℕ) (x : ℕ) → walk old (xs ++ (x ∷ [])) ≡ walk old xs ++ (index (meet (met old xs) x) x ∷ [])
unfolding walk met
walk_more old [] x = refl
walk_more old (y ∷ xs) x = ap (λ (l : List ℕ). index (meet old y) y ∷ l) (walk_more (meet old y) xs x)

-- a corner that was met keeps its number; one that was not gets the next, which is the count so far; every other stays unmet
pub meet-old : (old : List ℕ) (x : ℕ) → In old x → meet old x ≡ old
unfolding meet
meet-old old x p = rw (lt-ltb (index old x) (length old) p) refl

pub meet-new : (old : List ℕ) (x : ℕ) → (In old x → ⊥) → (meet old x ≡ old ++ (x ∷ [])) × (index (meet old x) x ≡ length old)
unfolding meet
meet-new old x n =
    let e : length old ≤ index old x = omega arith in
    let f = le-ltb (index old x) (length old) e in
    (rw f refl, rw f (index-new old x n))

pub not_met : (old : List ℕ) (x y : ℕ) → (x ≡ y → ⊥) → (In old y → ⊥) → In (old ++ (x ∷ [])) y → ⊥
unfolding index
not_met [] x y n m p = off (rw (ne_eqb x y n) at p)
  where
    off : 1 < 1 → ⊥
    off q = omega arith
not_met (z ∷ old) x y n m p = pick (eqb z y) refl (λ o q. not_met old x y n o q)
  where
    inner : suc (index (old ++ (x ∷ [])) y) < suc (length (old ++ (x ∷ []))) → In (old ++ (x ∷ [])) y
    inner q = omega arith

    pick : (k : Bool) → eqb z y ≡ k → ((In old y → ⊥) → In (old ++ (x ∷ [])) y → ⊥) → ⊥
    pick true e r = m (rw e (omega arith))
    pick false e r = r (λ q. m (rw e (omega arith))) (inner (rw e at p))

-- the labels of b are among those of a
pub covered_iff : (p : Pair) (a b : ℕ) → (covered p a b ≡ true) ↔ ((l : ℕ) → carries p.tris p.labels b l ≡ true → carries p.tris p.labels a l ≡ true)
covered_iff p a b = (
  (λ c l m. implies _ _ (all_carried (λ (l : ℕ). not (carries p.tris p.labels b l) || carries p.tris p.labels a l) p.tris p.labels b l c m) m),
  λ f. all_of _ p.labels (λ l. implied _ _ (f l)),
)

-- two corners that differ are near where a side joins them
pub near_iff : {ts : List Tri} → Closed ts → (a x : ℕ) → (a ≡ x → ⊥) → (near ts a x ≡ true) ↔ (0 < sides ts a x)
near_iff {ts} c a x n = (near-side (closed_surface_lem c) a x n, λ p. let h = side-has ts a x p in near_next h.1)

-- what a collapse pass's state says of the untouched
module _ (p : Pair) (c : Closed p.tris) (l : length p.labels ≡ length p.tris) {s : State} {es : List Entry} (r : Reached p s es) where
  k : Kept (length es) p s es
  k = kept p c l r (length es) (omega arith)

  -- the triangles around an untouched corner, in their order, are those of the list that the pass began with
  pub untouched-around : (x : ℕ) → s.touched x ≡ false → around (result p s).tris x ≡ around p.tris x
  untouched-around x e = fits-around k.fits x e

  pub untouched-carries : (x : ℕ) → s.touched x ≡ false → (m : ℕ) → carries (result p s).tris (result p s).labels x m ≡ carries p.tris p.labels x m
  untouched-carries x e m = fits-carries k.fits p.labels x e m

  -- place by place: a triangle that named an untouched corner is as it was, and not marked
  pub untouched-place : (i x : ℕ) → i < length p.tris → s.touched x ≡ false → names (place p.tris i) x ≡ true → (place s.tris i ≡ place p.tris i) × (get_or s.gone i true ≡ false)
  untouched-place i x m e n = fits-place k.fits i x m e n

  pub same_length : (length s.tris ≡ length p.tris) × (length s.gone ≡ length p.tris)
  same_length = (fits-length k.fits, marks k.fits)
    where
      marks : {u : ℕ → Bool} {ts fs : List Tri} {gs : List Bool} → Fits u ts fs gs → length gs ≡ length ts
      marks Fits.end = refl
      marks (Fits.lost n h) = ap suc (marks h)
      marks (Fits.same q h) = ap suc (marks h)
      marks (Fits.other n h) = ap suc (marks h)

  -- the step by places: the two triangles of the hinge are marked, and every b becomes an a
  pub step-places : (a b : ℕ) → marked a b p.tris s.gone ≡ set (set s.gone (hinge p.tris a b).p1 true) (hinge p.tris a b).p2 true
  step-places a b = marked-places a b c s.gone same_length.1

  pub step-renames : (a b : ℕ) → s.touched a ≡ false → s.touched b ≡ false → moved a b p.tris s.tris ≡ map (renamed a b) s.tris
  step-renames a b ea eb = moved_all a b ea eb k.fits

-- and of a flip pass's
module _ (p : Pair) (c : Closed p.tris) {s : FlipState} {es : List Entry} (r : FlipReached p s es) where
  j : FlipKept (length es) p s es
  j = flips-kept p c r (length es) (omega arith)

  pub unflipped-around : (x : ℕ) → s.touched x ≡ false → around s.tris x ≡ around p.tris x
  unflipped-around x e = stays-around j.stays x e

  pub unflipped-place : (i x : ℕ) → s.touched x ≡ false → names (place p.tris i) x ≡ true → place s.tris i ≡ place p.tris i
  unflipped-place i x e n = stays-place j.stays i x e n

  -- the hinge of a side with an untouched end, in the list as it is, is that of the list that the pass began with
  pub unflipped-hinge : (a b : ℕ) → s.touched a ≡ false → 0 < sides p.tris a b → hinge s.tris a b ≡ hinge p.tris a b
  unflipped-hinge a b e g = stays-hinge j.stays (closed_surface_lem c) a b g e
