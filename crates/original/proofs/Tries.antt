-- The loop over incident[remove] ends as `valid` and `least` of crate oracle say, where the faces with `remove` are still those of the beginning.
use Prim.Native.Nat.{ℕ, suc, ◌+◌, ◌<◌}
use mathlib.Core.Path.{◌≡◌, refl, sym, ◌∙◌, ap, subst}
use mathlib.Core.Logic.{◌⊎◌, inl, inr}
use mathlib.Core.Bool.{Bool, true, false, not, ◌&&◌, ◌||◌, cond, true≢false}
use mathlib.Core.List.{List, [], ◌∷◌}
use native.Mathlib.Omega.{arith}
use lib.Dec.{eqb}
use lib.ListN.{length, get_or}
use lib.Ieee as Ieee
use lib.Ieee.{Float}
use borrow.Author.Tests.{eqb-true}
use Rattle.float.specs.Order.{lesser}
use Rattle.surface.specs.Triangle.{Tri, names, runs}
use Rattle.surface.specs.Closed.{Differ}
use Rattle.surface.specs.Edit.{has, place, renamed}
use Rattle.surface.proofs.Bools.{both, join, or_cases}
use Rattle.history.specs.History.{Pair, label}
use Rattle.rounds.proofs.Tests.{has-names}
use Rattle.oracle.specs.Scene.{Scene, score}
use Rattle.oracle.specs.Slivers.{floor, valid, least}
use Rattle.original.specs.Sets.{push, member}
use Rattle.original.specs.Maps.{incident_from}
use Rattle.original.specs.Collapse.{Tried, broken, reached, tried}
use Rattle.original.proofs.Sets.{same_test, or_left, or_right}

-- a fact about every place, with its face and its label
pub data Each (F : ℕ → Tri → ℕ → Type 0) : ℕ → List Tri → List ℕ → Type 0 where
  finished : {i : ℕ} → Each F i [] []
  also : {i l : ℕ} {t : Tri} {ts : List Tri} {ls : List ℕ} → F i t l → Each F (suc i) ts ls → Each F i (t ∷ ts) (l ∷ ls)

pub each : (F : ℕ → Tri → ℕ → Type 0) (i : ℕ) (ts : List Tri) (ls : List ℕ) → length ls ≡ length ts → ((j : ℕ) → j < length ts → F (i + j) (place ts j) (get_or ls j 0)) → Each F i ts ls
each F i [] [] e h = finished
each F i [] (l ∷ ls) e h = absurd (omega arith)
each F i (t ∷ ts) [] e h = absurd (omega arith)
each F i (t ∷ ts) (l ∷ ls) e h =
    let z : i + 0 ≡ i = omega arith in
    also (subst (λ (n : ℕ). F n t l) z (h 0 (omega arith)))
    (each F (suc i) ts ls (omega arith) (λ j m. let w : i + suc j ≡ suc i + j = omega arith in subst (λ (n : ℕ). F n (place ts j) (get_or ls j 0)) w (h (suc j) (omega arith))))

-- the faces on the side are those with both ends
pub has_both : (a b : ℕ) (t : Tri) → (a ≡ b → ⊥) → has a b t ≡ (names t a && names t b)
has_both a b t n = same_test _ _ (λ e. let m = has-names a b t e in join (names t a) (names t b) m.0 m.1) (λ e. let m = both (names t a) (names t b) e in pick (or_cases _ _ _ m.0) (or_cases _ _ _ m.1))
  where
    run0 : (u v : ℕ) → eqb t.a u ≡ true → eqb t.b v ≡ true → runs t u v ≡ true
    run0 u v p q = rw (p, q) refl

    run1 : (u v : ℕ) → eqb t.b u ≡ true → eqb t.c v ≡ true → runs t u v ≡ true
    run1 u v p q = rw (p, q) (or_right (eqb t.a u && eqb t.b v) true refl)

    run2 : (u v : ℕ) → eqb t.c u ≡ true → eqb t.a v ≡ true → runs t u v ≡ true
    run2 u v p q = rw (p, q) (or_right (eqb t.a u && eqb t.b v) ((eqb t.b u && eqb t.c v) || true) (or_right (eqb t.b u && eqb t.c v) true refl))

    clash : (x : ℕ) → eqb x a ≡ true → eqb x b ≡ true → ⊥
    clash x p q = n (sym (eqb-true x a p) ∙ eqb-true x b q)

    pick : (eqb t.a a ≡ true) ⊎ ((eqb t.b a ≡ true) ⊎ (eqb t.c a ≡ true)) → (eqb t.a b ≡ true) ⊎ ((eqb t.b b ≡ true) ⊎ (eqb t.c b ≡ true)) → has a b t ≡ true
    pick (inl p) (inl q) = absurd (clash t.a p q)
    pick (inl p) (inr (inl q)) = or_left (runs t a b) (runs t b a) (run0 a b p q)
    pick (inl p) (inr (inr q)) = or_right (runs t a b) (runs t b a) (run2 b a q p)
    pick (inr (inl p)) (inl q) = or_right (runs t a b) (runs t b a) (run0 b a q p)
    pick (inr (inl p)) (inr (inl q)) = absurd (clash t.b p q)
    pick (inr (inl p)) (inr (inr q)) = or_left (runs t a b) (runs t b a) (run1 a b p q)
    pick (inr (inr p)) (inl q) = or_left (runs t a b) (runs t b a) (run2 a b p q)
    pick (inr (inr p)) (inr (inl q)) = or_right (runs t a b) (runs t b a) (run1 b a q p)
    pick (inr (inr p)) (inr (inr q)) = absurd (clash t.c p q)

-- (a): a face is pushed once at most for a corner
push-same : {A : Type 0} (x y z : Bool) (i : A) (l : List A) → (x && y) ≡ false → (x && z) ≡ false → (y && z) ≡ false → push x i (push y i (push z i l)) ≡ push (x || (y || z)) i l
push-same true true z i l e f g = absurd (true≢false e)
push-same true false true i l e f g = absurd (true≢false f)
push-same true false false i l e f g = refl
push-same false true true i l e f g = absurd (true≢false g)
push-same false true false i l e f g = refl
push-same false false true i l e f g = refl
push-same false false false i l e f g = refl

not_both : (x y v : ℕ) → (x ≡ y → ⊥) → (eqb x v && eqb y v) ≡ false
not_both x y v n = pick (eqb x v && eqb y v) refl
  where
    pick : (k : Bool) → (eqb x v && eqb y v) ≡ k → (eqb x v && eqb y v) ≡ false
    pick true e = let m = both (eqb x v) (eqb y v) e in absurd (n (eqb-true x v m.0 ∙ sym (eqb-true y v m.1)))
    pick false e = e

incident-more : (i : ℕ) (t : Tri) (ts : List Tri) (v : ℕ) → Differ t → incident_from i (t ∷ ts) v ≡ push (names t v) i (incident_from (suc i) ts v)
unfolding incident_from
incident-more i t ts v d =
    push-same (eqb t.a v) (eqb t.b v) (eqb t.c v) i (incident_from (suc i) ts v) (not_both t.a t.b v d.ab) (not_both t.a t.c v (λ e. d.ca (sym e))) (not_both t.b t.c v d.bc)

-- how the loop ends, by what was tested
abbrev pub outcome : Bool → Float → Tried
outcome true m = reached m
outcome false m = broken

module _ (s : Scene) (p : Pair) (fs : List Tri) (shared : List ℕ) (keep remove : ℕ) (apart : keep ≡ remove → ⊥) where
  -- a face with `remove` is still as it was
  pub record Looks (i : ℕ) (t : Tri) (l : ℕ) : Type 0 where
    pub differ : Differ t
    pub was : place p.tris i ≡ t
    pub now : names t remove ≡ true → place fs i ≡ t
    pub on : member shared i ≡ has keep remove t
    pub tag : label p i ≡ l

  pub tried-is : {i : ℕ} {ts : List Tri} {ls : List ℕ} → Each Looks i ts ls → (m : Float)
      → tried s p fs shared keep remove m (incident_from i ts remove) ≡ outcome (valid s ts ls keep remove) (least s keep remove m ts ls)
  unfolding tried incident_from valid least
  tried-is finished m = refl
  tried-is (also {i = i} {l = l} {t = t} {ts = ts} {ls = ls} f r) m =
      ap (tried s p fs shared keep remove m) (incident-more i t ts remove f.differ) ∙ pick (names t remove) refl (names t keep) refl (tried-is r)
    where
      rest : Float → Tried
      rest n = tried s p fs shared keep remove n (incident_from (suc i) ts remove)

      after : Float → Tried
      after n = outcome (valid s ts ls keep remove) (least s keep remove n ts ls)

      q : Float
      q = score s (renamed keep remove t) l

      low : Bool
      low = Ieee.lt q (floor (score s t l))

      -- a face that stays
      tests : (j : Bool) → low ≡ j → ((n : Float) → rest n ≡ after n) → cond j broken (rest (lesser m q)) ≡ outcome (not j && valid s ts ls keep remove) (least s keep remove (lesser m q) ts ls)
      tests true e ih = refl
      tests false e ih = ih (lesser m q)

      pick : (x : Bool) → names t remove ≡ x → (y : Bool) → names t keep ≡ y → ((n : Float) → rest n ≡ after n)
          → tried s p fs shared keep remove m (push (names t remove) i (incident_from (suc i) ts remove)) ≡ outcome (valid s (t ∷ ts) (l ∷ ls) keep remove) (least s keep remove m (t ∷ ts) (l ∷ ls))
      pick false e y g ih = rw e (ih m)
      pick true e true g ih = rw (e, f.on, has_both keep remove t apart, g, e) (ih m)
      pick true e false g ih = rw (e, f.on, has_both keep remove t apart, g, f.now e, f.was, f.tag) (tests low refl ih)
