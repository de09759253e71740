-- The tests of rules (a) and (d) say what the rules say.
use Prim.Native.Nat.{ℕ, zero, suc, ◌<◌}
use mathlib.Core.Path.{◌≡◌, refl, sym, ap, ◌∙◌}
use mathlib.Core.Logic.{◌↔◌, ◌⊎◌, inl, inr}
use mathlib.Core.Bool.{Bool, true, false, ◌&&◌, ◌||◌, not}
use mathlib.Core.List.{List, [], ◌∷◌}
use native.Mathlib.Omega.{arith}
use lib.Dec.{eqb}
use lib.ListN.{length}
use borrow.Author.Tests.{eqb-true, eqb-false, eq-eqb, ne_eqb}
use Rattle.surface.specs.Triangle.{Tri, tri, names}
use Rattle.surface.specs.Closed.{Differ, SameCorners}
use Rattle.surface.specs.Check.{differ?, every}
use Rattle.surface.specs.Edit.{place}
use Rattle.surface.proofs.Bools.{both, join, not_true, true_false, or_cases}
use Rattle.questions.specs.Rules.{within?, distinct?}
use Rattle.surface.proofs.All.{all-at, at_all}

-- a test of each of three, and each of them
three : (p q r : Bool) → (p && (q && r)) ≡ true → (p ≡ true) × (q ≡ true) × (r ≡ true)
three p q r e = let k = both p (q && r) e in let l = both q r k.1 in (k.0, l.0, l.1)

-- ---- (a)

pub differ?_iff : (ts : List Tri) → (every differ? ts ≡ true) ↔ ((i : ℕ) → i < length ts → Differ (place ts i))
differ?_iff ts = (
  (λ e i l.
      let t = place ts i in
      let k = three (not (eqb t.a t.b)) (not (eqb t.b t.c)) (not (eqb t.c t.a)) (all-at differ? (tri 0 0 0) ts e i l) in
      record { ab = eqb-false t.a t.b (not_true _ k.0); bc = eqb-false t.b t.c (not_true _ k.1); ca = eqb-false t.c t.a (not_true _ k.2) }),
  λ h. at_all differ? (tri 0 0 0) ts (λ i l. let d = h i l in join _ _ (ap not (ne_eqb _ _ d.ab)) (join _ _ (ap not (ne_eqb _ _ d.bc)) (ap not (ne_eqb _ _ d.ca)))),
)

-- ---- (d)

-- each corner that s names is one that t names
names-within : (s t : Tri) → within? s t ≡ true → (v : ℕ) → names s v ≡ true → names t v ≡ true
names-within s t e v h = go (or_cases (eqb s.a v) (eqb s.b v) (eqb s.c v) h) (three (names t s.a) (names t s.b) (names t s.c) e)
  where
    go : ((eqb s.a v) ≡ true) ⊎ ((eqb s.b v ≡ true) ⊎ (eqb s.c v ≡ true)) → (names t s.a ≡ true) × (names t s.b ≡ true) × (names t s.c ≡ true) → names t v ≡ true
    go (inl p) k = ap (names t) (sym (eqb-true s.a v p)) ∙ k.0
    go (inr (inl p)) k = ap (names t) (sym (eqb-true s.b v p)) ∙ k.1
    go (inr (inr p)) k = ap (names t) (sym (eqb-true s.c v p)) ∙ k.2

same_test : (p q : Bool) → (p ≡ true → q ≡ true) → (q ≡ true → p ≡ true) → p ≡ q
same_test true q f g = sym (f refl)
same_test false true f g = g refl
same_test false false f g = refl

names-a : (t : Tri) → names t t.a ≡ true
names-a t = rw (eq-eqb t.a t.a refl)

names-b : (t : Tri) → names t t.b ≡ true
names-b t = go (eqb t.a t.b) (eq-eqb t.b t.b refl)
  where
    go : (p : Bool) → eqb t.b t.b ≡ true → (p || (eqb t.b t.b || eqb t.c t.b)) ≡ true
    go true e = refl
    go false e = rw e

names-c : (t : Tri) → names t t.c ≡ true
names-c t = go (eqb t.a t.c) (eqb t.b t.c) (eq-eqb t.c t.c refl)
  where
    go : (p q : Bool) → eqb t.c t.c ≡ true → (p || (q || eqb t.c t.c)) ≡ true
    go true q e = refl
    go false true e = refl
    go false false e = e

same-within : (s t : Tri) → SameCorners s t → within? s t ≡ true
same-within s t h = join _ _ (sym (h s.a) ∙ names-a s) (join _ _ (sym (h s.b) ∙ names-b s) (sym (h s.c) ∙ names-c s))

-- the test of two triangles
abbrev same? : Tri → Tri → Bool
same? t s = within? s t && within? t s

same?_yes : (t s : Tri) → same? t s ≡ true → SameCorners t s
same?_yes t s e v = let k = both (within? s t) (within? t s) e in same_test (names t v) (names s v) (names-within t s k.1 v) (names-within s t k.0 v)

yes_same? : (t s : Tri) → SameCorners t s → same? t s ≡ true
yes_same? t s h = join _ _ (same-within s t (λ v. sym (h v))) (same-within t s h)

abbrev Distinct : List Tri → Type 0
Distinct ts = (i j : ℕ) → i < j → j < length ts → SameCorners (place ts i) (place ts j) → ⊥

distinct_yes : (ts : List Tri) → distinct? ts ≡ true → Distinct ts
unfolding distinct?
distinct_yes [] e i j p l h = absurd (omega arith)
distinct_yes (t ∷ ts) e i zero p l h = absurd (omega arith)
distinct_yes (t ∷ ts) e zero (suc j) p l h =
    let k = both (every (λ (s : Tri). not (same? t s)) ts) (distinct? ts) e in
    true_false (yes_same? t (place ts j) h) (not_true _ (all-at (λ (s : Tri). not (same? t s)) (tri 0 0 0) ts k.0 j (omega arith)))
distinct_yes (t ∷ ts) e (suc i) (suc j) p l h =
    let k = both (every (λ (s : Tri). not (same? t s)) ts) (distinct? ts) e in
    distinct_yes ts k.1 i j (omega arith) (omega arith) h

yes_distinct : (ts : List Tri) → Distinct ts → distinct? ts ≡ true
unfolding distinct?
yes_distinct [] h = refl
yes_distinct (t ∷ ts) h =
    join _ _
    (at_all (λ (s : Tri). not (same? t s)) (tri 0 0 0) ts (λ j l. apart (place ts j) (h 0 (suc j) (omega arith) (omega arith))))
    (yes_distinct ts (λ i j p l. h (suc i) (suc j) (omega arith) (omega arith)))
  where
    apart : (s : Tri) → (SameCorners t s → ⊥) → not (same? t s) ≡ true
    apart s n = go (same? t s) refl
      where
        go : (b : Bool) → same? t s ≡ b → not b ≡ true
        go true e = absurd (n (same?_yes t s e))
        go false e = refl

pub distinct?_iff : (ts : List Tri) → (distinct? ts ≡ true) ↔ Distinct ts
distinct?_iff ts = (distinct_yes ts, yes_distinct ts)
