-- One turn of each loop, and the cases of one triangle. Assumes nothing.
use Prim.Native.Nat.{ℕ, zero, suc, ◌/◌, ◌≤◌, ◌<◌}
use native.Mathlib.Omega.{arith}
use mathlib.Core.Path.{◌≡◌, refl, sym, ap, ap₂, ◌∙◌}
use mathlib.Core.Bool.{Bool, true, false, ◌||◌, cond}
use mathlib.Core.List.{List, [], ◌∷◌, ◌++◌, foldl}
use lib.Dec.{leb}
use lib.ListN.{length, get_or, drop}
use lib.Seq.{drop-cons}
use lib.Ieee.{Float, binary64, of_bits}
use Rattle.std.specs.Bool.{MatchBool}
use Rattle.std.specs.List.{AllWithin, HoldsAt}
use borrow.Author.Tests.{leb-false}
use Rattle.float.specs.Order.{lesser}
use Rattle.float.specs.Point.{plus, difference}
use Rattle.float.specs.declared.Point.{Point}
use Rattle.surface.specs.Triangle.{Tri, triangles}
use Rattle.surface.proofs.Bools.{or_none}
use Rattle.questions.specs.declared.Refusal.{Refusal}
use Rattle.quality.specs.Quality.{scale, degenerate, least_with}
use Rattle.quality.proofs.Numbers.{zero_is, one-is}
use Rattle.checking.specs.Validate.{point_at, placed, outside, quality_at, wedge_at, next, measured}
use Rattle.checking.specs.Stages.{tri_of}
use Rattle.questions.specs.declared.Refusal.TheVariants.{CornerMissing, Degenerate}
use Rattle.checking.specs.declared.Measures.{Measures}
use Rattle.checking.specs.Verdict.{Verdict, accepted}
use Rattle.std.specs.Prelude.{Option, None, Some, Ok, Err}

-- ---- `beyond`

-- some corner is not below n, or all of them are
pub some-out : (n : ℕ) (t : List ℕ) (k : ℕ) → k < 3 → leb n (get_or t k 0) ≡ true → true ≡ outside n (tri_of t)
some-out n t zero h e = rw e
some-out n t (suc zero) h e = go (leb n (get_or t 0 0))
  where
    go : (b : Bool) → true ≡ (b || (leb n (get_or t 1 0) || leb n (get_or t 2 0)))
    go true = refl
    go false = rw e
some-out n t (suc (suc zero)) h e = go (leb n (get_or t 0 0)) (leb n (get_or t 1 0))
  where
    go : (b c : Bool) → true ≡ (b || (c || leb n (get_or t 2 0)))
    go true c = refl
    go false true = refl
    go false false = sym e
some-out n t (suc (suc (suc k))) h e = absurd (omega arith)

pub all-in : (n : ℕ) (t : List ℕ) → ((k : ℕ) → k < 3 → leb n (get_or t k 0) ≡ false) → false ≡ outside n (tri_of t)
all-in n t h = rw (h 0 (omega arith), h 1 (omega arith), h 2 (omega arith))

pub by-any : (n : ℕ) (t : List ℕ) (r : Bool) → length t ≡ 3 → MatchBool r ((k : ℕ) × (k < length t) × HoldsAt (λ v. leb n v ≡ true) t k) (AllWithin (λ v. leb n v ≡ false) t 0 (length t)) → r ≡ outside n (tri_of t)
by-any n t true l (k, low, out) = some-out n t k (omega arith) (out 0)
by-any n t false l h = all-in n t (λ k low. h k 0 (omega arith) (omega arith))

pub record Within (n : ℕ) (t : Tri) : Type 0 where
  pub a : t.a < n
  pub b : t.b < n
  pub c : t.c < n

pub within : (n : ℕ) (t : Tri) → outside n t ≡ false → Within n t
within n t e =
    let p = or_none (leb n t.a) _ e in
    let q = or_none (leb n t.b) (leb n t.c) p.1 in
    record { a = leb-false n t.a p.0; b = leb-false n t.b q.0; c = leb-false n t.c q.1 }

-- ---- `step`

module _ (ps : List Float) (m v : Float) (t : Tri) where
  -- the verdict after a triangle that is taken
  abbrev pub taken : Verdict
  taken = accepted (lesser m (quality_at ps t)) (plus v (wedge_at ps t))

  pub by_tests : {o d : Bool} → outside (length ps / 3) t ≡ o → degenerate (quality_at ps t) ≡ d → next ps (accepted m v) t ≡ cond o (Err CornerMissing) (cond d (Err Degenerate) taken)
  unfolding next
  by_tests p q = λ i. cond (p i) (Err CornerMissing) (cond (q i) (Err Degenerate) taken)

  pub step_out : outside (length ps / 3) t ≡ true → Err CornerMissing ≡ next ps (accepted m v) t
  step_out e = sym (by_tests e refl)

  module _ (inside : outside (length ps / 3) t ≡ false) {r : Option Float} (e : r ≡ least_with m (quality_at ps t)) where
    by-least : {d : Bool} → degenerate (quality_at ps t) ≡ d → r ≡ cond d None (Some (lesser m (quality_at ps t)))
    unfolding least_with
    by-least q = e ∙ ap (λ (b : Bool). cond b None (Some (lesser m (quality_at ps t)))) q

    pub step_kept : (q w : Float) → r ≡ Some q → w ≡ wedge_at ps t → accepted q (plus v w) ≡ next ps (accepted m v) t
    step_kept q w k s = go (degenerate (quality_at ps t)) refl
      where
        go : (d : Bool) → degenerate (quality_at ps t) ≡ d → accepted q (plus v w) ≡ next ps (accepted m v) t
        go true h = let u : Some q ≡ None = sym k ∙ by-least h in cc
        go false h =
            let u : Some q ≡ Some (lesser m (quality_at ps t)) = sym k ∙ by-least h in
            let same : q ≡ lesser m (quality_at ps t) = cc in
            ap₂ (λ (x y : Float). accepted x (plus v y)) same s ∙ sym (by_tests inside h)

    pub step_flat : r ≡ None → Err Degenerate ≡ next ps (accepted m v) t
    step_flat k = go (degenerate (quality_at ps t)) refl
      where
        go : (d : Bool) → degenerate (quality_at ps t) ≡ d → Err Degenerate ≡ next ps (accepted m v) t
        go true h = sym (by_tests inside h)
        go false h = let u : None ≡ Some (lesser m (quality_at ps t)) = sym k ∙ by-least h in cc

-- three points at the corners of a triangle that is on the list
pub at_corners : (ps : List Float) (t : Tri) {A : Type 0} (f : Point → Point → Point → A) {a b c o : Point} {i j k : ℕ}
    → (0 < length ps / 3 → o ≡ point_at ps 0) → outside (length ps / 3) t ≡ false
    → a ≡ difference (point_at ps i) o → i ≡ t.a → b ≡ difference (point_at ps j) o → j ≡ t.b → c ≡ difference (point_at ps k) o → k ≡ t.c
    → f a b c ≡ f (placed ps t.a) (placed ps t.b) (placed ps t.c)
at_corners ps t f origin inside a i b j c k =
    let h = (within (length ps / 3) t inside).a in
    let o = origin (omega arith) in
    let p = a ∙ ap₂ difference (ap (point_at ps) i) o in
    let q = b ∙ ap₂ difference (ap (point_at ps) j) o in
    let r = c ∙ ap₂ difference (ap (point_at ps) k) o in
    λ i. f (p i) (q i) (r i)

-- ---- `measure`

-- at the loop's head: the fold over the triangles that are left, from the measures so far, is the answer
pub record Measuring (ps : List Float) (cs : List ℕ) (factor : Float) (origin : Point) (so_far : Measures) (left : List ℕ) (size : ℕ) : Type 0 where
  pub scaled : factor ≡ scale
  pub from-origin : 0 < length ps / 3 → origin ≡ point_at ps 0
  pub threes : size ≡ 3
  pub answer : measured ps cs ≡ foldl (next ps) (Ok so_far) (triangles left)

pub start : (ps : List Float) (cs : List ℕ) → measured ps cs ≡ foldl (next ps) (accepted (of_bits binary64 0x3ff0_0000_0000_0000) (of_bits binary64 0)) (triangles cs)
unfolding measured
start ps cs = sym (ap₂ (λ (m v : Float). foldl (next ps) (accepted m v) (triangles cs)) one-is zero_is)

-- a list from a place on: the element there, and what follows it
pub one_more : {A : Type 0} (l : List A) (d : A) (j k : ℕ) → j < length l → suc j ≡ k → drop j l ≡ get_or l j d ∷ drop k l
one_more l d j k h e = drop-cons l j d h ∙ ap (λ (n : ℕ). get_or l j d ∷ drop n l) e

-- a turn takes the next three corner numbers, l, to the numbers s
pub turn : (ps : List Float) (m : Measures) (l cs cs' : List ℕ) {s : Verdict} → cs ≡ l ++ cs' → length l ≡ 3 → s ≡ next ps (Ok m) (tri_of l) → foldl (next ps) (Ok m) (triangles cs) ≡ foldl (next ps) s (triangles cs')
unfolding triangles
turn ps m [] cs cs' e h f = absurd (omega arith)
turn ps m (x ∷ []) cs cs' e h f = absurd (omega arith)
turn ps m (x ∷ y ∷ []) cs cs' e h f = absurd (omega arith)
turn ps m (x ∷ y ∷ z ∷ []) cs cs' e h f = ap (λ (l : List ℕ). foldl (next ps) (Ok m) (triangles l)) e ∙ ap (λ (v : Verdict). foldl (next ps) v (triangles cs')) (sym f)
turn ps m (x ∷ y ∷ z ∷ w ∷ l) cs cs' e h f = absurd (omega arith)

triangles_end : (cs : List ℕ) → length cs ≤ 2 → triangles cs ≡ []
unfolding triangles
triangles_end [] h = refl
triangles_end (x ∷ []) h = refl
triangles_end (x ∷ y ∷ []) h = refl
triangles_end (x ∷ y ∷ z ∷ l) h = absurd (omega arith)

pub fold_end : (ps : List Float) (cs : List ℕ) (s : Verdict) → length cs < 3 → foldl (next ps) s (triangles cs) ≡ s
fold_end ps cs s h = ap (foldl (next ps) s) (triangles_end cs (omega arith))

pub refused : (ps : List Float) (why : Refusal) (ts : List Tri) → foldl (next ps) (Err why) ts ≡ Err why
unfolding next
refused ps why [] = refl
refused ps why (t ∷ ts) = refused ps why ts
