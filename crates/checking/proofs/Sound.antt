-- What a measured surface has: each triangle's corners are on the list, its quality is not degenerate, its corner numbers differ, and the smallest quality is at most its own. Assumes nothing.
use Prim.Native.Nat.{ℕ, zero, suc, ◌+◌, ◌*◌, ◌/◌, ◌%◌, ◌<◌}
use native.Mathlib.Nat.{le_of_suc-le-suc}
use native.Mathlib.Omega.{arith}
use mathlib.Core.Path.{◌≡◌, refl, sym, ap, ◌∙◌, subst}
use mathlib.Core.Logic.{◌⊎◌, inl, inr}
use mathlib.Core.Bool.{Bool, true, false}
use mathlib.Core.List.{List, [], ◌∷◌, foldl}
use lib.Dec.{T}
use lib.ListN.{length, get_or}
use lib.Ieee.{Float, le}
use lib.Ieee.Positive.{positive, le_trans_positive}
use Rattle.float.specs.Order.{lesser}
use Rattle.surface.specs.Triangle.{Tri, tri, triangles}
use Rattle.surface.specs.Closed.{Differ}
use Rattle.surface.proofs.Flat.{length-triangles, place-triangles}
use Rattle.questions.specs.Refusal.{refusal_number}
use Rattle.questions.specs.declared.Refusal.{Refusal}
use Rattle.quality.specs.Quality.{number, degenerate}
use Rattle.quality.proofs.Distinct.{apart}
use Rattle.quality.proofs.Lesser.{kept_positive, one_positive, Lesser, itself, lesser_positive}
use Rattle.checking.specs.Verdict.{Verdict, accepted, number_of, quality_of}
use Rattle.checking.specs.Validate.{placed, outside, quality_at, next, measured}
use Rattle.checking.proofs.Turns.{Within, within, taken, by_tests, refused}
use Rattle.questions.specs.declared.Refusal.TheVariants.{CornerMissing, Degenerate}
use Rattle.std.specs.Prelude.{Err}

-- ---- one triangle

record Fine (ps : List Float) (m v : Float) (t : Tri) : Type 0 where
  inside : outside (length ps / 3) t ≡ false
  kept : degenerate (quality_at ps t) ≡ false
  goes : next ps (accepted m v) t ≡ taken ps m v t

record Ends (ps : List Float) (m v : Float) (t : Tri) : Type 0 where
  why : Refusal
  late : 4 < refusal_number why
  goes : next ps (accepted m v) t ≡ Err why

cases : (ps : List Float) (m v : Float) (t : Tri) → Fine ps m v t ⊎ Ends ps m v t
cases ps m v t = go (outside (length ps / 3) t) refl (degenerate (quality_at ps t)) refl
  where
    go : (o : Bool) → outside (length ps / 3) t ≡ o → (d : Bool) → degenerate (quality_at ps t) ≡ d → Fine ps m v t ⊎ Ends ps m v t
    go true e d g = inr (record { why = CornerMissing; late = omega arith; goes = by_tests ps m v t e g })
    go false e true g = inr (record { why = Degenerate; late = omega arith; goes = by_tests ps m v t e g })
    go false e false g = inl (record { inside = e; kept = g; goes = by_tests ps m v t e g })

-- the corners of a triangle whose quality is kept differ, since their points do
pub differ : (ps : List Float) (t : Tri) → degenerate (quality_at ps t) ≡ false → Differ t
differ ps t e =
    let p = apart (placed ps t.a) (placed ps t.b) (placed ps t.c) e in
    record { ab = λ q. p.ab (ap (placed ps) q); bc = λ q. p.bc (ap (placed ps) q); ca = λ q. p.ca (ap (placed ps) q) }

-- ---- every triangle

pub record Taken (ps : List Float) (least : Float) (t : Tri) : Type 0 where
  pub inside : Within (length ps / 3) t
  pub kept : degenerate (quality_at ps t) ≡ false
  pub corners : Differ t
  pub bounds : T (le least (quality_at ps t))

-- a refusal is no acceptance
pub never : {why : Refusal} {q v : Float} → Err why ≡ accepted q v → ⊥
never e = cc

first_or : (ps : List Float) (least : Float) (t : Tri) (ts : List Tri) → Taken ps least t → ((i : ℕ) → i < length ts → Taken ps least (get_or ts i (tri 0 0 0))) → (i : ℕ) → i < length (t ∷ ts) → Taken ps least (get_or (t ∷ ts) i (tri 0 0 0))
first_or ps least t ts h k zero l = h
first_or ps least t ts h k (suc i) l = k i (le_of_suc-le-suc l)

all-taken : (ps : List Float) (m v : Float) (ts : List Tri) (m' v' : Float) → T (positive m) → foldl (next ps) (accepted m v) ts ≡ accepted m' v'
    → T (positive m') × T (le m' m) × ((i : ℕ) → i < length ts → Taken ps m' (get_or ts i (tri 0 0 0)))
all-taken ps m v [] m' v' M e =
    let p : m ≡ m' = ap quality_of e in
    (subst (λ (x : Float). T (positive x)) p M, subst (λ (x : Float). T (le x m)) p (itself m M), λ i h. absurd (omega arith))
all-taken ps m v (t ∷ ts) m' v' M e = elim (cases ps m v t) [
  | inl g ↦
      let q = quality_at ps t in
      let Q : T (positive q) = kept_positive q g.kept in
      let l : Lesser (lesser m q) m q = lesser_positive m q M Q in
      let r = all-taken ps (lesser m q) _ ts m' v' l.above (sym (ap (λ (s : Verdict). foldl (next ps) s ts) g.goes) ∙ e) in (
        r.0,
        le_trans_positive m' (lesser m q) m r.0 l.above M r.1 l.first,
        first_or ps m' t ts
            (record {
              inside = within (length ps / 3) t g.inside;
              kept = g.kept;
              corners = differ ps t g.kept;
              bounds = le_trans_positive m' (lesser m q) q r.0 l.above Q r.1 l.second;
            })
            r.2,
      )
  | inr g ↦ absurd (never (sym (ap (λ (s : Verdict). foldl (next ps) s ts) g.goes ∙ refused ps g.why ts) ∙ e))
]

-- a refusal by a triangle is 5 or 6
pub late : (ps : List Float) (ts : List Tri) (m v : Float) (why : Refusal) → foldl (next ps) (accepted m v) ts ≡ Err why → 4 < refusal_number why
late ps [] m v why e = absurd (never (sym e))
late ps (t ∷ ts) m v why e = elim (cases ps m v t) [
  | inl g ↦ late ps ts _ _ why (sym (ap (λ (s : Verdict). foldl (next ps) s ts) g.goes) ∙ e)
  | inr g ↦
      let q : Err g.why ≡ Err why = sym (ap (λ (s : Verdict). foldl (next ps) s ts) g.goes ∙ refused ps g.why ts) ∙ e in
      let same : refusal_number g.why ≡ refusal_number why = ap number_of q in
      omega (arith, g.late)
]

pub measured_late : (ps : List Float) (cs : List ℕ) (why : Refusal) → measured ps cs ≡ Err why → 4 < refusal_number why
unfolding measured
measured_late ps cs why e = late ps (triangles cs) (number 1) (number 0) why e

-- ---- the whole list

pub record AllTaken (ps : List Float) (ts : List Tri) (least : Float) : Type 0 where
  pub above : T (positive least)
  pub at_most_one : T (le least (number 1))
  pub every : (i : ℕ) → i < length ts → Taken ps least (get_or ts i (tri 0 0 0))

pub measures : (ps : List Float) (cs : List ℕ) (least volume : Float) → measured ps cs ≡ accepted least volume → AllTaken ps (triangles cs) least
unfolding measured
measures ps cs least volume e =
    let r = all-taken ps (number 1) (number 0) (triangles cs) least volume one_positive e in
    record { above = r.0; at_most_one = r.1; every = r.2 }

-- so every corner is on the list
pub corners-below : (ps : List Float) (cs : List ℕ) (least : Float) → length cs % 3 ≡ 0 → AllTaken ps (triangles cs) least → (k : ℕ) → k < length cs → get_or cs k 0 < length ps / 3
corners-below ps cs least h m k l = go (k / 3) refl (k % 3) refl
  where
    inside : (i : ℕ) → 3 * i + 2 < length cs → Within (length ps / 3) (tri (get_or cs (3 * i) 0) (get_or cs (3 * i + 1) 0) (get_or cs (3 * i + 2) 0))
    inside i q = subst (Within (length ps / 3)) (place-triangles cs i q) (m.every i (omega (arith, length-triangles (length cs / 3) cs (omega arith)))).inside

    go : (i : ℕ) → k / 3 ≡ i → (r : ℕ) → k % 3 ≡ r → get_or cs k 0 < length ps / 3
    go i d zero e = let z : 3 * i ≡ k = omega arith in subst (λ (j : ℕ). get_or cs j 0 < length ps / 3) z (inside i (omega arith)).a
    go i d (suc zero) e = let z : 3 * i + 1 ≡ k = omega arith in subst (λ (j : ℕ). get_or cs j 0 < length ps / 3) z (inside i (omega arith)).b
    go i d (suc (suc r)) e = let z : 3 * i + 2 ≡ k = omega arith in subst (λ (j : ℕ). get_or cs j 0 < length ps / 3) z (inside i (omega arith)).c
