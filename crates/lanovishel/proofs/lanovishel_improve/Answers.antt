-- `lanovishel::lanovishel_improve` meets its contract: it hands on what `improve` answers. Assumes nothing.
use Prim.Native.Nat.{ℕ, ◌%◌, ◌^◌, ◌≤◌}
use native.Mathlib.Omega.{arith}
use mathlib.Core.Path.{◌≡◌, refl, sym, ap, ◌∙◌, subst}
use mathlib.Core.List.{List, [], ◌∷◌}
use lib.Ieee.{Float}
use Rattle.std.specs.Prelude.{Ok, Err}
use Rattle.improving.specs.Improve.{Outcome, Improving, number_of, points_of, triangles_of, flips_of, place_of}
use Rattle.improving.proofs.Demand3.{left-few}
use Rattle.lanovishel.specs.Improve.{ImproveCall}
use Rattle.lanovishel.proofs.lanovishel_improve.Goals as goal

-- the counts fit a word
word : (n x : ℕ) → n ≤ 32768 → x ≡ n % 2 ^ 32 → x ≡ n
word n x l e = e ∙ omega arith

module _ {points₀ : List Float} {corners₀ labels₀ work₀ : List ℕ} {coefficients : List Float} {powers : List ℕ} {levels bounds : List Float} {rounds : ℕ} {points₁ : List Float} {corners₁ labels₁ work₁ : List ℕ} where
  few : (r : Outcome) → Improving points₀ corners₀ labels₀ work₀ coefficients powers levels bounds rounds points₁ corners₁ labels₁ work₁ r → (points_of r ≤ 32768) × (triangles_of r ≤ 32768)
  few (Ok left) d = left-few d
  few (Err why) d = (omega arith, omega arith)

  handed : {r : Outcome} → Improving points₀ corners₀ labels₀ work₀ coefficients powers levels bounds rounds points₁ corners₁ labels₁ work₁ r → (v : Outcome) → r ≡ v
      → (x y z : ℕ) → x ≡ points_of v % 2 ^ 32 → y ≡ triangles_of v % 2 ^ 32 → z ≡ flips_of v → {place : List ℕ} {number : ℕ} → place ≡ place_of v → number ≡ number_of v
      → ImproveCall points₀ corners₀ labels₀ work₀ coefficients powers levels bounds rounds points₁ corners₁ labels₁ work₁ (x ∷ y ∷ z ∷ []) place number
  handed {r} d v e x y z p q s a n =
      let l = subst (λ (o : Outcome). (points_of o ≤ 32768) × (triangles_of o ≤ 32768)) e (few r d) in
      record {
        outcome = r;
        run = d;
        is = n ∙ ap number_of (sym e);
        answer = (λ i. word (points_of v) x l.0 p i ∷ word (triangles_of v) y l.1 q i ∷ s i ∷ []) ∙ ap (λ (o : Outcome). points_of o ∷ triangles_of o ∷ flips_of o ∷ []) (sym e);
        place = a ∙ ap place_of (sym e);
      }

pub returns-in-Ok : goal.returns-in-Ok
returns-in-Ok c =
    handed c.improve.ensures _ c.in-Ok.is _ _ _ c.low_word.ensures c.low_word-in-Ok.ensures refl refl refl
