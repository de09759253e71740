-- Demand 3 of the rounds: it holds of every call of `improve` that is let in, by what `improve` promises of every call and by the theorems on rounds.
use Prim.Native.Nat.{ℕ, ◌/◌, ◌≤◌}
use mathlib.Core.Path.{◌≡◌, refl, sym, ap, ◌∙◌}
use mathlib.Core.Bool.{Bool, false, ◌||◌}
use mathlib.Core.List.{List}
use native.Mathlib.Omega.{arith}
use lib.ListN.{length}
use lib.Ieee.{Float}
use Rattle.surface.specs.Triangle.{triangles}
use Rattle.surface.proofs.Bools.{or_none}
use Rattle.questions.specs.Questions.{surface_questions}
use Rattle.questions.specs.Refusal.{Asked, asked_number}
use Rattle.std.specs.Prelude.{Ok, Err}
use Rattle.questions.specs.Labels.{both, opposed}
use Rattle.questions.specs.Admitted.{Admitted}
use Rattle.questions.proofs.Laws.{passed_admitted, first-passed}
use Rattle.questions.proofs.Telling.{telling}
use Rattle.oracle.specs.Round.{Result}
use Rattle.oracle.specs.Safe.{SafeAfter}
use Rattle.oracle.proofs.Safe.{safe-after}
use Rattle.original.proofs.Domain.{improve-is}
use Rattle.original.proofs.Admitted.{admitted_valid}
use Rattle.flips.specs.Whole.{mesh_of, sheet_of}
use Rattle.improving.specs.Improve.{Outcome, number_of, improve_questions, improved, left_of, answer_of, Improving}
use Rattle.improving.specs.Demand3.{Demand3}
use Rattle.improving.specs.declared.Left.{Left}
use Rattle.improving.proofs.Running.{Fine, fine-first, fine-after}
use Rattle.improving.proofs.Call.{improvable_of}

-- an answer of what is left is that of the rounds, and no question was answered by "no"
let_in : (q : Asked) (left : Left) (r : Result) → Ok left ≡ answer_of q r → (q ≡ Ok tt) × (left ≡ left_of r)
let_in (Ok x) left r e = (refl, (cc))
let_in (Err why) left r e = cc

-- the number is 0 only where the call is let in, so demand 3 holds of every call that is answered by 0
number_is_lem : (q : Asked) (r : Result) → number_of (answer_of q r) ≡ asked_number q
number_is_lem (Ok x) r = refl
number_is_lem (Err why) r = refl

pub zero-improved : {points₀ : List Float} {corners₀ labels₀ work₀ : List ℕ} {coefficients : List Float} {powers : List ℕ} {levels bounds : List Float} {n : ℕ} {points₁ : List Float} {corners₁ labels₁ work₁ : List ℕ} {r : Outcome}
    → Improving points₀ corners₀ labels₀ work₀ coefficients powers levels bounds n points₁ corners₁ labels₁ work₁ r → number_of r ≡ 0
    → r ≡ Ok (left_of (improved points₀ corners₀ labels₀ coefficients powers n))
zero-improved {points₀} {corners₀} {labels₀} {work₀} {coefficients} {powers} {levels} {bounds} {n} r z =
    let q = improve_questions points₀ corners₀ labels₀ work₀ coefficients powers levels bounds n in
    let made = improved points₀ corners₀ labels₀ coefficients powers n in
    r.answer ∙ ap (λ (a : Asked). answer_of a made) (telling q (sym (number_is_lem q made) ∙ ap number_of (sym r.answer) ∙ z))

none_of_four : (p q r s : Bool) → (p || (q || (r || s))) ≡ false → (p ≡ false) × (q ≡ false) × (r ≡ false) × (s ≡ false)
none_of_four p q r s e =
    let a = or_none p (q || (r || s)) e in
    let b = or_none q (r || s) a.1 in
    let c = or_none r s b.1 in
    (a.0, b.0, c.0, c.1)

module _ {points₀ : List Float} {corners₀ labels₀ work₀ : List ℕ} {coefficients : List Float} {powers : List ℕ} {levels bounds : List Float} {n : ℕ} {points₁ : List Float} {corners₁ labels₁ work₁ : List ℕ} {left : Left}
    (r : Improving points₀ corners₀ labels₀ work₀ coefficients powers levels bounds n points₁ corners₁ labels₁ work₁ (Ok left)) where
  answered : (improve_questions points₀ corners₀ labels₀ work₀ coefficients powers levels bounds n ≡ Ok tt) × (left ≡ left_of (improved points₀ corners₀ labels₀ coefficients powers n))
  answered = let_in (improve_questions points₀ corners₀ labels₀ work₀ coefficients powers levels bounds n) left (improved points₀ corners₀ labels₀ coefficients powers n) r.answer

  passed : Admitted points₀ corners₀ labels₀ work₀
  unfolding improve_questions
  passed = passed_admitted points₀ corners₀ labels₀ work₀ (first-passed (surface_questions points₀ corners₀ labels₀ work₀) _ answered.0)

  fine : Fine (length points₀ / 3) (length labels₀) (mesh_of points₀ corners₀ labels₀)
  fine = fine-first (improvable_of passed)

  after : (i : ℕ) → SafeAfter (sheet_of coefficients powers) (mesh_of points₀ corners₀ labels₀) i
  after i = safe-after (sheet_of coefficients powers) i (mesh_of points₀ corners₀ labels₀) passed.closed fine.labelled

  unopposed : (i v : ℕ) → opposed (improved points₀ corners₀ labels₀ coefficients powers i).mesh.pair.tris (improved points₀ corners₀ labels₀ coefficients powers i).mesh.pair.labels v ≡ false
  unopposed i v = rw ((after i).unopposed 0 1 (λ x. (apart x).0) v, (after i).unopposed 2 3 (λ x. (apart x).1) v, (after i).unopposed 4 5 (λ x. (apart x).2) v, (after i).unopposed 6 7 (λ x. (apart x).3) v) refl
    where
      apart : (x : ℕ) → (both (triangles corners₀) labels₀ x 0 1 ≡ false) × (both (triangles corners₀) labels₀ x 2 3 ≡ false) × (both (triangles corners₀) labels₀ x 4 5 ≡ false) × (both (triangles corners₀) labels₀ x 6 7 ≡ false)
      apart x = none_of_four (both (triangles corners₀) labels₀ x 0 1) (both (triangles corners₀) labels₀ x 2 3) (both (triangles corners₀) labels₀ x 4 5) (both (triangles corners₀) labels₀ x 6 7) (passed.unopposed x)

  pub demand3 : Demand3 points₀ corners₀ labels₀ coefficients powers n points₁ corners₁ labels₁ left.points left.triangles left.flips
  demand3 =
      let g = fine-after (sheet_of coefficients powers) fine n in
      let ep = ap (λ (l : Left). l.points) answered.1 in
      let et = ap (λ (l : Left). l.triangles) answered.1 in
      let a = g.few-points in
      let b = g.few-triangles in
      let c = g.labelled in
      record {
        safe = after;
        holds = record { points = r.points; corners = r.corners; labels = r.labels };
        points = ep;
        triangles = et;
        flips = ap (λ (l : Left). l.flips) answered.1;
        no_more-points = omega arith;
        no_more-triangles = omega arith;
        known = λ i. (after i).known 7 passed.known;
        unopposed = unopposed;
        original = improve-is (sheet_of coefficients powers) n (mesh_of points₀ corners₀ labels₀) passed.closed (admitted_valid passed);
      }

  -- so few that they fit a word
  pub left-few : (left.points ≤ 32768) × (left.triangles ≤ 32768)
  left-few =
      let x = demand3.no_more-points in
      let y = demand3.no_more-triangles in
      let a = passed.few-points in
      let b = passed.few-triangles in
      let c = passed.a-label-each in
      (omega arith, omega arith)
