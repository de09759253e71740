-- Demand 3: it holds of every call of `edit` that is let in, by what `edit` promises of every call and by `safe`.
use Prim.Native.Nat.{ℕ, ◌/◌}
use mathlib.Core.Path.{◌≡◌, refl, sym, ap, ◌∙◌}
use mathlib.Core.List.{List}
use native.Mathlib.Omega.{arith}
use lib.ListN.{length}
use lib.Ieee.{Float}
use Rattle.surface.proofs.Flat.{length-triangles, used-below}
use Rattle.questions.specs.Questions.{surface_questions}
use Rattle.questions.specs.Refusal.{Asked, asked_number}
use Rattle.questions.specs.Admitted.{Admitted}
use Rattle.questions.proofs.Laws.{passed_admitted, first-passed}
use Rattle.questions.proofs.Telling.{telling}
use Rattle.history.specs.History.{History, last, in_force}
use Rattle.history.specs.Lists.{lent_pair, entries, capacity, history_of}
use Rattle.history.proofs.Safe.{safe}
use Rattle.editing.specs.Edit.{number_of, triangles_of, edits_of, edit_questions, answer_of, EditRun}
use Rattle.editing.specs.Demand3.{Demand3}
use Rattle.questions.specs.declared.Refusal.{Refusal}
use Rattle.std.specs.Prelude.{Result, Ok, Err}
use Rattle.editing.specs.declared.Left.{Left}
use Rattle.editing.proofs.Call.{thirds}

-- an answer of two numbers is the history's, and no question was answered by "no"
let_in : (q : Asked) (n k : ℕ) (h : History) → Ok (record { triangles = n; edits = k }) ≡ answer_of q h → (q ≡ Ok tt) × (n ≡ length (last h).tris) × (k ≡ in_force h)
let_in (Ok x) n k h e = (refl, ap triangles_of e, ap edits_of e)
let_in (Err why) n k h e = let z : ◌≡◌ {A = ℕ} 0 1 = cc in absurd (omega arith)

-- the number is 0 only where the run is let in, so demand 3 holds of every call that is answered by 0
number_is_lem : (q : Asked) (h : History) → number_of (answer_of q h) ≡ asked_number q
number_is_lem (Ok x) h = refl
number_is_lem (Err why) h = refl

pub zero-edited : {points : List Float} {corners₀ labels₀ work₀ es verdicts₀ journal₀ corners₁ labels₁ work₁ verdicts₁ journal₁ : List ℕ} {r : Result Left Refusal}
    → EditRun points corners₀ labels₀ work₀ es verdicts₀ journal₀ corners₁ labels₁ work₁ verdicts₁ journal₁ r → number_of r ≡ 0
    → r ≡ Ok (record { triangles = length (last (history_of corners₀ labels₀ es journal₀)).tris; edits = in_force (history_of corners₀ labels₀ es journal₀) })
zero-edited {points} {corners₀} {labels₀} {work₀} {es} {verdicts₀} {journal₀} r z =
    let q = edit_questions points corners₀ labels₀ work₀ es verdicts₀ in
    let h = history_of corners₀ labels₀ es journal₀ in
    r.answer ∙ ap (λ (a : Asked). answer_of a h) (telling q (sym (number_is_lem q h) ∙ ap number_of (sym r.answer) ∙ z))

module _ {points : List Float} {corners₀ labels₀ work₀ es verdicts₀ journal₀ corners₁ labels₁ work₁ verdicts₁ journal₁ : List ℕ} {triangles edits : ℕ} where
  pub demand3 : EditRun points corners₀ labels₀ work₀ es verdicts₀ journal₀ corners₁ labels₁ work₁ verdicts₁ journal₁ (Ok (record { triangles = triangles; edits = edits }))
      → Demand3 points corners₀ labels₀ es journal₀ corners₁ labels₁ verdicts₁ triangles edits
  unfolding edit_questions
  demand3 r =
      let t = let_in (edit_questions points corners₀ labels₀ work₀ es verdicts₀) triangles edits (history_of corners₀ labels₀ es journal₀) r.answer in
      let a : Admitted points corners₀ labels₀ work₀ = passed_admitted points corners₀ labels₀ work₀ (first-passed (surface_questions points corners₀ labels₀ work₀) _ t.0) in
      record {
        safe = safe (capacity journal₀) (lent_pair corners₀ labels₀) (record { closed = a.closed; labelled = sym (length-triangles (length labels₀) corners₀ (thirds a)) }) (entries es);
        below = used-below (length points / 3) corners₀ a.listed;
        corners = r.corners;
        labels = r.labels;
        verdicts = r.verdicts;
        triangles = t.1;
        edits = t.2;
      }
