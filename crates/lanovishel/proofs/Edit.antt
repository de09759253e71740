-- A call that answers 0 was let in: demand 3 of `editing` holds of it.
use mathlib.Core.Path.{sym, ap, subst, ◌∙◌}
use mathlib.Core.List.{[], ◌∷◌}
use lib.ListN.{length}
use Rattle.history.specs.History.{last, in_force}
use Rattle.history.specs.Lists.{history_of}
use Rattle.editing.specs.Edit.{EditRun, triangles_of, edits_of}
use Rattle.editing.specs.declared.Left.{Left}
use Rattle.questions.specs.declared.Refusal.{Refusal}
use Rattle.std.specs.Prelude.{Result}
use Rattle.editing.proofs.Demand3.{zero-edited, demand3}
use Rattle.lanovishel.specs.Edit.{EditLaws}

pub edit-laws : EditLaws
edit-laws = record {
  demand3 = λ points corners₀ labels₀ work₀ entries verdicts₀ journal₀ corners₁ labels₁ work₁ verdicts₁ journal₁ answer₁ place₁ c.
      let h = history_of corners₀ labels₀ entries journal₀ in
      let e = zero-edited c.run (sym c.is) in (
        length (last h).tris,
        in_force h,
        c.answer ∙ ap (λ (o : Result Left Refusal). triangles_of o ∷ edits_of o ∷ []) e,
        demand3 (subst (EditRun points corners₀ labels₀ work₀ entries verdicts₀ journal₀ corners₁ labels₁ work₁ verdicts₁ journal₁) e c.run),
      );
}
