-- `lanovishel_edit` for every call: it answers and leaves what `edit` does (`EditRun`), the outcome as document 01's number and the two counts, triangles left and edits in force, which are 0 after a refusal, and document 02's place. Definitions only.
use Rattle.std.specs.Prelude.{ℕ, ◌≡◌, List, [], ◌∷◌, Float, Result}
use Rattle.editing.specs.Demand3.{Demand3}
use Rattle.editing.specs.Edit.{EditRun, number_of, triangles_of, edits_of, place_of}
use Rattle.editing.specs.declared.Left.{Left}
use Rattle.questions.specs.declared.Refusal.{Refusal}

pub record EditCall (points : List Float) (corners₀ labels₀ work₀ entries verdicts₀ journal₀ corners₁ labels₁ work₁ verdicts₁ journal₁ answer₁ place₁ : List ℕ) (number : ℕ) : Type 0 where
  pub outcome : Result Left Refusal
  pub run : EditRun points corners₀ labels₀ work₀ entries verdicts₀ journal₀ corners₁ labels₁ work₁ verdicts₁ journal₁ outcome
  pub is : number ≡ number_of outcome
  pub answer : answer₁ ≡ triangles_of outcome ∷ edits_of outcome ∷ []
  pub place : place₁ ≡ place_of outcome

-- what is proved of calls, in `proofs/Edit`
pub record EditLaws : Type 0 where
  -- a call that answers 0 has demand 3, and the two numbers that it gives are its triangles left and edits in force
  pub demand3 : (points : List Float) (corners₀ labels₀ work₀ entries verdicts₀ journal₀ corners₁ labels₁ work₁ verdicts₁ journal₁ answer₁ place₁ : List ℕ)
      → EditCall points corners₀ labels₀ work₀ entries verdicts₀ journal₀ corners₁ labels₁ work₁ verdicts₁ journal₁ answer₁ place₁ 0
      → (triangles : ℕ) × (edits : ℕ) × (answer₁ ≡ triangles ∷ edits ∷ []) × Demand3 points corners₀ labels₀ entries journal₀ corners₁ labels₁ verdicts₁ triangles edits
