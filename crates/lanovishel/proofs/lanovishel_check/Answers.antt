-- `lanovishel::lanovishel_check` meets its contract: it hands on what `validate` answers. Assumes nothing.
use Prim.Native.Nat.{ℕ}
use mathlib.Core.Path.{◌≡◌, sym, ap, ◌∙◌}
use mathlib.Core.List.{List, [], ◌∷◌}
use lib.Ieee.{Float, of_bits, of_int}
use Rattle.questions.specs.Questions.{work_after}
use Rattle.checking.specs.Verdict.{Verdict, number_of, quality_of, volume_of, place_of}
use Rattle.checking.specs.Validate.{Validated}
use Rattle.lanovishel.specs.Check.{Checked}
use Rattle.lanovishel.proofs.lanovishel_check.Goals as goal

handed : {points : List Float} {corners labels work work' place : List ℕ} {number : ℕ} {r v : Verdict} → Validated points corners labels work work' r → r ≡ v → place ≡ place_of v → number ≡ number_of v
    → Checked points corners labels work work' (quality_of v ∷ volume_of v ∷ []) place number
handed {points} {corners} {work = work} d e p n = record {
  answer = n ∙ ap number_of (sym e ∙ d.answer);
  values = ap (λ (r : Verdict). quality_of r ∷ volume_of r ∷ []) (sym e ∙ d.answer);
  place = p ∙ ap place_of (sym e ∙ d.answer);
  words = d.words ∙ ap (λ (r : Verdict). work_after (number_of r) points corners work) e ∙ ap (λ (k : ℕ). work_after k points corners work) (sym n);
}

pub returns-in-Err : goal.returns-in-Err
unfolding of_bits of_int
returns-in-Err c =
    handed c.validate.ensures c.in-Err.is c.refused.ensures.place c.refused.ensures.number
