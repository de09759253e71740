-- A call that answers 0 has the answers of a call that passes the questions: the laws of `nearest` hold of it.
use mathlib.Core.Path.{sym, ap, ◌∙◌}
use mathlib.Core.List.{List}
use Prim.Native.Nat.{ℕ}
use lib.ListN.{length}
use lib.Ieee.{Float}
use Rattle.questions.specs.Refusal.{Asked}
use Rattle.nearest.specs.Call.{answers_after}
use Rattle.nearest.specs.Laws.{Answers, NearestLaws}
use Rattle.nearest.proofs.Questions.{zero-passed}
use Rattle.nearest.proofs.Laws.{nearest-laws_of}
use Rattle.lanovishel.specs.Nearest.{CallAnswers}

answers : (points : List Float) (corners : List ℕ) (probes : List Float) (answers' : List ℕ) → CallAnswers points corners probes answers' → Answers points corners probes answers'
answers points corners probes answers' a =
    let p = zero-passed points corners a.labels a.work probes (length a.answers) (sym a.call.answer) in
    record {
      labels = a.labels;
      work = a.work;
      answers = a.answers;
      passed = p;
      places = a.call.places ∙ ap (λ (q : Asked). answers_after q points corners probes a.answers) p;
    }

pub call-laws : NearestLaws CallAnswers
call-laws = nearest-laws_of CallAnswers answers
