-- `lanovishel_nearest` for every call: document 02's number, how many answer places are filled, the list of answers, which is 0 behind them and all 0 after a refusal, and the work words afterwards. The other lists are only read. Definitions only.
use Rattle.std.specs.Prelude.{ℕ, ◌≡◌, List, [], ◌∷◌, length, Float}
use Rattle.questions.specs.Questions.{work_after}
use Rattle.questions.specs.Refusal.{asked_number}
use Rattle.nearest.specs.Call.{nearest_questions, places_filled, answers_after}

pub record NearestCall (points : List Float) (corners labels work : List ℕ) (probes : List Float) (answers work' answers' count' : List ℕ) (number : ℕ) : Type 0 where
  pub answer : number ≡ asked_number (nearest_questions points corners labels work probes (length answers))
  pub count : count' ≡ places_filled (nearest_questions points corners labels work probes (length answers)) probes ∷ []
  pub places : answers' ≡ answers_after (nearest_questions points corners labels work probes (length answers)) points corners probes answers
  pub words : work' ≡ work_after number points corners work

-- a call that answers 0, with its answers: the laws of `nearest` hold of it (`call-laws` of `proofs/Nearest` proves `NearestLaws CallAnswers`)
pub record CallAnswers (points : List Float) (corners : List ℕ) (probes : List Float) (answers' : List ℕ) : Type 0 where
  pub labels : List ℕ
  pub work : List ℕ
  pub answers : List ℕ
  pub work' : List ℕ
  pub count' : List ℕ
  pub call : NearestCall points corners labels work probes answers work' answers' count' 0
