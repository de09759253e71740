-- The answer of every call (document 02, F-11): questions 1 to 5, then 42. Definitions only.
use Rattle.std.specs.Prelude.{ℕ, ◌-◌, ◌*◌, ◌/◌, ◌%◌, ◌≤◌, ◌≡◌, Bool, ◌&&◌, List, ◌++◌, eqb, leb, length, replicate, Float, Ok, Err}
use Rattle.surface.specs.Check.{every}
use Rattle.questions.specs.Questions.{ask, and_then, lent_questions, listed?, work_after}
use Rattle.questions.specs.Refusal.{asked_number, Asked}
use Rattle.units.specs.Units.{AllOnUnits, all_on_units?}
use Rattle.nearest.specs.Nearest.{answered}
use Rattle.questions.specs.declared.Refusal.TheVariants.{CornerMissing, Probes}

-- Question 42 asks whether probe values are in threes, for at most 64 probes, with an answer place of two words for each, and whether probes and points, used or not, are whole units in range.
pub record Askable (points probes : List Float) (words : ℕ) : Type 0 where
  pub threes : length probes % 3 ≡ 0
  pub few : length probes / 3 ≤ 64
  pub places : length probes / 3 ≤ words / 2
  pub whole_probes : AllOnUnits probes
  pub whole-points : AllOnUnits points

-- the same as a test that computes (`askable_iff` of proofs/Questions)
unfoldable pub askable? : (points probes : List Float) (words : ℕ) → Bool
unfolding every
askable? points probes words =
    eqb (length probes % 3) 0 && (leb (length probes / 3) 64 && (leb (length probes / 3) (words / 2) && (all_on_units? probes && all_on_units? points)))

-- Questions 5 and 42, and 1 to 4 before them.
unfoldable pub later_questions : (points : List Float) (corners : List ℕ) (probes : List Float) (words : ℕ) → Asked
unfolding every askable?
later_questions points corners probes words = ask (listed? (length points / 3) corners) CornerMissing (ask (askable? points probes words) Probes (Ok tt))

unfoldable pub nearest_questions : (points : List Float) (corners labels work : List ℕ) (probes : List Float) (words : ℕ) → Asked
unfolding lent_questions later_questions
nearest_questions points corners labels work probes words = and_then (lent_questions points corners labels work) (later_questions points corners probes words)

-- how many answer places are filled
abbrev pub places_filled : Asked → List Float → ℕ
places_filled (Ok x) probes = length probes / 3
places_filled (Err why) probes = 0

-- the list of answers: the places filled, and 0 behind; all 0 after a refusal
abbrev pub answers_after : Asked → List Float → List ℕ → List Float → List ℕ → List ℕ
answers_after (Ok x) points corners probes answers = answered points corners probes ++ replicate (length answers - 2 * (length probes / 3)) 0
answers_after (Err why) points corners probes answers = replicate (length answers) 0

-- what `nearest` promises of every call: its answer, the list of answers and the work words
pub record Replies (points : List Float) (corners labels work work' : List ℕ) (probes : List Float) (answers answers' : List ℕ) (asked : Asked) : Type 0 where
  pub answer : asked ≡ nearest_questions points corners labels work probes (length answers)
  pub places : answers' ≡ answers_after asked points corners probes answers
  pub words : work' ≡ work_after (asked_number asked) points corners work
