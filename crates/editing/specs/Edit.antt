-- An edit run (document 01, "Questions in turn" and "Entry and journal"): what every call answers, and what it leaves in each lent list. Definitions only.
use Rattle.std.specs.Prelude.{ℕ, ◌/◌, ◌%◌, ◌≡◌, Bool, ◌&&◌, List, [], ◌∷◌, Result, Ok, Err, eqb, length, Float}
use Rattle.surface.specs.Triangle.{corners}
use Rattle.questions.specs.Questions.{ask, and_then, surface_questions, work_after}
use Rattle.questions.specs.Refusal.{Asked, refusal_number, refusal_place}
use Rattle.questions.specs.declared.Refusal.{Refusal}
use Rattle.questions.specs.declared.Refusal.TheVariants.{Entries}
use Rattle.history.specs.History.{History, last, in_force}
use Rattle.history.specs.Lists.{records, then_zero, history_of, verdicts_of}
use Rattle.editing.specs.declared.Left.{Left}

-- Document 01's number and values for each case of the answer: 0, triangles left and edits in force; or the number of the refusal. And document 02's place, which is 0 0 but for a finding.
abbrev pub number_of : Result Left Refusal → ℕ
number_of (Ok left) = 0
number_of (Err why) = refusal_number why

abbrev pub triangles_of : Result Left Refusal → ℕ
triangles_of (Ok left) = left.triangles
triangles_of (Err why) = 0

abbrev pub edits_of : Result Left Refusal → ℕ
edits_of (Ok left) = left.edits
edits_of (Err why) = 0

abbrev pub place_of : Result Left Refusal → List ℕ
place_of (Ok left) = 0 ∷ 0 ∷ []
place_of (Err why) = refusal_place why

-- entries in threes and one verdict word per entry
abbrev pub in_threes? : List ℕ → List ℕ → Bool
in_threes? entries verdicts = eqb (length entries % 3) 0 && eqb (length verdicts) (length entries / 3)

-- The questions about the surface, then: entries in threes and one verdict word per entry?
unfoldable pub edit_questions : (points : List Float) (corners labels work entries verdicts : List ℕ) → Asked
unfolding surface_questions
edit_questions points corners labels work entries verdicts =
    and_then (surface_questions points corners labels work)
    (ask (in_threes? entries verdicts) Entries (Ok tt))

abbrev pub answer_of : Asked → History → Result Left Refusal
answer_of (Ok x) h = Ok (record { triangles = length (last h).tris; edits = in_force h })
answer_of (Err why) h = Err why

-- a refused call leaves a list as lent
abbrev pub unless_refused : Result Left Refusal → List ℕ → List ℕ → List ℕ
unless_refused (Ok left) lent made = made
unless_refused (Err why) lent made = lent

-- What `edit` promises of every call. With h the history of the run:
pub record EditRun (points : List Float) (corners₀ labels₀ work₀ entries verdicts₀ journal₀ corners₁ labels₁ work₁ verdicts₁ journal₁ : List ℕ) (r : Result Left Refusal) : Type 0 where
  -- the answer: triangles left and edits in force, or why the call is refused
  pub answer : r ≡ answer_of (edit_questions points corners₀ labels₀ work₀ entries verdicts₀) (history_of corners₀ labels₀ entries journal₀)
  -- both lent lists are the last pair, then 0
  pub corners : corners₁ ≡ unless_refused r corners₀ (then_zero corners₀ (corners (last (history_of corners₀ labels₀ entries journal₀)).tris))
  pub labels : labels₁ ≡ unless_refused r labels₀ (then_zero labels₀ (last (history_of corners₀ labels₀ entries journal₀)).labels)
  -- every verdict word is the history's
  pub verdicts : verdicts₁ ≡ unless_refused r verdicts₀ (verdicts_of corners₀ labels₀ entries journal₀)
  -- the journal is the records in force, then 0
  pub journal : journal₁ ≡ unless_refused r journal₀ (then_zero journal₀ (records (history_of corners₀ labels₀ entries journal₀).edits))
  -- the work words are as lent after 1 to 3, else the needed ones are 0 and further ones untouched
  pub work : work₁ ≡ work_after (number_of r) points corners₀ work₀
