-- Improving (document 01, "Questions in turn" and "Round"): what every call answers, and what it leaves in each lent list. Definitions only.
use Rattle.std.specs.Prelude.{ℕ, ◌≡◌, true, List, [], ◌∷◌, leb, length, Float, Ok, Err}
use Rattle.std.specs.Prelude as Prelude
use Rattle.field.specs.Valid.{sheet_ok}
use Rattle.surface.specs.Triangle.{corners}
use Rattle.questions.specs.Questions.{ask, and_then, surface_questions, work_after}
use Rattle.questions.specs.Refusal.{Asked, refusal_number, refusal_place}
use Rattle.questions.specs.declared.Refusal.{Refusal}
use Rattle.questions.specs.declared.Refusal.TheVariants.{FieldSheet, Rounds}
use Rattle.history.specs.Lists.{then_zero}
use Rattle.oracle.specs.Round.{Result, count, rounds}
use Rattle.flips.specs.Whole.{mesh_of, sheet_of}
use Rattle.improving.specs.Rounded.{then_plus_zero}
use Rattle.improving.specs.declared.Left.{Left}

-- what is left, or why the call is refused
abbrev pub Outcome : Type 0
Outcome = Prelude.Result Left Refusal

-- Document 01's number and values for each case of the answer: 0, points left, triangles left and the count of flips; or the number of the refusal. And document 02's place, which is 0 0 but for a finding.
abbrev pub number_of : Outcome → ℕ
number_of (Ok left) = 0
number_of (Err why) = refusal_number why

abbrev pub points_of : Outcome → ℕ
points_of (Ok left) = left.points
points_of (Err why) = 0

abbrev pub triangles_of : Outcome → ℕ
triangles_of (Ok left) = left.triangles
triangles_of (Err why) = 0

abbrev pub flips_of : Outcome → ℕ
flips_of (Ok left) = left.flips
flips_of (Err why) = 0

abbrev pub place_of : Outcome → List ℕ
place_of (Ok left) = 0 ∷ 0 ∷ []
place_of (Err why) = refusal_place why

-- The questions about the surface, then the two of improving, in turn.
unfoldable pub improve_questions : (points : List Float) (corners labels work : List ℕ) (coefficients : List Float) (powers : List ℕ) (levels bounds : List Float) (n : ℕ) → Asked
unfolding surface_questions sheet_ok
improve_questions points corners labels work coefficients powers levels bounds n =
    and_then (surface_questions points corners labels work)
    -- Field sheet as it should be, coefficients finite, powers three per term?
    (ask (sheet_ok coefficients powers levels bounds) FieldSheet
    -- At most 1,000 rounds?
    (ask (leb n 1000) Rounds (Ok tt)))

-- what n rounds make of the surface lent, and how many flips they have
abbrev pub improved : (points : List Float) (corners labels : List ℕ) (coefficients : List Float) (powers : List ℕ) (n : ℕ) → Result
improved points corners labels coefficients powers n = rounds true (sheet_of coefficients powers) n (mesh_of points corners labels)

-- what is left by it
abbrev pub left_of : Result → Left
left_of r = record { points = count r.mesh; triangles = length r.mesh.pair.tris; flips = r.flips }

abbrev pub answer_of : Asked → Result → Outcome
answer_of (Ok x) r = Ok (left_of r)
answer_of (Err why) r = Err why

-- a refused call leaves a list as lent
abbrev pub unless_refused : {A : Type 0} → Outcome → List A → List A → List A
unless_refused (Ok left) lent made = made
unless_refused (Err why) lent made = lent

-- What `improve` promises of every call.
pub record Improving (points₀ : List Float) (corners₀ labels₀ work₀ : List ℕ) (coefficients : List Float) (powers : List ℕ) (levels bounds : List Float) (n : ℕ) (points₁ : List Float) (corners₁ labels₁ work₁ : List ℕ) (r : Outcome) : Type 0 where
  -- the answer: points left, triangles left and flips, or why the call is refused
  pub answer : r ≡ answer_of (improve_questions points₀ corners₀ labels₀ work₀ coefficients powers levels bounds n) (improved points₀ corners₀ labels₀ coefficients powers n)
  -- the lent lists are the mesh that the rounds make, then 0
  pub points : points₁ ≡ unless_refused r points₀ (then_plus_zero points₀ (improved points₀ corners₀ labels₀ coefficients powers n).mesh.points)
  pub corners : corners₁ ≡ unless_refused r corners₀ (then_zero corners₀ (corners (improved points₀ corners₀ labels₀ coefficients powers n).mesh.pair.tris))
  pub labels : labels₁ ≡ unless_refused r labels₀ (then_zero labels₀ (improved points₀ corners₀ labels₀ coefficients powers n).mesh.pair.labels)
  -- the work words are as lent after 1 to 3, else the needed ones are 0 and further ones untouched
  pub work : work₁ ≡ work_after (number_of r) points₀ corners₀ work₀
