-- `lanovishel_check` for every call: document 01's number, the work words afterwards, the two numbers, which are 0 after a refusal, and document 02's place, which is 0 0 but for a finding. Points, corners and labels are only read. Definitions only.
use Rattle.std.specs.Prelude.{ℕ, ◌≡◌, List, [], ◌∷◌, Float}
use Rattle.questions.specs.Questions.{work_after}
use Rattle.checking.specs.Verdict.{number_of, quality_of, volume_of, place_of}
use Rattle.checking.specs.Validate.{validated}
use Rattle.checking.specs.Original.{Ok, original_of, Lendable, EqualsOriginal}

pub record Checked (points : List Float) (corners labels work work' : List ℕ) (numbers' : List Float) (place' : List ℕ) (number : ℕ) : Type 0 where
  pub answer : number ≡ number_of (validated points corners labels work)
  pub values : numbers' ≡ quality_of (validated points corners labels work) ∷ volume_of (validated points corners labels work) ∷ []
  pub place : place' ≡ place_of (validated points corners labels work)
  pub words : work' ≡ work_after number points corners work

-- Such calls beside the Rust's `validate` (`checking/specs/Original`), of the mesh that the lists stand for; `check-original` of `proofs/Check` proves it.
pub record CheckOriginal : Type 0 where
  -- a call that answers 0 gives the Rust's two numbers
  pub zero : (points : List Float) (corners labels work work' place' : List ℕ) (quality volume : Float) → Checked points corners labels work work' (quality ∷ volume ∷ []) place' 0 → original_of points corners labels ≡ Ok quality volume
  -- and any answer goes with what the Rust says, where the lists are in threes, few, and enough work words are lent
  pub each : (points : List Float) (corners labels work work' : List ℕ) (numbers' : List Float) (place' : List ℕ) (number : ℕ) → Lendable points corners work → Checked points corners labels work work' numbers' place' number
      → EqualsOriginal points corners labels (λ quality volume. (number ≡ 0) × (numbers' ≡ quality ∷ volume ∷ [])) number
