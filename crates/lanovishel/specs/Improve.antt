-- `lanovishel_improve` for every call: it answers and leaves what `improve` does (`Improving`), the outcome as document 01's number and three words, which are 0 after a refusal, and document 02's place. Definitions only.
use Rattle.std.specs.Prelude.{ℕ, ◌≡◌, List, [], ◌∷◌, length, Float}
use Rattle.oracle.specs.Round.{Result, count}
use Rattle.original.specs.Flip.{done}
use Rattle.original.specs.Improve.{improve}
use Rattle.original.specs.Domain.{Domain}
use Rattle.flips.specs.Whole.{mesh_of, sheet_of}
use Rattle.improving.specs.Rounded.{Holds}
use Rattle.improving.specs.Improve.{Outcome, Improving, number_of, points_of, triangles_of, flips_of, place_of}
use Rattle.improving.specs.Demand3.{Demand3}

pub record ImproveCall (points₀ : List Float) (corners₀ labels₀ work₀ : List ℕ) (coefficients : List Float) (powers : List ℕ) (levels bounds : List Float) (rounds : ℕ) (points₁ : List Float) (corners₁ labels₁ work₁ answer₁ place₁ : List ℕ) (number : ℕ) : Type 0 where
  pub outcome : Outcome
  pub run : Improving points₀ corners₀ labels₀ work₀ coefficients powers levels bounds rounds points₁ corners₁ labels₁ work₁ outcome
  pub is : number ≡ number_of outcome
  pub answer : answer₁ ≡ points_of outcome ∷ triangles_of outcome ∷ flips_of outcome ∷ []
  pub place : place₁ ≡ place_of outcome

-- ---- what is proved of calls, in `proofs/Improve`

-- a call that answers 0, by what its laws are about
pub record ZeroImprove (points₀ : List Float) (corners₀ labels₀ : List ℕ) (coefficients : List Float) (powers : List ℕ) (rounds : ℕ) (points₁ : List Float) (corners₁ labels₁ answer₁ : List ℕ) : Type 0 where
  pub work₀ : List ℕ
  pub levels : List Float
  pub bounds : List Float
  pub work₁ : List ℕ
  pub place₁ : List ℕ
  pub call : ImproveCall points₀ corners₀ labels₀ work₀ coefficients powers levels bounds rounds points₁ corners₁ labels₁ work₁ answer₁ place₁ 0

-- demand 3, with the three words of the answer as points left, triangles left and flips
pub record MeetsDemand3 (points₀ : List Float) (corners₀ labels₀ : List ℕ) (coefficients : List Float) (powers : List ℕ) (rounds : ℕ) (points₁ : List Float) (corners₁ labels₁ answer₁ : List ℕ) : Type 0 where
  pub points : ℕ
  pub triangles : ℕ
  pub flips : ℕ
  pub words : answer₁ ≡ points ∷ triangles ∷ flips ∷ []
  pub demand3 : Demand3 points₀ corners₀ labels₀ coefficients powers rounds points₁ corners₁ labels₁ points triangles flips

-- the Rust's `improve` gives a result and no Err; the lists are what it leaves, then 0, and the three words its points, its triangles and its edits
pub record AsOriginal (points₀ : List Float) (corners₀ labels₀ : List ℕ) (coefficients : List Float) (powers : List ℕ) (rounds : ℕ) (points₁ : List Float) (corners₁ labels₁ answer₁ : List ℕ) : Type 0 where
  pub result : Result
  pub given : improve (sheet_of coefficients powers) rounds (mesh_of points₀ corners₀ labels₀) ≡ done result
  pub holds : Holds result.mesh points₀ corners₀ labels₀ points₁ corners₁ labels₁
  pub words : answer₁ ≡ count result.mesh ∷ length result.mesh.pair.tris ∷ result.flips ∷ []

pub record ImproveLaws : Type 0 where
  -- a call that answers 0 meets demand 3;
  pub demand3 : (points₀ : List Float) (corners₀ labels₀ : List ℕ) (coefficients : List Float) (powers : List ℕ) (rounds : ℕ) (points₁ : List Float) (corners₁ labels₁ answer₁ : List ℕ)
      → ZeroImprove points₀ corners₀ labels₀ coefficients powers rounds points₁ corners₁ labels₁ answer₁ → MeetsDemand3 points₀ corners₀ labels₀ coefficients powers rounds points₁ corners₁ labels₁ answer₁
  -- and within document 01's domain it does what the Rust does
  pub original : (points₀ : List Float) (corners₀ labels₀ : List ℕ) (coefficients : List Float) (powers : List ℕ) (rounds : ℕ) (points₁ : List Float) (corners₁ labels₁ answer₁ : List ℕ)
      → ZeroImprove points₀ corners₀ labels₀ coefficients powers rounds points₁ corners₁ labels₁ answer₁ → Domain (sheet_of coefficients powers) rounds (mesh_of points₀ corners₀ labels₀)
      → AsOriginal points₀ corners₀ labels₀ coefficients powers rounds points₁ corners₁ labels₁ answer₁
