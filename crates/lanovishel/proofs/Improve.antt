-- Laws of calls of `lanovishel_improve` that answer 0: demand 3, and that they do what the Rust does. Assumes nothing.
use Prim.Native.Nat.{ℕ}
use mathlib.Core.Path.{◌≡◌, sym, ap, ◌∙◌, subst}
use mathlib.Core.List.{List, [], ◌∷◌}
use lib.ListN.{length}
use lib.Ieee.{Float}
use Rattle.oracle.specs.Round.{Result, count}
use Rattle.original.specs.Domain.{Domain}
use Rattle.flips.specs.Whole.{mesh_of, sheet_of}
use Rattle.std.specs.Prelude.{Ok}
use Rattle.improving.specs.Improve.{Outcome, Improving, points_of, triangles_of, flips_of, improved, left_of}
use Rattle.improving.specs.Demand3.{Demand3}
use Rattle.improving.proofs.Demand3.{zero-improved, demand3}
use Rattle.lanovishel.specs.Improve.{ZeroImprove, MeetsDemand3, AsOriginal, ImproveLaws}

module _ {points₀ : List Float} {corners₀ labels₀ : List ℕ} {coefficients : List Float} {powers : List ℕ} {rounds : ℕ} {points₁ : List Float} {corners₁ labels₁ answer₁ : List ℕ}
    (c : ZeroImprove points₀ corners₀ labels₀ coefficients powers rounds points₁ corners₁ labels₁ answer₁) where
  abbrev made : Result
  made = improved points₀ corners₀ labels₀ coefficients powers rounds

  -- the outcome is that of the rounds
  outcome-is : c.call.outcome ≡ Ok (left_of made)
  outcome-is = zero-improved c.call.run (sym c.call.is)

  words_are : answer₁ ≡ count made.mesh ∷ length made.mesh.pair.tris ∷ made.flips ∷ []
  words_are = c.call.answer ∙ ap (λ (o : Outcome). points_of o ∷ triangles_of o ∷ flips_of o ∷ []) outcome-is

  met : Demand3 points₀ corners₀ labels₀ coefficients powers rounds points₁ corners₁ labels₁ (count made.mesh) (length made.mesh.pair.tris) made.flips
  met = demand3 (subst (λ (o : Outcome). Improving points₀ corners₀ labels₀ c.work₀ coefficients powers c.levels c.bounds rounds points₁ corners₁ labels₁ c.work₁ o) outcome-is c.call.run)

  meets : MeetsDemand3 points₀ corners₀ labels₀ coefficients powers rounds points₁ corners₁ labels₁ answer₁
  meets = record { points = count made.mesh; triangles = length made.mesh.pair.tris; flips = made.flips; words = words_are; demand3 = met }

  as_original : Domain (sheet_of coefficients powers) rounds (mesh_of points₀ corners₀ labels₀) → AsOriginal points₀ corners₀ labels₀ coefficients powers rounds points₁ corners₁ labels₁ answer₁
  as_original d = record { result = made; given = met.original d; holds = met.holds; words = words_are }

pub improve-laws : ImproveLaws
improve-laws = record {
  demand3 = λ points₀ corners₀ labels₀ coefficients powers rounds points₁ corners₁ labels₁ answer₁ c. meets c;
  original = λ points₀ corners₀ labels₀ coefficients powers rounds points₁ corners₁ labels₁ answer₁ c d. as_original c d;
}
