-- The last sentence of demand 3 (document 01, "Entry and journal"), of a whole call of `improve`, and that the call does what the Rust does; `demand3` of proofs/Demand3 proves it of every call that is let in. With `demand3` of `editing` demand 3 is complete. Definitions only.
use Rattle.std.specs.Prelude.{ℕ, ◌/◌, ◌≤◌, ◌≡◌, false, List, length, Float}
use Rattle.questions.specs.Labels.{opposed}
use Rattle.oracle.specs.Round.{count}
use Rattle.oracle.specs.Safe.{AtMost, SafeAfter}
use Rattle.original.specs.Flip.{done}
use Rattle.original.specs.Improve.{improve}
use Rattle.original.specs.Domain.{Domain}
use Rattle.flips.specs.Whole.{mesh_of, sheet_of}
use Rattle.improving.specs.Rounded.{Holds}
use Rattle.improving.specs.Improve.{improved}

pub record Demand3 (points₀ : List Float) (corners₀ labels₀ : List ℕ) (coefficients : List Float) (powers : List ℕ) (n : ℕ) (points₁ : List Float) (corners₁ labels₁ : List ℕ) (p t k : ℕ) : Type 0 where
  -- After every number i of rounds the surface is closed, (a) to (d), and has the Euler number that it began with; and the next round is a list of collapses, all accepted by a history begun from the lists that it meets,
  -- a renumbering, one to one on the corners in use, each with its point, and a list of flips, all accepted by a second history, whose last pair is what the round leaves.
  pub safe : (i : ℕ) → SafeAfter (sheet_of coefficients powers) (mesh_of points₀ corners₀ labels₀) i
  -- The lent lists are what n such rounds leave, then 0.
  pub holds : Holds (improved points₀ corners₀ labels₀ coefficients powers n).mesh points₀ corners₀ labels₀ points₁ corners₁ labels₁
  -- Points left, triangles left and flips are theirs; there are no more points and triangles than were lent.
  pub points : p ≡ count (improved points₀ corners₀ labels₀ coefficients powers n).mesh
  pub triangles : t ≡ length (improved points₀ corners₀ labels₀ coefficients powers n).mesh.pair.tris
  pub flips : k ≡ (improved points₀ corners₀ labels₀ coefficients powers n).flips
  pub no_more-points : p ≤ length points₀ / 3
  pub no_more-triangles : t ≤ length labels₀
  -- After every number i of rounds labels are at most 7, and no corner carries both 0 and 1, 2 and 3, 4 and 5, or 6 and 7.
  pub known : (i : ℕ) → AtMost 7 (improved points₀ corners₀ labels₀ coefficients powers i).mesh.pair.labels
  pub unopposed : (i v : ℕ) → opposed (improved points₀ corners₀ labels₀ coefficients powers i).mesh.pair.tris (improved points₀ corners₀ labels₀ coefficients powers i).mesh.pair.labels v ≡ false
  -- Within document 01's domain the Rust's `improve`, written down in crate original, gives no Err and makes of the surface what we make of it, with as many edits.
  pub original : Domain (sheet_of coefficients powers) n (mesh_of points₀ corners₀ labels₀) → improve (sheet_of coefficients powers) n (mesh_of points₀ corners₀ labels₀) ≡ done (improved points₀ corners₀ labels₀ coefficients powers n)
