-- `flips::keep_scores` meets its contract. Assumes nothing.
use Prim.Native.Nat.{◌≤◌}
use mathlib.Core.Path.{◌≡◌}
use lib.ListN.{length}
use Rattle.oracle.specs.Scene.{scene}
use Rattle.flips.specs.Quads.{Shaped}
use Rattle.flips.proofs.keep_scores.Given as goal

abbrev pub invariant-loop-i : goal.invariant-loop-i
invariant-loop-i l = (l.i ≤ length l.labels) × (length l.work ≡ length l.initial.work) × Shaped (scene l.points l.terms.coefficients.now l.terms.powers.now) l.corners l.labels l.kept l.initial.work l.work l.i
