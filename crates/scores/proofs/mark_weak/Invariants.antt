-- `scores::mark_weak` meets its contract. Assumes nothing.
use Prim.Native.Nat.{ℕ, ◌≤◌}
use mathlib.Core.Path.{◌≡◌}
use lib.ListN.{length}
use Rattle.surface.specs.Closed.{one}
use Rattle.oracle.specs.Scene.{scene}
use Rattle.scores.specs.Measures.{weak_at, Filled}
use Rattle.scores.proofs.mark_weak.Given as goal

abbrev pub invariant-loop-i : goal.invariant-loop-i
invariant-loop-i l = (l.i ≤ length l.labels) × (length l.work ≡ length l.initial.work) × Filled (λ (k : ℕ). one (weak_at (scene l.points l.terms.coefficients.now l.terms.powers.now) l.corners l.labels k)) l.marks l.initial.work l.work l.i
