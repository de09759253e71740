-- `collapsing::number_from` meets its contract.
use Prim.Native.Nat.{ℕ}
use mathlib.Core.Path.{◌≡◌}
use lib.ListN.{length}
use Rattle.scores.specs.Measures.{Filled}
use Rattle.collapsing.proofs.number_from.Given as goal

abbrev pub invariant-loop-v : goal.invariant-loop-v
invariant-loop-v l = (length l.work ≡ length l.initial.work) × Filled (λ (i : ℕ). i) l.from l.initial.work l.work l.v
