-- `nearest::pass` meets its contract: at the loop's head the best of the corners below v is kept.
use mathlib.Core.Path.{◌≡◌}
use lib.ListN.{length}
use Rattle.nearest.specs.Stages.{Laid, BestsKept}
use Rattle.nearest.proofs.pass.Given as goal

abbrev pub invariant-loop-v : goal.invariant-loop-v
invariant-loop-v l = (Laid l.points l.work l.probes l.initial.bests) × (length l.bests ≡ length l.initial.bests) × (BestsKept l.points l.work l.probes l.v l.bests)
