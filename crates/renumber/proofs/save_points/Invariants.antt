-- `renumber::save_points` meets its contract. Assumes nothing.
use Rattle.renumber.proofs.Saving.{Saving}
use Rattle.renumber.proofs.save_points.Given as goal

abbrev pub invariant-loop-k : goal.invariant-loop-k
invariant-loop-k l = Saving l.points l.initial.work l.work l.saved l.k
