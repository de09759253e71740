-- `renumber::drop_gone` meets its contract. Assumes nothing.
use Rattle.renumber.proofs.Dropping.{Dropping}
use Rattle.renumber.proofs.drop_gone.Given as goal

abbrev pub invariant-loop-i : goal.invariant-loop-i
invariant-loop-i l = Dropping l.initial.corners l.initial.labels l.work l.into l.gone l.corners l.labels l.i l.q
