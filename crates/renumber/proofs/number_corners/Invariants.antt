-- `renumber::number_corners` meets its contract. Assumes nothing.
use Rattle.renumber.proofs.Numbering.{Numbering}
use Rattle.renumber.proofs.number_corners.Given as goal

abbrev pub invariant-loop-k : goal.invariant-loop-k
invariant-loop-k l = Numbering l.initial.points l.initial.corners l.initial.work l.numbers l.points l.corners l.work l.k l.met
