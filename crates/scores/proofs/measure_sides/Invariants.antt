-- `scores::measure_sides` meets its contract. Assumes nothing.
use Rattle.scores.proofs.Turns.{Measuring}
use Rattle.scores.proofs.measure_sides.Given as goal

abbrev pub invariant-loop-i : goal.invariant-loop-i
invariant-loop-i l = Measuring l.points l.corners l.initial.work l.work l.sides l.count l.keys l.i l.sum
