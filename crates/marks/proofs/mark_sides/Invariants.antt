-- `marks::mark_sides` meets its contract: at the loop's head the sides of the corners below v are marked.
use Rattle.chains.proofs.SideMarks.{MarkedBelow}
use Rattle.marks.proofs.mark_sides.Given as goal

abbrev pub invariant-loop-v : goal.invariant-loop-v
invariant-loop-v l = MarkedBelow l.corners l.points l.stamps l.marks l.v l.initial.work l.work
