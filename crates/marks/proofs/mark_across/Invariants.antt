-- `marks::mark_across` meets its contract: at the loop's head the places of the corners below v are marked.
use Rattle.chains.specs.AcrossMarks.{AcrossBelow}
use Rattle.marks.proofs.mark_across.Given as goal

abbrev pub invariant-loop-v : goal.invariant-loop-v
invariant-loop-v l = AcrossBelow l.corners l.points l.stamps l.marks l.v l.initial.work l.work
