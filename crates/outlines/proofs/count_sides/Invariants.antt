-- `outlines::count_sides` meets its contract: at the loop's head the open ones of the first i sides are counted.
use Rattle.outlines.proofs.Preparing.{Counting}
use Rattle.outlines.proofs.count_sides.Given as goal

abbrev pub invariant-loop-i : goal.invariant-loop-i
invariant-loop-i l = Counting l.surface.corners.now l.surface.points l.work l.count l.i l.n
