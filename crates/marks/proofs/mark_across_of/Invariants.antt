-- `marks::mark_across_of` meets its contract: at the loop's head the places of v before the next are marked.
use Prim.Native.Nat.{◌-◌}
use lib.ListN.{length}
use Rattle.chains.proofs.Chain.{spot}
use Rattle.marks.proofs.Turns.{Acrossing}
use Rattle.marks.proofs.mark_across_of.Given as goal

abbrev pub invariant-loop-q : goal.invariant-loop-q
invariant-loop-q l = Acrossing l.corners l.areas.points l.areas.marks l.v l.q l.initial.work l.work

abbrev pub decreases-loop-q : goal.decreases-loop-q
decreases-loop-q l = length l.corners - spot (length l.corners) l.q
