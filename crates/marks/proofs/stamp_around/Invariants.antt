-- `marks::stamp_around` meets its contract: at the loop's head the walk has come to the places before the next.
use Prim.Native.Nat.{◌-◌}
use lib.ListN.{length}
use Rattle.chains.proofs.Chain.{spot}
use Rattle.marks.proofs.Turns.{Walks}
use Rattle.marks.proofs.stamp_around.Given as goal

abbrev pub invariant-loop-q : goal.invariant-loop-q
invariant-loop-q l = Walks l.corners l.v l.q l.initial.work l.work l.areas.stamps

abbrev pub decreases-loop-q : goal.decreases-loop-q
decreases-loop-q l = length l.corners - spot (length l.corners) l.q
