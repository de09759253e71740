-- `marks::apart` meets its contract: at the loop's head the places before the next have passed.
use Prim.Native.Nat.{◌-◌}
use lib.ListN.{length}
use Rattle.chains.proofs.Chain.{spot}
use Rattle.marks.proofs.Turns.{Tells}
use Rattle.marks.proofs.apart.Given as goal

abbrev pub invariant-loop-q : goal.invariant-loop-q
invariant-loop-q l = Tells l.corners l.work l.areas.stamps l.stamp l.b l.x l.y l.q

abbrev pub decreases-loop-q : goal.decreases-loop-q
decreases-loop-q l = length l.corners - spot (length l.corners) l.q
