-- `slivers::Pass::touch_around` meets its contract: at the loop's head the work words are those of the walk up to the next place.
use Prim.Native.Nat.{◌-◌}
use lib.ListN.{length}
use Rattle.chains.proofs.Chain.{spot}
use Rattle.slivers.proofs.Turns.{Touches}
use Rattle.slivers.proofs.Pass.touch_around.Given as goal

abbrev pub invariant-loop-q : goal.invariant-loop-q
invariant-loop-q l = Touches l.self.corners.now l.v l.q l.initial.work l.work l.self.touched

abbrev pub decreases-loop-q : goal.decreases-loop-q
decreases-loop-q l = length l.self.corners.now - spot (length l.self.corners.now) l.q
