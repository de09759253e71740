-- `slivers::Pass::try_places` meets its contract: at the loop's head the triangles of the places before the next are tried.
use Prim.Native.Nat.{◌-◌}
use lib.ListN.{length}
use Rattle.chains.proofs.Chain.{spot}
use Rattle.slivers.specs.Ready.{scene_of}
use Rattle.slivers.proofs.Turns.{Trying}
use Rattle.slivers.proofs.Pass.try_places.Given as goal

abbrev pub invariant-loop-q : goal.invariant-loop-q
invariant-loop-q l = Trying (scene_of l.self) l.self.corners.now l.self.labels.now l.way.keep l.way.remove l.q l.least

abbrev pub decreases-loop-q : goal.decreases-loop-q
decreases-loop-q l = length l.self.corners.now - spot (length l.self.corners.now) l.q
