-- `outlines::follow_on` meets its contract: at the loop's head what is left to visit is the rest of the loop.
use Prim.Native.Nat.{◌/◌}
use lib.ListN.{length}
use Rattle.outlines.proofs.Following.{Following}
use Rattle.outlines.proofs.follow_on.Given as goal

abbrev pub invariant-loop-f : goal.invariant-loop-f
invariant-loop-f l = Following l.surface.corners.now l.surface.points l.initial.work l.initial.places l.start l.k l.filled (length l.initial.places / 3) l.number l.work l.places l.at l.f
