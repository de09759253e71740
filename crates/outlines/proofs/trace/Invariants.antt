-- `outlines::trace` meets its contract: at the loop's head what is left to do are the sides from i on.
use Prim.Native.Nat.{◌/◌}
use lib.ListN.{length}
use Rattle.outlines.specs.Stages.Trace.{Arranged}
use Rattle.outlines.proofs.Tracing.{Tracing}
use Rattle.outlines.proofs.trace.Given as goal

abbrev pub invariant-loop-i : goal.invariant-loop-i
invariant-loop-i l = (a : Arranged l.surface.corners.now l.surface.points l.initial.work l.count) → Tracing l.surface.corners.now l.surface.points (length l.initial.places / 3) l.initial.work l.initial.places l.count a l.work l.places l.i l.filled l.number
