use Rattle.entries.proofs.Marks.{Walking}
use Rattle.surface.specs.Flat.{held}
use Rattle.surface.specs.Closed.{around}
use lib.ListN.{length}
use Prim.Native.Nat.{◌-◌}
use Rattle.entries.proofs.mark_walk.Given as goal

abbrev pub invariant-loop-z : goal.invariant-loop-z
invariant-loop-z l = Walking (held l.corners l.n) l.a l.x l.y l.points l.notes l.z l.k

abbrev pub decreases-loop-z : goal.decreases-loop-z
decreases-loop-z l = length (around (held l.corners l.n) l.a) - l.k
