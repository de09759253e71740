-- `closing::stamp_origins` meets its contract: at the loop's head the corners from which u's places from p on come are stamped.
use Rattle.halfedges.specs.Place.{pv}
use Rattle.closing.proofs.Stamping.{Stamping}
use Rattle.closing.proofs.stamp_origins.Given as goal

abbrev pub invariant-loop-p : goal.invariant-loop-p
invariant-loop-p l = Stamping pv l.corners l.points l.u l.initial.work l.work l.p

abbrev pub decreases-loop-p : goal.decreases-loop-p
decreases-loop-p l = l.p
