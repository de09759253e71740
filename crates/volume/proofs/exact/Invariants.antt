-- `volume::exact` meets its contract: the two words hold the shares of the triangles before number i.
use Prim.Native.Nat.{◌*◌}
use Rattle.volume.specs.Exact.{Measurable}
use Rattle.volume.proofs.Words.{Summing}
use Rattle.volume.proofs.exact.Given as goal

abbrev pub invariant-loop-i : goal.invariant-loop-i
invariant-loop-i l = (Measurable l.points l.corners) × (Summing l.points l.corners l.high l.low (3 * l.i))
