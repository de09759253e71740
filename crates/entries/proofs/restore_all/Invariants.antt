use Rattle.entries.proofs.Mapped.{Mapping}
use Rattle.entries.specs.Marks.{restored_by}
use Rattle.entries.proofs.restore_all.Given as goal

abbrev pub invariant-loop-i : goal.invariant-loop-i
invariant-loop-i l = Mapping (restored_by l.points l.notes l.a l.b) l.n l.i l.initial.corners l.corners
