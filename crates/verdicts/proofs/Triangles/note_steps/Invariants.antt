use Rattle.verdicts.proofs.Notes.{Noting}
use Rattle.surface.specs.Flat.{held}
use lib.ListN.{length}
use Prim.Native.Nat.{◌≤◌}
use Rattle.verdicts.proofs.Triangles.note_steps.Given as goal

abbrev pub invariant-loop-i : goal.invariant-loop-i
invariant-loop-i l = (l.i ≤ l.self.count) × Noting (held l.self.corners.now l.self.count) l.a (length l.initial.notes) l.i l.notes
