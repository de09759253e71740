-- `editing::run` meets its contract: after i turns the lists hold the history after i entries.
use Rattle.editing.proofs.Running.{Running}
use Rattle.editing.proofs.run.Given as goal

abbrev pub invariant-loop-i : goal.invariant-loop-i
invariant-loop-i l = Running l.points l.initial.corners l.initial.labels l.initial.work l.entries l.initial.verdicts l.initial.journal l.corners l.labels l.work l.verdicts l.journal l.left.triangles l.left.edits l.i
