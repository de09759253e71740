-- `editing::take_back_many` meets its contract: each turn takes one edit more back.
use Rattle.editing.proofs.Returned.{Going}
use Rattle.editing.proofs.take_back_many.Given as goal

abbrev pub invariant-loop-i : goal.invariant-loop-i
invariant-loop-i l = Going l.points l.initial.corners l.initial.labels l.initial.work l.initial.journal l.left.triangles l.left.edits l.count l.corners l.labels l.work l.journal l.triangles l.i
