-- `questions::mark_labels` meets its contract: at the loop's head the places passed are marked, and none of them clash.
use Rattle.questions.proofs.Marks.{Marking}
use Rattle.questions.proofs.mark_labels.Given as goal

abbrev pub invariant-loop-k : goal.invariant-loop-k
invariant-loop-k l = Marking l.corners l.labels l.points l.initial.work l.work l.k
