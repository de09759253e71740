-- `marks::mark_labels` meets its contract: at the loop's head the labels of the places below k are marked.
use Prim.Native.Nat.{◌*◌}
use Rattle.halfedges.specs.Free.{Free}
use Rattle.chains.proofs.LabelMarks.{Carrying}
use Rattle.marks.proofs.mark_labels.Given as goal

abbrev pub invariant-loop-k : goal.invariant-loop-k
invariant-loop-k l = record { free : Free 0 (l.points * 8) l.initial.work l.work; carrying : Carrying l.corners l.labels l.points l.work l.k }
