-- `verdicts::survey` meets its contract: each turn is one of `Surveying`.
use Rattle.verdicts.proofs.Surveying.{Surveying}
use lib.ListN.{length}
use Rattle.verdicts.proofs.Triangles.survey.Given as goal

abbrev pub invariant-loop-i : goal.invariant-loop-i
invariant-loop-i l = Surveying l.self.corners.now l.labels l.self.count l.a l.b (length l.initial.notes) l.i l.kept l.removed l.notes
