-- `improving::rounds` meets its contract: after r turns the lists hold what r rounds make.
use Rattle.improving.proofs.Running.{Running}
use Rattle.improving.proofs.rounds.Given as goal

abbrev pub invariant-loop : goal.invariant-loop
invariant-loop l = Running l.initial.points l.initial.corners l.initial.labels l.initial.work l.terms.coefficients.now l.terms.powers.now l.count l.points l.corners l.labels l.work l.left.points l.left.triangles l.left.flips l.counter
