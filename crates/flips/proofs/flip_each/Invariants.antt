-- `flips::flip_each` meets its contract. Assumes nothing.
use Rattle.oracle.specs.Scene.{scene}
use Rattle.flips.proofs.Turns.{Flipping}
use Rattle.flips.proofs.flip_each.Given as goal

abbrev pub invariant-loop-i : goal.invariant-loop-i
invariant-loop-i l =
    Flipping (scene l.points l.terms.coefficients.now l.terms.powers.now) l.initial.corners l.labels l.areas.heads l.initial.work l.areas.touched l.areas.sides l.count l.corners l.work l.i l.flips
