-- `improving::rounds` meets its contract: after r turns the lists hold what r rounds make.
use native.Mathlib.Omega.{arith}
use Rattle.improving.proofs.Running.{running, running_handed, running_on, ran}
use Rattle.improving.proofs.rounds.Goals as goal

pub loop-init : goal.loop-init
loop-init c = running c.args.terms.now.coefficients.now c.args.terms.now.powers.now c.requires.improvable c.requires.count_bound

pub round-next-requires : goal.round-next-requires
round-next-requires c = running_handed c.loop.invariant

pub loop-preserved : goal.loop-preserved
loop-preserved c =
    running_on c.loop.invariant c.round-next.ensures (omega arith) c.round-next.auto.points c.round-next.auto.corners c.round-next.auto.labels c.round-next.auto.work

pub returns : goal.returns
returns c = ran c.loop.invariant (omega arith)
