-- `blank::blank` meets its contract. Assumes nothing.
use Rattle.blank.proofs.Blanking.{blank_starts, blank_turn, blank-ends}
use Rattle.blank.proofs.blank.Goals as goal

pub loop-k-init : goal.loop-k-init
loop-k-init g c = blank_starts g.T.Zero.zero _ _ c.requires

pub loop-k-preserved : goal.loop-k-preserved
loop-k-preserved g c = rw c.zero.ensures (blank_turn g.T.Zero.zero _ _ _ _ c.loop-k.invariant c.loop-k-test.true)

pub returns : goal.returns
returns g c = blank-ends g.T.Zero.zero _ _ _ _ c.loop-k.invariant c.loop-k-test.false
