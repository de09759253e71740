-- `blank::blank` meets its contract. Assumes nothing.
use Rattle.blank.proofs.Blanking.{Blanking}
use Rattle.blank.proofs.blank.Given as goal

abbrev pub invariant-loop-k : goal.invariant-loop-k
invariant-loop-k g l = Blanking g.T.Zero.zero l.initial.list l.from l.list l.k
