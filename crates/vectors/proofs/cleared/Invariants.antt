-- `vectors::cleared` meets its contract. The loop's invariant: the first `i` are as they must be. Assumes nothing.
use Rattle.vectors.specs.Words.{left_at}
use Rattle.vectors.proofs.Lists.{Agrees}
use Rattle.vectors.proofs.cleared.Given as goal

abbrev pub invariant-loop-i : goal.invariant-loop-i
invariant-loop-i l = Agrees (left_at l.n) 1 0 l.i l.list
