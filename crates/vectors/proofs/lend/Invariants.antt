-- `vectors::lend` meets its contract. The loop's invariant: the first `i` places are stored, and the others as lent. Assumes nothing.
use Rattle.vectors.specs.Words.{lent_at}
use Rattle.vectors.proofs.Lists.{Filled}
use Rattle.vectors.proofs.lend.Given as goal

abbrev pub invariant-loop-i : goal.invariant-loop-i
invariant-loop-i l = Filled lent_at 1 0 l.i l.initial.list l.list
