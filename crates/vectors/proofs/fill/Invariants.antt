-- `vectors::fill` meets its contract. The loop's invariant: the first `i` places are stored, and the others as lent. Assumes nothing.
use Rattle.vectors.proofs.Lists.{Filled}
use Rattle.vectors.proofs.fill.Given as goal

abbrev pub invariant-loop-i : goal.invariant-loop-i
invariant-loop-i g l = let e = g.T.Element in Filled (e.stands_at l.text) e.WIDTH l.from l.i l.initial.list l.list
