-- `vectors::is_at` meets its contract. The loop's invariant: the first `i` are as they must be. Assumes nothing.
use Prim.Native.Nat.{◌+◌}
use Rattle.vectors.proofs.Lists.{Agrees}
use Rattle.vectors.proofs.is_at.Given as goal

abbrev pub invariant-loop-i : goal.invariant-loop-i
invariant-loop-i g l = let e = g.T.Element in Agrees (e.stands_at l.text) e.WIDTH (l.k + 1) l.i l.list
