-- `vectors::lend` meets its contract. The loop's invariant: the first `i` places are stored, and the others as lent. Assumes nothing.
use Prim.Native.Nat.{◌+◌, ◌*◌}
use native.Mathlib.Omega.{arith}
use mathlib.Core.Path.{◌≡◌, ap, ◌∙◌}
use Rattle.vectors.specs.Words.{lent_at}
use Rattle.vectors.proofs.Lists.{fill_more}
use Rattle.vectors.proofs.lend.Goals as goal

pub loop-i-preserved : goal.loop-i-preserved
loop-i-preserved c = let e : c.loop-i.i ≡ 0 + c.loop-i.i * 1 = omega arith in fill_more _ _ _ c.loop-i.i _ c.loop-i.list c.lent.result c.loop-i.invariant c.loop-i-test.true (c.lent.ensures ∙ ap lent_at e)
