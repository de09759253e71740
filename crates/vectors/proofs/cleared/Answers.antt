-- `vectors::cleared` meets its contract. The loop's invariant: the first `i` are as they must be. Assumes nothing.
use Prim.Native.Nat.{◌+◌, ◌*◌}
use mathlib.Core.Path.{◌≡◌, sym, ap, ◌∙◌}
use mathlib.Core.Bool.{false≢true}
use native.Mathlib.Omega.{arith}
use Rattle.vectors.specs.Words.{left_at}
use Rattle.vectors.proofs.Lists.{at_place}
use Rattle.vectors.proofs.cleared.Goals as goal

pub returns-then-x-left : goal.returns-then-x-left
returns-then-x-left c =
    let e : c.loop-i.i ≡ 0 + c.loop-i.i * 1 = omega arith in (
      λ h. absurd (false≢true h),
      λ h. absurd (c.if-x-left.true (at_place (left_at c.args.n) 1 0 c.loop-i.i c.args.list.now 0 c.loop-i-test.true h ∙ sym (c.left.ensures ∙ ap (left_at c.args.n) e))),
    )
