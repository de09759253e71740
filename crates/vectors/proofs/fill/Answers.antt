-- `vectors::fill` meets its contract. The loop's invariant: the first `i` places are stored, and the others as lent. Assumes nothing.
use Prim.Native.Nat.{ℕ, ◌+◌, ◌*◌}
use mathlib.Core.Path.{ap, ◌∙◌}
use Rattle.vectors.proofs.Lists.{fill_more}
use Rattle.vectors.proofs.fill.Goals as goal

pub loop-i-preserved : goal.loop-i-preserved
loop-i-preserved g c =
    fill_more _ _ _ c.loop-i.i _ c.loop-i.list c.at.result c.loop-i.invariant c.loop-i-test.true
    (c.at.ensures ∙ ap (λ (w : ℕ). g.T.Element.stands_at c.args.text.now (c.args.from + c.loop-i.i * w)) c.WIDTH.ensures)
