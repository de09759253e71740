-- `vectors::is_at` meets its contract. The loop's invariant: the first `i` are as they must be. Assumes nothing.
use Prim.Native.Nat.{ℕ, ◌+◌, ◌*◌}
use mathlib.Core.Path.{sym, ap, ◌∙◌}
use mathlib.Core.Bool.{true≢false}
use Rattle.vectors.proofs.Lists.{other_element}
use Rattle.vectors.proofs.is_at.Goals as goal

pub returns-then-not-same : goal.returns-then-not-same
returns-then-not-same g c =
    let wanted = c.at.ensures ∙ ap (λ (w : ℕ). g.T.Element.stands_at c.args.text.now (c.args.k + 1 + c.loop-i.i * w)) c.WIDTH.ensures in
    other_element _ _ _ _ _ c.loop-i.i c.index-list-i.result c.loop-i-test.true
    (λ e. true≢false (sym (c.same.ensures.1 (c.index-list-i.is ∙ e ∙ sym wanted)) ∙ c.if-not-same.true))
