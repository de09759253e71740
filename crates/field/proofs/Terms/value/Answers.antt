-- `field::Terms::value` meets its contract. After t turns the sum is that of the first t terms. Assumes nothing.
use mathlib.Core.Path.{◌≡◌, ap, ◌∙◌}
use Prim.Native.Nat.{ℕ}
use native.Mathlib.Omega.{arith}
use Rattle.field.specs.Sheet.{terms, value_sum}
use Rattle.field.proofs.Sums.{value_none, value-step}
use Rattle.field.proofs.Terms.value.Goals as goal

pub loop-t-init : goal.loop-t-init
loop-t-init c = (c.count-t-end.ensures, value_none _ _ _)

pub loop-t-preserved : goal.loop-t-preserved
loop-t-preserved c =
    let s = c.args.self.now in
    let m = c.term.result in
    let e = c.term.ensures in
    (c.loop-t.invariant.0, value-step c.loop-t.t s.coefficients.now s.powers.now c.args.p m.q m.i m.j m.k e.q e.i e.j e.k c.loop-t.sum c.value-sum.result c.loop-t.invariant.1 c.value-sum.ensures)

pub returns : goal.returns
returns c =
    let s = c.args.self.now in
    let e : c.loop-t.t ≡ terms s.coefficients.now s.powers.now = omega arith in
    c.loop-t.invariant.1 ∙ ap (λ (n : ℕ). value_sum n s.coefficients.now s.powers.now c.args.p) e
