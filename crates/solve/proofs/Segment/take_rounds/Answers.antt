-- `solve::Segment::take_rounds` meets its contract: what the rounds that are left make of the bracket is what all rounds make of the first one. Assumes nothing.
use mathlib.Core.Path.{sym, ap, ◌∙◌}
use Prim.Native.Nat.{◌+◌}
use native.Mathlib.Omega.{arith}
use lib.Ieee as Ieee
use lib.Ieee.{Float}
use Rattle.field.proofs.Checks.{failed, held}
use Rattle.solve.specs.Solve.{residual}
use Rattle.solve.proofs.Turns.{onward, begins, turn_not_finite, turn_found, turn_again, turn_last}
use Rattle.solve.proofs.Segment.take_rounds.Goals as goal

pub loop-round-init : goal.loop-round-init
loop-round-init c =
    let s = c.args.self.now in
    begins (residual s.terms.now.coefficients.now s.terms.now.powers.now s.a s.b s.level) c.args.limit c.args.first.flo c.args.first

pub returns-then-not-is_finite : goal.returns-then-not-is_finite
returns-then-not-is_finite c =
    let s = c.args.self.now in
    let field = residual s.terms.now.coefficients.now s.terms.now.powers.now s.a s.b s.level in
    sym (turn_not_finite field c.args.limit c.args.first.flo c.loop-round.round c.loop-round.k c.parameter-t.result c.residual-v.result c.loop-round-test.true c.parameter-t.ensures c.residual-v.ensures
    (failed c.is_finite.ensures c.if-not-is_finite.true))
    ∙ c.loop-round.invariant

pub returns-then-abs-limit : goal.returns-then-abs-limit
returns-then-abs-limit c =
    let s = c.args.self.now in
    let field = residual s.terms.now.coefficients.now s.terms.now.powers.now s.a s.b s.level in
    sym (turn_found field c.args.limit c.args.first.flo c.loop-round.round c.loop-round.k c.parameter-t.result c.residual-v.result c.loop-round-test.true c.parameter-t.ensures c.residual-v.ensures
    (held c.is_finite.ensures c.if-not-is_finite.false) (ap (λ (x : Float). Ieee.le x c.args.limit) (sym c.abs.ensures.value) ∙ c.if-abs-limit.true))
    ∙ c.loop-round.invariant

pub loop-round-preserved : goal.loop-round-preserved
loop-round-preserved c =
    let s = c.args.self.now in
    let field = residual s.terms.now.coefficients.now s.terms.now.powers.now s.a s.b s.level in
    ap (onward field c.args.limit c.args.first.flo (c.loop-round.round + 1)) c.narrowed-k.ensures
    ∙ sym (turn_again field c.args.limit c.args.first.flo c.loop-round.round c.loop-round.k c.parameter-t.result c.residual-v.result c.loop-round-test.true c.parameter-t.ensures c.residual-v.ensures
    (held c.is_finite.ensures c.if-not-is_finite.false) (ap (λ (x : Float). Ieee.le x c.args.limit) (sym c.abs.ensures.value) ∙ c.if-abs-limit.false))
    ∙ c.loop-round.invariant

pub returns : goal.returns
returns c =
    let s = c.args.self.now in
    let field = residual s.terms.now.coefficients.now s.terms.now.powers.now s.a s.b s.level in
    sym (turn_last field c.args.limit c.args.first.flo c.loop-round.round c.loop-round.k c.midway.result (omega arith) c.midway.ensures) ∙ c.loop-round.invariant
