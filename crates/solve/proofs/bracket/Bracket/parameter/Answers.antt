-- `solve::bracket::Bracket::parameter` meets its contract: each way out is one case of `halves?`. Assumes nothing.
use mathlib.Core.Path.{◌∙◌}
use native.Mathlib.Omega.{arith}
use Rattle.field.proofs.Checks.{failed, held}
use Rattle.solve.proofs.Turns.{late, fourth, secant_not_finite, secant-low, secant-high, secant-inside}
use Rattle.solve.proofs.bracket.Bracket.parameter.Goals as goal
use Rattle.solve.proofs.bracket.Bracket.parameter.Goals.{then-round-ge12-via-then-round-ge12, then-round-ge12-via-else-round-ge12+then-round-eq3, then-not-is_finite-via-then-not-is_finite, then-not-is_finite-via-else-not-is_finite+then-s-self, then-not-is_finite-via-else-not-is_finite+else-s-self+then-s-self-2}

pub returns-then-round-ge12 : goal.returns-then-round-ge12
returns-then-round-ge12 c = elim c.then-round-ge12.branch [
  | then-round-ge12-via-then-round-ge12 w ↦ c.midway.ensures ∙ late c.args.round c.args.self (omega arith)
  | then-round-ge12-via-else-round-ge12+then-round-eq3 w ↦ c.midway.ensures ∙ fourth c.args.round c.args.self (omega arith) w.if-round-eq3.true
]

pub returns-then-not-is_finite : goal.returns-then-not-is_finite
returns-then-not-is_finite c = elim c.then-not-is_finite.branch [
  | then-not-is_finite-via-then-not-is_finite w ↦
      c.midway-then-not-is_finite.ensures ∙ secant_not_finite c.args.round c.args.self (omega arith) c.if-round-eq3.false c.secant-s.result c.secant-s.ensures
      (failed c.is_finite.ensures w.if-not-is_finite.true)
  | then-not-is_finite-via-else-not-is_finite+then-s-self w ↦
      c.midway-then-not-is_finite.ensures ∙ secant-low c.args.round c.args.self (omega arith) c.if-round-eq3.false c.secant-s.result c.secant-s.ensures
      (held c.is_finite.ensures w.if-not-is_finite.false) w.if-s-self.true
  | then-not-is_finite-via-else-not-is_finite+else-s-self+then-s-self-2 w ↦
      c.midway-then-not-is_finite.ensures ∙ secant-high c.args.round c.args.self (omega arith) c.if-round-eq3.false c.secant-s.result c.secant-s.ensures
      (held c.is_finite.ensures w.if-not-is_finite.false) w.if-s-self.false w.if-s-self-2.true
]

pub returns : goal.returns
returns c =
    secant-inside c.args.round c.args.self (omega arith) c.if-round-eq3.false c.secant-s.result c.secant-s.ensures
    (held c.is_finite.ensures c.if-not-is_finite.false) c.if-s-self.false c.if-s-self-2.false
