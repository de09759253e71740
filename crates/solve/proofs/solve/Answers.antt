-- `solve::solve` meets its contract: each way out is one case of the definition. Assumes nothing.
use mathlib.Core.Path.{ap, ◌∙◌}
use lib.Ieee.{Float}
use Rattle.float.specs.Point.{less}
use Rattle.field.proofs.Checks.{failed, held}
use Rattle.lattice.specs.Values.{tolerance}
use Rattle.solve.specs.Solve.{residual, from_round, first_bracket}
use Rattle.solve.proofs.Turns.{first_not_finite, second_not_finite, first_on, second-on, in_rounds}
use Rattle.solve.proofs.solve.Goals as goal
use Rattle.solve.proofs.solve.Goals.{then-not-is_finite-via-then-not-is_finite, then-not-is_finite-via-else-not-is_finite+then-not-is_finite-2}

pub returns-then-not-is_finite : goal.returns-then-not-is_finite
returns-then-not-is_finite c =
    let a = c.args in
    let field = residual a.terms.now.coefficients.now a.terms.now.powers.now a.a a.b a.level in
    elim c.then-not-is_finite.branch [
      | then-not-is_finite-via-then-not-is_finite w ↦ first_not_finite field a.level (less a.first a.level) (less a.second a.level) (failed c.is_finite.ensures w.if-not-is_finite.true)
      | then-not-is_finite-via-else-not-is_finite+then-not-is_finite-2 w ↦ second_not_finite field a.level (less a.first a.level) (less a.second a.level) (held c.is_finite.ensures w.if-not-is_finite.false) (failed w.is_finite-else-not-is_finite.ensures w.if-not-is_finite-2.true)
    ]

pub returns-then-va : goal.returns-then-va
returns-then-va c =
    let a = c.args in
    let field = residual a.terms.now.coefficients.now a.terms.now.powers.now a.a a.b a.level in
    first_on field a.level (less a.first a.level) (less a.second a.level) (held c.is_finite.ensures c.if-not-is_finite.false) (held c.is_finite-else-not-is_finite.ensures c.if-not-is_finite-2.false) c.if-va.true

pub returns-then-vb : goal.returns-then-vb
returns-then-vb c =
    let a = c.args in
    let field = residual a.terms.now.coefficients.now a.terms.now.powers.now a.a a.b a.level in
    second-on field a.level (less a.first a.level) (less a.second a.level) (held c.is_finite.ensures c.if-not-is_finite.false) (held c.is_finite-else-not-is_finite.ensures c.if-not-is_finite-2.false) c.if-va.false c.if-vb.true

pub returns : goal.returns
returns c =
    let a = c.args in
    let field = residual a.terms.now.coefficients.now a.terms.now.powers.now a.a a.b a.level in
    c.take_rounds.ensures
    ∙ ap (λ (limit : Float). from_round field limit (less a.first a.level) 52 0 (first_bracket (less a.first a.level) (less a.second a.level))) (c.tolerance-limit.ensures ∙ ap tolerance c.edge_scale.ensures)
    ∙ in_rounds field a.level (less a.first a.level) (less a.second a.level) (held c.is_finite.ensures c.if-not-is_finite.false) (held c.is_finite-else-not-is_finite.ensures c.if-not-is_finite-2.false) c.if-va.false c.if-vb.false
