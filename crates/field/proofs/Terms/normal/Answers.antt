-- `field::Terms::normal` meets its contract, by those of the functions that it calls. Assumes nothing.
use mathlib.Core.Path.{ap, ◌∙◌}
use native.Mathlib.Omega.{arith}
use Rattle.float.specs.declared.Point.{Point}
use Rattle.field.specs.Number.{one, minus_one}
use Rattle.field.specs.Sheet.{stretched, unit}
use Rattle.field.proofs.Sums.{normal-upper, normal-lower, normal-wall}
use Rattle.field.proofs.Terms.normal.Goals as goal

pub returns-in-0 : goal.returns-in-0
returns-in-0 c =
    let s = c.args.self.now in
    c.stretched.ensures
    ∙ ap (λ (v : Point). stretched v one) (c.unit.ensures ∙ ap unit c.gradient.ensures)
    ∙ normal-upper s.coefficients.now s.powers.now c.args.p c.args.label c.in-0.is

pub returns-in-1 : goal.returns-in-1
returns-in-1 c =
    let s = c.args.self.now in
    c.stretched-in-1.ensures
    ∙ ap (λ (v : Point). stretched v minus_one) (c.unit-in-1.ensures ∙ ap unit c.gradient-in-1.ensures)
    ∙ normal-lower s.coefficients.now s.powers.now c.args.p c.args.label c.in-1.is

pub returns-in_default : goal.returns-in_default
returns-in_default c =
    let s = c.args.self.now in
    c.wall.ensures ∙ normal-wall s.coefficients.now s.powers.now c.args.p c.args.label (omega arith)
