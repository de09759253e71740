-- `price::price` meets its contract: what checking refused, question 47, or the price of the exact volume.
use Prim.Native.Nat.{ℕ, ◌≤◌}
use mathlib.Core.Path.{sym, ap, ◌∙◌, subst}
use lib.IntN.{ℤ}
use Rattle.units.proofs.Tests.{all-on-units_iff, on-units_test}
use Rattle.questions.proofs.Telling.{handed_on}
use Rattle.price.specs.Price.{started, amount}
use Rattle.price.specs.Stages.{by_cubes}
use Rattle.price.proofs.Steps.{in_cubes}
use Rattle.price.proofs.Size.{few-started}
use Rattle.price.proofs.Rules.{tariff_iff}
use Rattle.price.proofs.Answers.{at-refused, measured, at-points, at-tariff, at_price}
use Rattle.price.proofs.price.Goals as goal

pub returns-in_err-validate : goal.returns-in_err-validate
returns-in_err-validate c = rw (handed_on c.from_residual.result c.from_residual.ensures.1) (at-refused _ _ _ _ _ _ c.validate.ensures _ c.in_err-validate.was)

pub returns-then-not-on_units : goal.returns-then-not-on_units
returns-then-not-on_units c = at-points _ _ _ _ _ _ c.validate.ensures _ c.in_ok-validate.was (sym (on-units_test _ _ c.on_units.ensures) ∙ c.if-not-on_units.true)

pub returns-then-not-is_tariff : goal.returns-then-not-is_tariff
returns-then-not-is_tariff c =
    at-tariff _ _ _ _ _ _ c.validate.ensures _ c.in_ok-validate.was ((all-on-units_iff _).1 (c.on_units.ensures.0 c.if-not-on_units.false)) (sym c.is_tariff.ensures ∙ c.if-not-is_tariff.true)

pub exact-requires : goal.exact-requires
exact-requires c = measured _ _ _ _ c.args.uppers.now c.args.prices.now c.validate.ensures _ c.in_ok-validate.was (c.on_units.ensures.0 c.if-not-on_units.false)

pub cost-requires : goal.cost-requires
cost-requires c = record {
  tariff = (tariff_iff _ _).0 (sym c.is_tariff.ensures ∙ c.if-not-is_tariff.false);
  few = subst (λ (n : ℕ). n ≤ 8589934592) (sym (c.started_cubes-cubes.ensures ∙ ap (λ (s : ℤ). started (amount s)) c.exact.ensures.same))
      (few-started _ _ (measured _ _ _ _ c.args.uppers.now c.args.prices.now c.validate.ensures _ c.in_ok-validate.was (c.on_units.ensures.0 c.if-not-on_units.false)));
}

pub returns : goal.returns
returns c =
    let us = c.args.uppers.now in
    let ps = c.args.prices.now in
    at_price _ _ _ _ us ps c.validate.ensures _ c.in_ok-validate.was ((all-on-units_iff _).1 (c.on_units.ensures.0 c.if-not-on_units.false)) (sym c.is_tariff.ensures ∙ c.if-not-is_tariff.false) _
    (c.cost.ensures ∙ ap (λ (n : ℕ). by_cubes n 0 us ps) (c.started_cubes-cubes.ensures ∙ ap (λ (s : ℤ). started (amount s)) c.exact.ensures.same) ∙ sym (in_cubes _ 0 us ps))
