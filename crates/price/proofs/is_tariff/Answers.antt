-- `price::is_tariff` meets its contract: each way out is a rule's. Assumes nothing.
use mathlib.Core.Path.{refl, sym, ◌∙◌}
use native.Mathlib.Omega.{arith}
use borrow.Author.Rules.{rules}
use borrow.Author.Tests.{eqb-true, eqb-false}
use Rattle.price.proofs.Rules.{no_steps, unmatched, too_many, asked}
use Rattle.price.proofs.is_tariff.Goals as goal

pub returns-then-is_empty : goal.returns-then-is_empty
returns-then-is_empty c = no_steps _ _ (eqb-true _ 0 (sym c.is_empty.ensures ∙ c.if-is_empty.true))

pub returns-then-uppers-prices : goal.returns-then-uppers-prices
returns-then-uppers-prices c = unmatched _ _ (eqb-false _ 0 (sym c.is_empty.ensures ∙ c.if-is_empty.false)) c.if-uppers-prices.true

pub returns-then-prices-gt8 : goal.returns-then-prices-gt8
returns-then-prices-gt8 c = too_many _ _ (eqb-false _ 0 (sym c.is_empty.ensures ∙ c.if-is_empty.false)) (search rules) (omega arith)

pub returns-then-not-rising : goal.returns-then-not-rising
returns-then-not-rising c =
    asked _ _ (eqb-false _ 0 (sym c.is_empty.ensures ∙ c.if-is_empty.false)) (search rules) (omega arith) (sym c.rising.ensures ∙ c.if-not-rising.true) refl

pub returns : goal.returns
returns c =
    asked _ _ (eqb-false _ 0 (sym c.is_empty.ensures ∙ c.if-is_empty.false)) (search rules) (omega arith) (sym c.rising.ensures ∙ c.if-not-rising.false) (sym c.capped.ensures)
