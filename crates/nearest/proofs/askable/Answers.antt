-- `nearest::askable` meets its contract: each way out is a part of question 42. Assumes nothing.
use mathlib.Core.Path.{refl, sym, ◌∙◌}
use borrow.Author.Rules.{rules}
use Rattle.units.proofs.Tests.{on-units_test}
use Rattle.nearest.proofs.Questions.{not_threes, too_many, no_places, asked_units}
use Rattle.nearest.proofs.askable.Goals as goal

pub returns-then-probes-ne0 : goal.returns-then-probes-ne0
returns-then-probes-ne0 c = not_threes _ _ _ c.if-probes-ne0.true

pub returns-then-probes-gt64 : goal.returns-then-probes-gt64
returns-then-probes-gt64 c = too_many _ _ _ (search rules) c.if-probes-gt64.true

pub returns-then-words-probes : goal.returns-then-words-probes
returns-then-words-probes c = no_places _ _ _ (search rules) (search rules) c.if-words-probes.true

pub returns-then-not-on_units : goal.returns-then-not-on_units
returns-then-not-on_units c = asked_units _ _ _ (search rules) (search rules) (search rules) (sym (on-units_test _ _ c.on_units.ensures) ∙ c.if-not-on_units.true) refl

pub returns : goal.returns
returns c = asked_units _ _ _ (search rules) (search rules) (search rules) (sym (on-units_test _ _ c.on_units.ensures) ∙ c.if-not-on_units.false) (sym (on-units_test _ _ c.on_units-2.ensures))
