-- `nearest::later` meets its contract: each way out is a question (`proofs/Questions`). Assumes nothing.
use mathlib.Core.Path.{sym, ◌∙◌}
use Rattle.nearest.proofs.Questions.{at_five, at_last, at_end}
use Rattle.nearest.proofs.later.Goals as goal

pub returns-then-not-corners_listed : goal.returns-then-not-corners_listed
returns-then-not-corners_listed c = at_five _ _ _ _ (sym c.corners_listed.ensures ∙ c.if-not-corners_listed.true)

pub returns-then-not-askable : goal.returns-then-not-askable
returns-then-not-askable c = at_last _ _ _ _ (sym c.corners_listed.ensures ∙ c.if-not-corners_listed.false) (sym c.askable.ensures ∙ c.if-not-askable.true)

pub returns : goal.returns
returns c = at_end _ _ _ _ (sym c.corners_listed.ensures ∙ c.if-not-corners_listed.false) (sym c.askable.ensures ∙ c.if-not-askable.false)
