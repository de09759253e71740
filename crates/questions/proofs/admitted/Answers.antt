-- `questions::admitted` meets its contract: questions 1 to 4, then the others.
use mathlib.Core.Path.{sym, ◌∙◌}
use Rattle.questions.proofs.Telling.{handed_on}
use Rattle.questions.proofs.Counted.{lent-passed}
use Rattle.questions.proofs.Chain.{sized, sized-again, after-four, at_first}
use Rattle.questions.proofs.admitted.Goals as goal

pub returns-in_err-lent : goal.returns-in_err-lent
returns-in_err-lent c = rw (handed_on c.from_residual.result c.from_residual.ensures.1) (at_first _ _ _ _ c.lent.ensures c.in_err-lent.was)

pub further-requires : goal.further-requires
further-requires c =
    sized-again c.lent.auto.work (sized _ _ _ _ (lent-passed _ _ _ _ (sym c.lent.ensures.answer ∙ c.in_ok-lent.was)).0)

pub returns : goal.returns
returns c =
    after-four _ _ _ _ c.lent.ensures c.in_ok-lent.was c.further.ensures
