-- `checking::validate` meets its contract: questions 1 to 4, then the others.
use mathlib.Core.Path.{sym, ◌∙◌}
use native.Mathlib.Omega.{arith}
use Rattle.questions.proofs.Counted.{lent-passed}
use Rattle.questions.proofs.Telling.{handed_on}
use Rattle.checking.proofs.Cases.{after-four, at_first}
use Rattle.checking.proofs.validate.Goals as goal

pub returns-in_err-lent : goal.returns-in_err-lent
returns-in_err-lent c = rw (handed_on c.from_residual.result c.from_residual.ensures.1) (at_first _ _ _ _ c.lent.ensures c.in_err-lent.was)

pub examine-requires : goal.examine-requires
examine-requires c =
    let g = (lent-passed _ _ _ _ (sym c.lent.ensures.answer ∙ c.in_ok-lent.was)).0 in
    record { thirds = g.corners; few-points = g.few-points; few-triangles = g.few-triangles; room = omega (arith, g.room, c.lent.auto.work) }

pub returns : goal.returns
returns c = after-four _ _ _ _ c.lent.ensures c.in_ok-lent.was c.examine.ensures
