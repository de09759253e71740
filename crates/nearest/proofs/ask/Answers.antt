-- `nearest::ask` meets its contract: questions 1 to 4 refuse, or 5 and 42, and then the words are cleared.
use Prim.Native.Nat.{◌/◌}
use mathlib.Core.Path.{sym, ap, ◌∙◌}
use native.Mathlib.Omega.{arith}
use lib.ListN.{length}
use Rattle.closing.specs.Closing.{needed}
use Rattle.questions.specs.Questions.{cleared}
use Rattle.questions.proofs.Counted.{lent-passed}
use Rattle.questions.proofs.Telling.{handed_on}
use Rattle.nearest.proofs.Questions.{later-words, at_first, at-later, left_by}
use Rattle.nearest.proofs.ask.Goals as goal

pub returns-in_err-lent : goal.returns-in_err-lent
returns-in_err-lent c =
    rw (handed_on c.from_residual.result c.from_residual.ensures.1)
    (record { answer = at_first _ _ _ _ _ _ (sym c.lent.ensures.answer ∙ c.in_err-lent.was); words = left_by c.lent.ensures c.in_err-lent.was })

pub clear_needed-requires : goal.clear_needed-requires
clear_needed-requires c =
    let g = (lent-passed _ _ _ _ (sym c.lent.ensures.answer ∙ c.in_ok-lent.was)).0 in
    (omega (arith, g.corners, g.few-triangles), g.few-points, omega (arith, g.room, c.lent.auto.work))

pub returns-in-Err : goal.returns-in-Err
returns-in-Err c =
    let r = sym c.later.ensures ∙ c.in-Err.is in
    record {
      answer = at-later _ _ _ _ _ _ (sym c.lent.ensures.answer ∙ c.in_ok-lent.was) r;
      words = c.clear_needed.ensures ∙ ap (cleared (needed c.args.mesh.now.corners.now (length c.args.mesh.now.points.now / 3))) (left_by c.lent.ensures c.in_ok-lent.was) ∙ later-words _ _ _ _ c.args.work.now r;
    }

pub returns : goal.returns
returns c = record {
  answer = at-later _ _ _ _ _ _ (sym c.lent.ensures.answer ∙ c.in_ok-lent.was) (sym c.later.ensures ∙ c.in_default.is);
  words = left_by c.lent.ensures c.in_ok-lent.was;
}
