-- `editing::edit` meets its contract: at each end the lists are what `EditRun` says.
use mathlib.Core.Path.{sym, ◌∙◌}
use Rattle.questions.proofs.Telling.{handed_on}
use Rattle.editing.proofs.Call.{refused_surface, no_threes, starting, edited}
use Rattle.editing.proofs.edit.Goals as goal

pub returns-in_err-admitted : goal.returns-in_err-admitted
returns-in_err-admitted c = rw (handed_on c.from_residual.result c.from_residual.ensures.1) (refused_surface c.args.points.now c.args.corners.now c.args.labels.now c.args.work.now c.args.entries.now c.args.verdicts.now c.args.journal.now c.admitted.ensures c.in_err-admitted.was)

pub returns-then-not-in_threes : goal.returns-then-not-in_threes
returns-then-not-in_threes c = no_threes c.args.points.now c.args.corners.now c.args.labels.now c.args.work.now c.args.entries.now c.args.verdicts.now c.args.journal.now c.admitted.ensures c.in_ok-admitted.was (sym c.in_threes.ensures ∙ c.if-not-in_threes.true)

pub run-left-requires : goal.run-left-requires
run-left-requires c =
    starting c.args.points.now c.args.corners.now c.args.labels.now c.args.work.now c.args.entries.now c.args.verdicts.now c.args.journal.now c.admitted.ensures c.in_ok-admitted.was (sym c.in_threes.ensures ∙ c.if-not-in_threes.false) c.admitted.auto.work c.fill.auto.self (c.fill.ensures.after (λ y e. e))

pub returns : goal.returns
returns c =
    edited c.args.points.now c.args.corners.now c.args.labels.now c.args.work.now c.args.entries.now c.args.verdicts.now c.args.journal.now c.admitted.ensures c.in_ok-admitted.was (sym c.in_threes.ensures ∙ c.if-not-in_threes.false) c.admitted.auto.work c.fill.auto.self (c.fill.ensures.after (λ y e. e))
    c.run-left.ensures c.run-left.auto.corners c.run-left.auto.labels c.run-left.auto.journal c.clear_needed.ensures
