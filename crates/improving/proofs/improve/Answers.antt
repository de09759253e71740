-- `improving::improve` meets its contract: at each end the lists are what `Improving` says.
use mathlib.Core.Path.{sym, ◌∙◌}
use Rattle.questions.proofs.Telling.{handed_on}
use Rattle.improving.proofs.Call.{refused_surface, no_sheet, too_many, handed, improves}
use Rattle.improving.proofs.improve.Goals as goal

pub returns-in_err-admitted : goal.returns-in_err-admitted
returns-in_err-admitted c =
    rw (handed_on c.from_residual.result c.from_residual.ensures.1) (refused_surface c.args.points.now c.args.corners.now c.args.labels.now c.args.work.now c.args.terms.now.coefficients.now c.args.terms.now.powers.now c.args.levels.now c.args.bounds.now c.args.count c.admitted.ensures c.in_err-admitted.was)

pub returns-then-not-sheet_ok : goal.returns-then-not-sheet_ok
returns-then-not-sheet_ok c =
    no_sheet c.args.points.now c.args.corners.now c.args.labels.now c.args.work.now c.args.terms.now.coefficients.now c.args.terms.now.powers.now c.args.levels.now c.args.bounds.now c.args.count c.admitted.ensures c.in_ok-admitted.was (sym c.sheet_ok.ensures ∙ c.if-not-sheet_ok.true)

pub returns-then-count-gt1000 : goal.returns-then-count-gt1000
returns-then-count-gt1000 c =
    too_many c.args.points.now c.args.corners.now c.args.labels.now c.args.work.now c.args.terms.now.coefficients.now c.args.terms.now.powers.now c.args.levels.now c.args.bounds.now c.args.count c.admitted.ensures c.in_ok-admitted.was (sym c.sheet_ok.ensures ∙ c.if-not-sheet_ok.false) c.if-count-gt1000.true

pub rounds-left-requires-clause-improvable : goal.rounds-left-requires-clause-improvable
rounds-left-requires-clause-improvable c = handed c.admitted.ensures c.in_ok-admitted.was c.admitted.auto.work

pub returns : goal.returns
returns c =
    improves c.args.points.now c.args.corners.now c.args.labels.now c.args.work.now c.args.terms.now.coefficients.now c.args.terms.now.powers.now c.args.levels.now c.args.bounds.now c.args.count c.admitted.ensures c.in_ok-admitted.was (sym c.sheet_ok.ensures ∙ c.if-not-sheet_ok.false) c.if-count-gt1000.false c.admitted.auto.work _ c.rounds-left.ensures c.rounds-left.new.work c.rounds-left.auto.work c.clear.ensures
