-- `questions::further` meets its contract: the questions before the rules, then all rules at once, then what is found of (b) and (c).
use mathlib.Core.Path.{sym, ap, ◌∙◌}
use mathlib.Core.Bool.{true≢false}
use Rattle.closing.specs.Closing.{needed as words}
use Rattle.questions.specs.Refusal.{on_finding}
use Rattle.questions.proofs.Telling.{handed_on}
use Rattle.questions.proofs.Chain.{before_stops, fit_of, lent, closed-passed, open_found, twice_twelve, sized-again, again, again-twice}
use Rattle.questions.proofs.further.Goals as goal

pub returns-in-Err : goal.returns-in-Err
returns-in-Err c = record {
  answer = before_stops _ _ _ (sym c.in-Err.is ∙ c.before_rules.ensures.answer);
  words = again (words c.args.corners.now c.args.points) c.args.work.now c.before_rules.new.work _ c.before_rules.ensures.far c.clear_needed.ensures;
}

pub closed_surface-requires : goal.closed_surface-requires
closed_surface-requires c = lent _ _ _ (fit_of c.before_rules.ensures c.in_default.is) (sized-again c.before_rules.auto.work c.requires)

pub returns-then-closed_surface : goal.returns-then-closed_surface
returns-then-closed_surface c = record {
  answer = closed-passed _ _ _ (fit_of c.before_rules.ensures c.in_default.is) (c.closed_surface.ensures.decides.0 c.if-closed_surface.true);
  words = again (words c.args.corners.now c.args.points) c.args.work.now c.before_rules.new.work _ c.before_rules.ensures.far c.closed_surface.ensures.zeroed;
}

pub finding-found-requires : goal.finding-found-requires
finding-found-requires c = lent _ _ _ (fit_of c.before_rules.ensures c.in_default.is) (sized-again (c.closed_surface.auto.work ∙ c.before_rules.auto.work) c.requires)

pub returns-in_err-on_finding : goal.returns-in_err-on_finding
returns-in_err-on_finding c = record {
  answer = handed_on c.from_residual.result c.from_residual.ensures.1 ∙ open_found _ _ _ (fit_of c.before_rules.ensures c.in_default.is) (ap on_finding (sym c.finding-found.ensures.answer) ∙ sym c.on_finding.ensures ∙ c.in_err-on_finding.was);
  words = again-twice (words c.args.corners.now c.args.points) c.args.work.now c.before_rules.new.work c.closed_surface.new.work _ c.before_rules.ensures.far c.closed_surface.ensures.zeroed c.finding-found.ensures.zeroed;
}

pub returns : goal.returns
returns c = record {
  answer = twice_twelve _ _ _ (fit_of c.before_rules.ensures c.in_default.is) (ap on_finding (sym c.finding-found.ensures.answer) ∙ sym c.on_finding.ensures ∙ c.in_ok-on_finding.was)
      (λ x. true≢false (sym (c.closed_surface.ensures.decides.1 x) ∙ c.if-closed_surface.false));
  words = again-twice (words c.args.corners.now c.args.points) c.args.work.now c.before_rules.new.work c.closed_surface.new.work _ c.before_rules.ensures.far c.closed_surface.ensures.zeroed c.finding-found.ensures.zeroed;
}
