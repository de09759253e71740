-- `checking::whole` meets its contract: each way out is a case of `as_whole`.
use mathlib.Core.Path.{sym, ap, ◌∙◌}
use Rattle.questions.specs.Refusal.{on_finding}
use Rattle.questions.proofs.Telling.{handed_on}
use Rattle.checking.proofs.Cases.{not_closed, volume_infinite, volume-low, volume-kept}
use Rattle.checking.proofs.whole.Goals as goal

pub returns-in_err-on_finding : goal.returns-in_err-on_finding
returns-in_err-on_finding c = record {
  answer = handed_on _ c.from_residual.ensures.1 ∙ not_closed _ _ _ (ap on_finding (sym c.finding-found.ensures.answer) ∙ sym c.on_finding.ensures ∙ c.in_err-on_finding.was);
  words = c.finding-found.ensures.zeroed;
}

pub returns-then-not-is_finite : goal.returns-then-not-is_finite
returns-then-not-is_finite c = record {
  answer = volume_infinite _ _ _ (ap on_finding (sym c.finding-found.ensures.answer) ∙ sym c.on_finding.ensures ∙ c.in_ok-on_finding.was) (sym c.is_finite.ensures ∙ c.if-not-is_finite.true);
  words = c.finding-found.ensures.zeroed;
}

pub returns-then-measures : goal.returns-then-measures
returns-then-measures c = record {
  answer = volume-low _ _ _ (ap on_finding (sym c.finding-found.ensures.answer) ∙ sym c.on_finding.ensures ∙ c.in_ok-on_finding.was) c.if-measures.true;
  words = c.finding-found.ensures.zeroed;
}

pub returns : goal.returns
returns c = record {
  answer = volume-kept _ c.args.measures.quality _ (ap on_finding (sym c.finding-found.ensures.answer) ∙ sym c.on_finding.ensures ∙ c.in_ok-on_finding.was) (sym c.is_finite.ensures ∙ c.if-not-is_finite.false) c.if-measures.false;
  words = c.finding-found.ensures.zeroed;
}
