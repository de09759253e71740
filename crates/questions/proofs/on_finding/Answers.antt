-- `questions::on_finding` meets its contract, case by case.
use mathlib.Core.Path.{sym, ap}
use Rattle.questions.specs.Refusal.{on_finding}
use Rattle.questions.proofs.on_finding.Goals as goal

pub returns-in-Repeated : goal.returns-in-Repeated
returns-in-Repeated c = sym (ap on_finding c.in-Repeated.is)

pub returns-in-Lone : goal.returns-in-Lone
returns-in-Lone c = sym (ap on_finding c.in-Lone.is)

pub returns-in-Split : goal.returns-in-Split
returns-in-Split c = sym (ap on_finding c.in-Split.is)
