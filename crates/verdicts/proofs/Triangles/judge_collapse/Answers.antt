-- `verdicts::judge_collapse` meets its contract: the flags and notes of the survey, then the tests in turn.
use Rattle.verdicts.proofs.Word.{uncovered_word, collapse-word-is}
use Rattle.verdicts.proofs.Cover.{cover_law}
use mathlib.Core.Bool.{true, false}
use mathlib.Core.Path.{◌∙◌}
use Rattle.verdicts.proofs.Triangles.judge_collapse.Goals as goal

pub returns-then-not-covers : goal.returns-then-not-covers
returns-then-not-covers c = record {
  word = uncovered_word c.args.h c.requires.hung c.args.space c.covers.result (c.covers.ensures ∙ cover_law c.requires.labelled c.survey-carried.ensures) c.if-not-covers.true;
  steps = record { notes = c.survey-carried.ensures.notes; len = c.survey-carried.auto.notes ∙ c.fill.auto.self };
}

pub returns-then-not-may_collapse : goal.returns-then-not-may_collapse
returns-then-not-may_collapse c = record {
  word = collapse-word-is c.args.h c.requires.hung c.args.space c.covers.result (c.covers.ensures ∙ cover_law c.requires.labelled c.survey-carried.ensures) c.if-not-covers.false
      c.may_collapse.result c.may_collapse.ensures false c.if-not-may_collapse.true;
  steps = record { notes = c.survey-carried.ensures.notes; len = c.survey-carried.auto.notes ∙ c.fill.auto.self };
}

pub returns : goal.returns
returns c = record {
  word = c.place_left.ensures ∙ collapse-word-is c.args.h c.requires.hung c.args.space c.covers.result (c.covers.ensures ∙ cover_law c.requires.labelled c.survey-carried.ensures) c.if-not-covers.false
      c.may_collapse.result c.may_collapse.ensures true c.if-not-may_collapse.false;
  steps = record { notes = c.survey-carried.ensures.notes; len = c.survey-carried.auto.notes ∙ c.fill.auto.self };
}
