-- `questions::before_rules` meets its contract: each way out is a question's answer.
use Prim.Native.Nat.{◌*◌}
use mathlib.Core.Path.{refl, sym, ◌∙◌}
use native.Mathlib.Omega.{arith}
use Rattle.closing.specs.Closing.{needed as lent}
use Rattle.closing.proofs.Whole.{far-on}
use Rattle.questions.proofs.Chain.{told-differ, not_differ, agree_asked, listed}
use Rattle.questions.proofs.before_rules.Goals as goal

pub returns-then-not-corners_differ : goal.returns-then-not-corners_differ
returns-then-not-corners_differ c = record {
  answer = not_differ _ _ _ (sym c.labels_known.ensures ∙ c.if-not-labels_known.false) (sym c.corners_listed.ensures ∙ c.if-not-corners_listed.false)
      (told-differ _ _ c.requires.thirds c.corners_differ.ensures ∙ c.if-not-corners_differ.true);
  far = refl;
}

pub labels_agree-requires : goal.labels_agree-requires
labels_agree-requires c =
    listed _ _ _ (sym c.labels_known.ensures ∙ c.if-not-labels_known.false) (sym c.corners_listed.ensures ∙ c.if-not-corners_listed.false) c.requires

pub returns-then-not-labels_agree : goal.returns-then-not-labels_agree
returns-then-not-labels_agree c =
    let cs = c.args.corners.now in
    let p = c.args.points in
    record {
      answer = agree_asked p cs c.args.labels.now (sym c.labels_known.ensures ∙ c.if-not-labels_known.false) (sym c.corners_listed.ensures ∙ c.if-not-corners_listed.false)
          (told-differ cs _ c.requires.thirds c.corners_differ.ensures ∙ c.if-not-corners_differ.false)
          (sym c.labels_agree.ensures.answer ∙ c.if-not-labels_agree.true);
      far = far-on (p * 8) (lent cs p) _ _ (omega arith) c.labels_agree.ensures.far;
    }

pub returns : goal.returns
returns c =
    let cs = c.args.corners.now in
    let p = c.args.points in
    record {
      answer = agree_asked p cs c.args.labels.now (sym c.labels_known.ensures ∙ c.if-not-labels_known.false) (sym c.corners_listed.ensures ∙ c.if-not-corners_listed.false)
          (told-differ cs _ c.requires.thirds c.corners_differ.ensures ∙ c.if-not-corners_differ.false)
          (sym c.labels_agree.ensures.answer ∙ c.if-not-labels_agree.false);
      far = far-on (p * 8) (lent cs p) _ _ (omega arith) c.labels_agree.ensures.far;
    }
