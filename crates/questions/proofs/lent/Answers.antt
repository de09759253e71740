-- `questions::lent` meets its contract: after 4 the needed words are cleared, and only then.
use mathlib.Core.Path.{refl, sym, ◌∙◌}
use borrow.Author.Rules.{rules}
use Rattle.questions.proofs.Telling.{handed_on}
use Rattle.questions.proofs.Counted.{lent-four, words_late, three-refused, four-asked}
use Rattle.questions.proofs.lent.Goals as goal

pub returns-in_err-first_three : goal.returns-in_err-first_three
returns-in_err-first_three c = rw (handed_on c.from_residual.result c.from_residual.ensures.1) (three-refused c.first_three.ensures c.in_err-first_three.was)

pub clear_needed-requires : goal.clear_needed-requires
clear_needed-requires c =
    let g = lent-four _ _ _ _ (four-asked c.first_three.ensures c.in_ok-first_three.was (sym c.all_finite.ensures ∙ c.if-not-all_finite.true)) refl in
    search rules

pub returns-then-not-all_finite : goal.returns-then-not-all_finite
returns-then-not-all_finite c = record {
  answer = sym (four-asked c.first_three.ensures c.in_ok-first_three.was (sym c.all_finite.ensures ∙ c.if-not-all_finite.true));
  words = c.clear_needed.ensures ∙ words_late c.args.mesh.now.points.now c.args.mesh.now.corners.now c.args.work.now 4 refl;
}

pub returns : goal.returns
returns c = record {
  answer = sym (four-asked c.first_three.ensures c.in_ok-first_three.was (sym c.all_finite.ensures ∙ c.if-not-all_finite.false));
  words = refl;
}
