-- `editing::enter` meets its contract: words that are no entry's leave all.
use Rattle.questions.proofs.Telling.{handed_on}
use lib.ListN.{get_or}
use mathlib.Core.Path.{◌≡◌, sym, subst, ap, ◌∙◌}
use Rattle.std.specs.Prelude.{Result, Err}
use Rattle.history.specs.Flat.{entry_of}
use Rattle.verdicts.specs.Verdict.{verdict_word}
use Rattle.verdicts.specs.declared.Unfit.{Unfit}
use Rattle.verdicts.specs.declared.Unfit.TheVariants.{NoEntry}
use Rattle.editing.specs.Held.{Entered, left_after}
use Rattle.editing.specs.declared.Left.{Left}
use Rattle.editing.proofs.Entered.{no_entry}
use Rattle.editing.proofs.enter.Goals as goal

pub returns-in_err-a : goal.returns-in_err-a
returns-in_err-a c =
    let told : c.from_residual.result ≡ Err c.in_err-a.field-0.0 = handed_on c.from_residual.result c.from_residual.ensures.1 in
    let no : c.from_residual.result ≡ Err NoEntry = told ∙ ap (λ (why : Unfit). Err why) c.in_err-a.ensures.0 in
    subst (λ (r : Result Left Unfit). Entered c.args.points c.args.corners.now c.args.labels.now c.args.work.now c.args.journal.now c.args.left.triangles c.args.left.edits (entry_of (get_or c.args.words 0 0) (get_or c.args.words 1 0) (get_or c.args.words 2 0)) c.args.corners.now c.args.labels.now c.args.work.now c.args.journal.now (left_after c.args.left r).triangles (left_after c.args.left r).edits (verdict_word r)) (sym no)
    (no_entry c.in_err-a.ensures.1)
