-- `editing::flip` meets its contract.
use Rattle.questions.proofs.Telling.{handed_on}
use mathlib.Core.Path.{◌≡◌, refl, sym, subst}
use mathlib.Core.Logic.{inl}
use Rattle.std.specs.Prelude.{Result, Err}
use Rattle.history.specs.Flat.{entry_of}
use Rattle.verdicts.specs.Verdict.{verdict_word}
use Rattle.verdicts.specs.declared.Unfit.{Unfit}
use Rattle.entries.proofs.Acts.{refused}
use Rattle.editing.specs.Held.{Entered, left_after}
use Rattle.editing.specs.declared.Left.{Left}
use Rattle.editing.proofs.Entered.{entered_edit, entered_not}
use Rattle.editing.proofs.flip.Goals as goal

pub returns-in_err-came : goal.returns-in_err-came
returns-in_err-came c =
    let why = c.in_err-came.field-0.0 in
    let told : c.from_residual.result ≡ Err why = handed_on c.from_residual.result c.from_residual.ensures.1 in
    subst (λ (r : Result Left Unfit). Entered c.args.points c.args.corners.now c.args.labels.now c.args.work.now c.args.journal.now c.args.left.triangles c.args.left.edits (entry_of 1 c.args.a c.args.b) c.flip_entry.new.corners c.args.labels.now c.args.work.now c.args.journal.now (left_after c.args.left r).triangles (left_after c.args.left r).edits (verdict_word r)) (sym told)
    (entered_not (entry_of 1 c.args.a c.args.b) (inl refl) c.has_place-space.ensures c.in_err-came.ensures refl (refused why))

pub returns : goal.returns
returns c =
    entered_edit (entry_of 1 c.args.a c.args.b) (inl refl) c.has_place-space.ensures c.in_ok-came.ensures refl refl c.note.ensures c.note.auto.journal
