use Rattle.entries.proofs.Acts.{side-there, hung, edited-none, edited-done, zero-corners, zero-labels}
use Rattle.entries.proofs.Edits.{flip-made, flip-rest}
use Rattle.entries.proofs.Moved.{drop-same-zero}
use Rattle.history.proofs.Entry.{flip-accepted}
use Rattle.history.specs.Flat.{entry_of, pair_of}
use Rattle.verdicts.specs.Record.{words_of}
use native.Mathlib.Omega.{arith}
use mathlib.Core.Path.{◌≡◌, refl, sym, ◌∙◌, ap, subst}
use borrow.Author.Rules.{rules}
use Rattle.std.specs.Prelude.{Result, Err}
use Rattle.history.specs.Entry.{Edited}
use Rattle.verdicts.specs.Verdict.{verdict_word}
use Rattle.verdicts.specs.declared.Unfit.{Unfit}
use Rattle.entries.specs.After.{triangles_after, words_after}
use Rattle.entries.specs.declared.Came.{Came}
use Prim.Native.Nat.{◌*◌}
use Rattle.entries.proofs.flip_entry.Goals as goal

pub returns-in_err-h : goal.returns-in_err-h
returns-in_err-h c =
    let told : c.from_residual.result ≡ Err c.in_err-h.field-0.0 = search rules in
    subst (λ (r : Result Came Unfit). Edited c.args.points c.args.corners.now c.args.labels.now c.args.n c.args.work.now (entry_of 1 c.args.a c.args.b) c.args.space c.args.corners.now c.args.labels.now (triangles_after c.args.n r) c.args.work.now (verdict_word r) (words_after r)) (sym (told ∙ ap (λ (why : Unfit). Err why) c.in_err-h.ensures.0))
    (edited-none c.requires (entry_of 1 c.args.a c.args.b) c.args.space c.args.work.now refl refl c.in_err-h.ensures.1)

pub judge_flip-requires : goal.judge_flip-requires
judge_flip-requires c = hung c.requires c.args.a c.args.b c.in_ok-h.ensures.0 c.in_ok-h.h c.in_ok-h.ensures.1

pub record_of-done-requires : goal.record_of-done-requires
record_of-done-requires c = hung c.requires c.args.a c.args.b c.in_ok-h.ensures.0 c.in_ok-h.h c.in_ok-h.ensures.1

pub flip_in-requires : goal.flip_in-requires
flip_in-requires c =
    let h = hung c.requires c.args.a c.args.b c.in_ok-h.ensures.0 c.in_ok-h.h c.in_ok-h.ensures.1 in
    let p = h.places in
    (omega (arith, p.room, p.order, p.fits), omega (arith, p.room, p.fits))

pub returns : goal.returns
returns c =
    let h = hung c.requires c.args.a c.args.b c.in_ok-h.ensures.0 c.in_ok-h.h c.in_ok-h.ensures.1 in
    edited-done c.requires (entry_of 1 c.args.a c.args.b) c.args.space c.args.work.now refl refl (side-there c.requires c.args.a c.args.b c.in_ok-h.ensures.0) 0 c.in_ok-judge_flip.ensures refl
    (flip-accepted (pair_of c.args.corners.now c.args.labels.now c.args.n) c.requires.good.sound.closed c.args.a c.args.b c.args.space)
    (words_of c.record_of-done.result) c.record_of-done.ensures c.flip_in.new.corners c.args.labels.now c.args.n c.flip_in.auto.corners refl (omega arith)
    (flip-made c.in_ok-h.h h c.flip_in.new.corners c.flip_in.ensures)
    (drop-same-zero (3 * c.args.n) c.args.corners.now c.flip_in.new.corners (flip-rest c.in_ok-h.h h c.flip_in.new.corners c.flip_in.ensures) (zero-corners c.requires)) (zero-labels c.requires)
