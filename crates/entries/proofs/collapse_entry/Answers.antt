use mathlib.Core.Path.{sym, ◌∙◌, ap}
use Rattle.entries.proofs.Acts.{side-there, hung, edited-none, words-fit, refused, front-size, front-far, needed-most, edited-refused, edited-done, zero-corners, zero-labels}
use Rattle.history.proofs.Entry.{collapse-accepted}
use Rattle.history.specs.Entry.{needed}
use Rattle.history.specs.Flat.{entry_of, pair_of}
use Rattle.verdicts.specs.Record.{words_of}
use native.Mathlib.Omega.{arith}
use borrow.Author.Rules.{rules}
use mathlib.Core.Path.{◌≡◌, refl, subst}
use Rattle.std.specs.Prelude.{Result, Err}
use Rattle.history.specs.Entry.{Edited}
use Rattle.verdicts.specs.Verdict.{unfit_word, verdict_word}
use Rattle.verdicts.specs.declared.Unfit.{Unfit}
use Rattle.entries.specs.After.{triangles_after, words_after}
use Rattle.entries.specs.declared.Came.{Came}
use mathlib.Core.List.{◌++◌}
use lib.ListN.{drop}
use Rattle.entries.proofs.collapse_entry.Goals as goal

pub returns-in_err-h : goal.returns-in_err-h
returns-in_err-h c =
    let told : c.from_residual.result ≡ Err c.in_err-h.field-0.0 = search rules in
    subst (λ (r : Result Came Unfit). Edited c.args.points c.args.corners.now c.args.labels.now c.args.n c.args.work.now (entry_of 2 c.args.a c.args.b) c.args.space c.args.corners.now c.args.labels.now (triangles_after c.args.n r) c.args.work.now (verdict_word r) (words_after r)) (sym (told ∙ ap (λ (why : Unfit). Err why) c.in_err-h.ensures.0))
    (edited-none c.requires (entry_of 2 c.args.a c.args.b) c.args.space c.args.work.now refl refl c.in_err-h.ensures.1)

pub judge_collapse-requires-clause-hung : goal.judge_collapse-requires-clause-hung
judge_collapse-requires-clause-hung c = hung c.requires c.args.a c.args.b c.in_ok-h.ensures.0 c.in_ok-h.h c.in_ok-h.ensures.1

pub returns-in_err-judge_collapse : goal.returns-in_err-judge_collapse
returns-in_err-judge_collapse c =
    let w = c.args.work.now in
    let p = c.args.points in
    let e = c.judge_collapse.new.notes in
    let f = c.judge_collapse.auto.notes in
    let why = c.in_err-judge_collapse.field-0.0 in
    let told : c.from_residual-in_err-judge_collapse.result ≡ Err why = search rules in
    subst (λ (r : Result Came Unfit). Edited p c.args.corners.now c.args.labels.now c.args.n w (entry_of 2 c.args.a c.args.b) c.args.space c.args.corners.now c.args.labels.now (triangles_after c.args.n r) (e ++ drop p w) (verdict_word r) (words_after r)) (sym told)
    (edited-refused c.requires (entry_of 2 c.args.a c.args.b) c.args.space (e ++ drop p w) (front-size p e w f) (front-far p (needed c.args.labels.now p) e w (omega (arith, words-fit c.requires)) f (omega (arith, needed-most c.args.labels.now p))) (side-there c.requires c.args.a c.args.b c.in_ok-h.ensures.0) (unfit_word why) c.in_err-judge_collapse.ensures.word (refused why))

pub record_of-done-requires : goal.record_of-done-requires
record_of-done-requires c = hung c.requires c.args.a c.args.b c.in_ok-h.ensures.0 c.in_ok-h.h c.in_ok-h.ensures.1

pub collapse_in-triangles-requires : goal.collapse_in-triangles-requires
collapse_in-triangles-requires c = hung c.requires c.args.a c.args.b c.in_ok-h.ensures.0 c.in_ok-h.h c.in_ok-h.ensures.1

pub returns : goal.returns
returns c =
    let w = c.args.work.now in
    let p = c.args.points in
    let e = c.judge_collapse.new.notes in
    let f = c.judge_collapse.auto.notes in
    let d = c.collapse_in-triangles.ensures in
    edited-done c.requires (entry_of 2 c.args.a c.args.b) c.args.space (e ++ drop p w) (front-size p e w f) (front-far p (needed c.args.labels.now p) e w (omega (arith, words-fit c.requires)) f (omega (arith, needed-most c.args.labels.now p))) (side-there c.requires c.args.a c.args.b c.in_ok-h.ensures.0) 0 c.in_ok-judge_collapse.ensures.word refl
    (collapse-accepted (pair_of c.args.corners.now c.args.labels.now c.args.n) c.requires.good.sound.closed c.args.a c.args.b c.args.space)
    (words_of c.record_of-done.result) c.record_of-done.ensures c.collapse_in-triangles.new.corners c.collapse_in-triangles.new.labels c.collapse_in-triangles.result c.collapse_in-triangles.auto.corners c.collapse_in-triangles.auto.labels (omega (arith, d.count))
    d.is (d.freed (zero-corners c.requires)) (d.unlabelled (zero-labels c.requires))
