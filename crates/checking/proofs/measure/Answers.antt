-- `checking::measure` meets its contract: at the loop's head the fold over the triangles that are left, from the measures so far, is the answer.
use mathlib.Core.Path.{◌≡◌, sym, ap, ◌∙◌}
use mathlib.Core.List.{foldl}
use native.Mathlib.Omega.{arith}
use Prim.Native.Nat.{◌<◌}
use lib.ListN.{length}
use Rattle.std.specs.Slice.Iter.{chunks_exact_rest, chunks_exact_size}
use Rattle.std.specs.Prelude.{Ok}
use Rattle.surface.specs.Triangle.{triangles}
use Rattle.questions.proofs.Telling.{handed_on}
use Rattle.checking.specs.Verdict.{Verdict}
use Rattle.checking.specs.Validate.{next}
use Rattle.checking.proofs.Turns.{start, turn, fold_end, refused}
use Rattle.checking.proofs.measure.Goals as goal

pub loop-t-init : goal.loop-t-init
loop-t-init c =
    let i = c.into_iter-t-iterator.ensures.into_iter_gives in
    let s : chunks_exact_size c.into_iter-t-iterator.result ≡ 3 = ap chunks_exact_size i ∙ c.chunks_exact-t-items.ensures.size in (
      omega arith,
      tt,
      record {
        scaled = c.factor-factor.ensures;
        from-origin = c.origin-origin.ensures;
        threes = s;
        answer = start c.args.points.now c.args.corners.now ∙ ap (λ cs. foldl (next c.args.points.now) (Ok _) (triangles cs)) (sym (ap chunks_exact_rest i ∙ c.chunks_exact-t-items.ensures.rest));
      },
    )

pub returns-in_err-so_far : goal.returns-in_err-so_far
returns-in_err-so_far c =
    let ps = c.args.points.now in
    let left = chunks_exact_rest c.next.new.self in
    let k = c.in-Some.ensures.steps.1 in
    handed_on c.from_residual.result c.from_residual.ensures.1
    ∙ sym (c.loop-t.invariant.2.answer ∙ turn ps c.loop-t.so_far c.in-Some.t.now _ left k.0 (k.1 ∙ c.loop-t.invariant.2.threes) c.step.ensures ∙ ap (λ (x : Verdict). foldl (next ps) x (triangles left)) c.in_err-so_far.was ∙ refused ps _ (triangles left))

pub loop-t-preserved : goal.loop-t-preserved
loop-t-preserved c =
    let ps = c.args.points.now in
    let left = chunks_exact_rest c.next.new.self in
    let k = c.in-Some.ensures.steps.1 in
    let s : chunks_exact_size c.next.new.self ≡ 3 = c.in-Some.ensures.steps.0 ∙ c.loop-t.invariant.2.threes in (
      omega arith,
      tt,
      record {
        scaled = c.loop-t.invariant.2.scaled;
        from-origin = c.loop-t.invariant.2.from-origin;
        threes = s;
        answer = c.loop-t.invariant.2.answer ∙ turn ps c.loop-t.so_far c.in-Some.t.now _ left k.0 (k.1 ∙ c.loop-t.invariant.2.threes) c.step.ensures ∙ ap (λ (x : Verdict). foldl (next ps) x (triangles left)) c.in_ok-so_far.was;
      },
    )

pub returns : goal.returns
returns c =
    let l : length (chunks_exact_rest c.loop-t.t-iterator) < 3 = omega (arith, c.in-None.ensures.steps.1.0, c.loop-t.invariant.2.threes) in
    sym (c.loop-t.invariant.2.answer ∙ fold_end c.args.points.now _ (Ok c.loop-t.so_far) l)
