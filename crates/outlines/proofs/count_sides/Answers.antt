-- `outlines::count_sides` meets its contract: at the loop's head the open ones of the first i sides are counted.
use Prim.Native.Nat.{ℕ, ◌+◌, ◌<◌, ◌≤◌}
use mathlib.Core.Path.{sym, ◌∙◌, ap, subst}
use native.Mathlib.Omega.{arith}
use native.Mathlib.Numerals.{add-one}
use lib.ListN.{length}
use mir.Val.{bool_byte}
use Rattle.outlines.proofs.Tracing.{bit_most, one_more}
use Rattle.outlines.specs.Stages.Trace.{open?}
use Rattle.halfedges.specs.Place.{at}
use Rattle.outlines.proofs.Preparing.{counting_first, counting_turn, counting_last}
use Rattle.outlines.proofs.count_sides.Goals as goal

pub loop-i-init : goal.loop-i-init
loop-i-init c = counting_first c.args.surface.now.corners.now c.args.surface.now.points c.args.work.now c.args.count

pub word-k-requires : goal.word-k-requires
word-k-requires c = omega (arith, c.requires.ready, c.requires.few, c.sides-sides.ensures, c.loop-i-test.true)

pub is_open-requires : goal.is_open-requires
is_open-requires c = record {
  walkable = c.requires.ready;
  k_in_bounds = subst (λ (k : ℕ). k < length c.args.surface.now.corners.now) (sym (c.requires.each c.loop-i.i c.loop-i-test.true) ∙ sym (c.word-k.ensures ∙ ap (λ (j : ℕ). at c.args.work.now (j + c.loop-i.i)) c.sides-sides.ensures)) (c.requires.upward c.loop-i.i c.loop-i-test.true).low;
}

pub overflow_add-n : goal.overflow_add-n
overflow_add-n c =
    let one : c.from-n.result ≤ 1 = bit_most _ _ c.from-n.ensures in
    omega (arith, c.loop-i.invariant.few, c.loop-i.invariant.low, c.requires.few, c.requires.ready.few)

pub loop-i-preserved : goal.loop-i-preserved
loop-i-preserved c =
    counting_turn c.args.surface.now.corners.now c.args.surface.now.points c.args.work.now c.args.count c.loop-i.i (c.loop-i.i + 1) c.loop-i.n (c.loop-i.n + c.from-n.result) c.word-k.result c.requires c.loop-i.invariant
    c.loop-i-test.true (c.word-k.ensures ∙ ap (λ (j : ℕ). at c.args.work.now (j + c.loop-i.i)) c.sides-sides.ensures) (ap (λ (m : ℕ). c.loop-i.n + m) (c.from-n.ensures ∙ ap bool_byte c.is_open.ensures) ∙ one_more (open? c.args.surface.now.corners.now c.args.surface.now.points c.args.work.now c.word-k.result) c.loop-i.n) (add-one c.loop-i.i)

pub returns : goal.returns
returns c = counting_last c.args.surface.now.corners.now c.args.surface.now.points c.args.work.now c.args.count c.loop-i.i c.loop-i.n c.requires c.loop-i.invariant c.loop-i-test.false
