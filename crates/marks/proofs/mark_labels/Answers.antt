-- `marks::mark_labels` meets its contract: at the loop's head the labels of the places below k are marked.
use Prim.Native.Nat.{◌+◌, ◌*◌, ◌/◌}
use native.Mathlib.Omega.{arith}
use mathlib.Core.Path.{◌≡◌, subst}
use lib.ListN.{length, drop}
use Rattle.halfedges.proofs.Free.{free_none, free_more, free_put, free_cleared}
use Rattle.chains.proofs.LabelMarks.{Carrying, carry_first, carry_last}
use Rattle.marks.proofs.Turns.{front-zeros, zero-at, carry_turn'}
use Rattle.marks.proofs.mark_labels.Goals as goal

pub loop-k-init : goal.loop-k-init
loop-k-init c =
    let e = front-zeros (c.args.points * 8) c.args.work.now c.fill.new.self c.requires.points_in_bounds (c.fill.ensures.after (λ y q. q)) in
    record {
      free = free_none _;
      carrying = carry_first c.args.corners.now c.args.labels.now c.args.points _ (λ j l. zero-at (c.args.points * 8) j _ (drop (c.args.points * 8) c.args.work.now) e l);
    }

pub put-requires : goal.put-requires
put-requires c =
    let v_low = c.requires.lists.below c.loop-k.k c.loop-k-test.true in
    let l-low = c.requires.labelled.small (c.loop-k.k / 3) (omega (arith, c.requires.labelled.size)) in
    (omega (arith, c.requires.points_in_bounds), omega arith)

pub loop-k-preserved : goal.loop-k-preserved
loop-k-preserved c =
    let v_low = c.requires.lists.below c.loop-k.k c.loop-k-test.true in
    let l-low = c.requires.labelled.small (c.loop-k.k / 3) (omega (arith, c.requires.labelled.size)) in
    record {
      free = free_put (c.word-v.result * 8 + c.from-l.result) 1 c.loop-k.invariant.free c.put.ensures (omega arith) (omega arith);
      carrying = carry_turn' c.args.corners.now c.args.labels.now c.args.points c.loop-k.work c.put.new.work c.loop-k.k c.word-v.result c.from-l.result c.requires.lists c.requires.labelled c.loop-k-test.true (omega (arith, c.requires.points_in_bounds)) c.word-v.ensures c.from-l.ensures c.put.ensures c.loop-k.invariant.carrying;
    }

pub returns : goal.returns
returns c =
    let z : c.loop-k.k ≡ length c.args.corners.now = omega arith in
    let e = front-zeros (c.args.points * 8) c.args.work.now c.fill.new.self c.requires.points_in_bounds (c.fill.ensures.after (λ y q. q)) in
    record {
      carries = carry_last c.args.corners.now c.args.labels.now c.args.points c.loop-k.work c.requires.lists.thirds c.requires.labelled.size (subst (Carrying c.args.corners.now c.args.labels.now c.args.points c.loop-k.work) z c.loop-k.invariant.carrying);
      rest = free_more (free_cleared (c.args.points * 8) c.args.work.now _ c.requires.points_in_bounds e) c.loop-k.invariant.free;
    }
