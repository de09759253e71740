-- `marks::mark_across` meets its contract: at the loop's head the places of the corners below v are marked.
use native.Mathlib.Omega.{arith}
use Rattle.chains.proofs.Marks.{marking-kept, walking_of}
use Rattle.chains.proofs.AcrossMarks.{across-none, across-more}
use Rattle.marks.proofs.Turns.{turn_kept, turn_stamping, turn_marking, turn_stamped, across_end}
use Rattle.marks.proofs.mark_across.Goals as goal

pub clear_from-requires : goal.clear_from-requires
clear_from-requires c = omega (arith, c.requires.third, c.requires.room)

pub loop-v-init : goal.loop-v-init
loop-v-init c = across-none c.args.corners.now c.args.points c.args.stamps c.args.marks c.clear_from.new.work c.clear_from.ensures.zeros

pub stamp_around-requires : goal.stamp_around-requires
stamp_around-requires c =
    let h = marking-kept c.clear_from.new.work c.clear_from.ensures.len c.clear_from.ensures.under c.requires in
    record {
      walking = walking_of (turn_kept c.args.corners.now c.args.points c.clear_from.new.work c.args.chains c.args.stamps c.args.marks c.loop-v.v h c.loop-v.work c.loop-v.invariant.rest.len c.loop-v.invariant.rest.under);
      v_lt_points = c.loop-v-test.true;
    }

pub mark_across_of-requires : goal.mark_across_of-requires
mark_across_of-requires c =
    let h = marking-kept c.clear_from.new.work c.clear_from.ensures.len c.clear_from.ensures.under c.requires in
    record {
      marking = turn_marking c.args.corners.now c.args.points c.clear_from.new.work c.args.chains c.args.stamps c.args.marks c.loop-v.v h c.loop-v.work c.loop-v.invariant.rest.len c.loop-v.invariant.rest.under c.stamp_around.new.work c.stamp_around.ensures;
      stamped = turn_stamped c.args.corners.now c.args.points c.clear_from.new.work c.args.chains c.args.stamps c.args.marks c.loop-v.v h c.loop-v.work c.loop-v.invariant.rest.len c.loop-v.invariant.rest.under c.stamp_around.new.work c.stamp_around.ensures c.loop-v.invariant.low;
      v_lt_points = c.loop-v-test.true;
    }

pub loop-v-preserved : goal.loop-v-preserved
loop-v-preserved c =
    let h = marking-kept c.clear_from.new.work c.clear_from.ensures.len c.clear_from.ensures.under c.requires in
    across-more c.args.corners.now c.args.points c.args.stamps c.args.marks c.loop-v.v c.clear_from.new.work c.loop-v.work c.stamp_around.new.work c.mark_across_of.new.work h.third (omega (arith, h.first, h.second)) h.lists c.loop-v.invariant (turn_stamping c.args.corners.now c.args.points c.clear_from.new.work c.args.chains c.args.stamps c.args.marks c.loop-v.v h c.loop-v.work c.loop-v.invariant.rest.len c.loop-v.invariant.rest.under c.stamp_around.new.work c.stamp_around.ensures) c.mark_across_of.ensures

pub returns : goal.returns
returns c =
    let h = marking-kept c.clear_from.new.work c.clear_from.ensures.len c.clear_from.ensures.under c.requires in
    across_end c.args.corners.now c.args.points c.args.work.now c.clear_from.new.work c.loop-v.work c.args.chains c.args.stamps c.args.marks c.loop-v.v (omega arith) h c.clear_from.ensures c.loop-v.invariant
