-- `marks::mark_side` meets its contract.
use native.Mathlib.Omega.{arith}
use Rattle.chains.proofs.Bits.{bit_most}
use Rattle.chains.proofs.Marks.{walking_of}
use Rattle.marks.proofs.Turns.{corner-low, other_low, place-low, side_skipped, side-done}
use Rattle.marks.proofs.mark_side.Goals as goal

pub word-requires : goal.word-requires
word-requires c =
    let h = c.requires.marking in
    let low = corner-low c.args.corners.now c.args.areas.points c.args.work.now c.args.areas.chains c.args.areas.stamps c.args.areas.marks c.args.v c.args.k h c.requires.k_in_bounds.0 c.requires.k_in_bounds.1 in
    omega (arith, h.first, h.second, h.third, h.room)

pub word-requires-2 : goal.word-requires-2
word-requires-2 c =
    let h = c.requires.marking in
    let low = other_low c.args.corners.now c.args.areas.points c.args.work.now c.args.areas.chains c.args.areas.stamps c.args.areas.marks c.args.v c.args.k h c.requires.k_in_bounds.0 c.requires.k_in_bounds.1 c.ahead-b.result c.ahead-b.ensures in
    omega (arith, h.first, h.second, h.third, h.room)

pub returns-then-word : goal.returns-then-word
returns-then-word c = side_skipped c.args.corners.now c.args.areas.points c.args.work.now c.args.areas.chains c.args.areas.stamps c.args.areas.marks c.args.v c.args.k c.requires.marking c.requires.k_in_bounds.0 c.requires.k_in_bounds.1 c.ahead-b.result c.word.result c.word-2.result c.ahead-b.ensures c.word.ensures c.word-2.ensures c.if-word.true

pub behind-y-requires : goal.behind-y-requires
behind-y-requires c =
    let low = place-low c.args.corners.now c.args.areas.points c.args.work.now c.args.areas.chains c.args.areas.stamps c.args.areas.marks c.args.v c.args.k c.requires.marking c.requires.k_in_bounds.0 c.requires.k_in_bounds.1 c.word-t.result c.word-t.ensures in
    (c.requires.marking.lists.thirds, c.requires.marking.lists.few, low)

pub apart-requires : goal.apart-requires
apart-requires c = record {
  walking = walking_of c.requires.marking;
  b_lt_points = other_low c.args.corners.now c.args.areas.points c.args.work.now c.args.areas.chains c.args.areas.stamps c.args.areas.marks c.args.v c.args.k c.requires.marking c.requires.k_in_bounds.0 c.requires.k_in_bounds.1 c.ahead-b.result c.ahead-b.ensures;
}

pub put-requires : goal.put-requires
put-requires c = (omega (arith, c.requires.k_in_bounds.0, c.requires.marking.room), omega (arith, bit_most c.apart.result _ c.from-flag.ensures))

pub overflow_add-areas-6 : goal.overflow_add-areas-6
overflow_add-areas-6 c =
    let low = place-low c.args.corners.now c.args.areas.points c.args.work.now c.args.areas.chains c.args.areas.stamps c.args.areas.marks c.args.v c.args.k c.requires.marking c.requires.k_in_bounds.0 c.requires.k_in_bounds.1 c.word-t.result c.word-t.ensures in
    let fits = c.type_inv in
    omega (arith, c.requires.marking.room, c.put.auto.work)

pub put-requires-2 : goal.put-requires-2
put-requires-2 c =
    let low = place-low c.args.corners.now c.args.areas.points c.args.work.now c.args.areas.chains c.args.areas.stamps c.args.areas.marks c.args.v c.args.k c.requires.marking c.requires.k_in_bounds.0 c.requires.k_in_bounds.1 c.word-t.result c.word-t.ensures in
    (omega (arith, c.requires.marking.room, c.put.auto.work), omega (arith, bit_most c.apart.result _ c.from-flag.ensures))

pub returns : goal.returns
returns c = side-done c.args.corners.now c.args.areas.points c.args.work.now c.args.areas.chains c.args.areas.stamps c.args.areas.marks c.args.v c.args.k c.requires.marking c.requires.k_in_bounds.0 c.requires.k_in_bounds.1 c.ahead-b.result c.word-t.result c.behind-x.result c.behind-y.result c.from-flag.result c.apart.result c.put.new.work c.put-2.new.work c.requires.stamped c.ahead-b.ensures c.word-t.ensures c.behind-x.ensures c.behind-y.ensures c.apart.ensures c.from-flag.ensures c.put.ensures c.put-2.ensures
