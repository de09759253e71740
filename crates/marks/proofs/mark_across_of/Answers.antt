-- `marks::mark_across_of` meets its contract: at the loop's head the places of v before the next are marked.
use Prim.Native.Nat.{ℕ, ◌+◌, ◌-◌}
use native.Mathlib.Omega.{arith}
use mathlib.Core.Path.{◌≡◌, subst, ◌∙◌}
use lib.Dec.{eqb}
use lib.ListN.{length}
use Rattle.chains.proofs.Chain.{spot}
use Rattle.chains.proofs.Bits.{bit_most, bit_one}
use Rattle.chains.proofs.Marks.{below_last}
use Rattle.chains.specs.AcrossMarks.{AcrossOf}
use Rattle.marks.proofs.Turns.{acrossing_first, acrossing_next, acrossing_less, twin-low}
use Rattle.marks.proofs.mark_across_of.Goals as goal

pub word-q-requires : goal.word-q-requires
word-q-requires c = let h = c.requires.marking in omega (arith, h.second, h.third, h.room)

pub loop-q-init : goal.loop-q-init
loop-q-init c = acrossing_first c.args.corners.now c.args.areas.points c.args.work.now c.args.areas.chains c.args.areas.stamps c.args.areas.marks c.args.v c.requires.marking c.requires.stamped c.requires.v_lt_points c.word-q.result c.word-q.ensures

pub after-requires : goal.after-requires
after-requires c =
    let own = c.loop-q.invariant.onward.names (c.loop-q.q - 1) (omega arith) in
    omega (arith, own.1, c.requires.marking.lists.few)

pub word-t-requires : goal.word-t-requires
word-t-requires c =
    let own = c.loop-q.invariant.onward.names (c.loop-q.q - 1) (omega arith) in
    let h = c.requires.marking in
    omega (arith, own.1, h.lists.thirds, c.after.ensures, h.first, h.second, h.third, h.room)

pub behind-d-requires : goal.behind-d-requires
behind-d-requires c =
    let low = twin-low c.args.corners.now c.args.areas.points c.args.work.now c.args.areas.chains c.args.areas.stamps c.args.areas.marks c.args.v c.requires.marking c.requires.stamped c.requires.v_lt_points c.loop-q.q (c.loop-q.q - 1) c.loop-q.work (omega arith) c.loop-q.invariant c.word-t.result c.after.result c.after.ensures c.word-t.ensures in
    (c.requires.marking.lists.thirds, c.requires.marking.lists.few, low)

pub word-requires : goal.word-requires
word-requires c =
    let h = c.requires.marking in
    let low = twin-low c.args.corners.now c.args.areas.points c.args.work.now c.args.areas.chains c.args.areas.stamps c.args.areas.marks c.args.v h c.requires.stamped c.requires.v_lt_points c.loop-q.q (c.loop-q.q - 1) c.loop-q.work (omega arith) c.loop-q.invariant c.word-t.result c.after.result c.after.ensures c.word-t.ensures in
    omega (arith, c.behind-d.ensures, below_last h.lists c.word-t.result low, h.third, h.room)

pub put-requires : goal.put-requires
put-requires c =
    let own = c.loop-q.invariant.onward.names (c.loop-q.q - 1) (omega arith) in
    (omega (arith, own.1, c.requires.marking.room), omega (arith, bit_most (eqb c.word.result (c.args.v + 1)) _ c.from-flag.ensures))

pub word-q-requires-in-loop-q : goal.word-q-requires-in-loop-q
word-q-requires-in-loop-q c =
    let own = c.loop-q.invariant.onward.names (c.loop-q.q - 1) (omega arith) in
    let h = c.requires.marking in
    omega (arith, own.1, h.second, h.third, h.room)

pub loop-q-smaller : goal.loop-q-smaller
loop-q-smaller c = acrossing_less c.args.corners.now c.args.areas.points c.args.work.now c.args.areas.chains c.args.areas.stamps c.args.areas.marks c.args.v c.requires.marking c.requires.stamped c.requires.v_lt_points c.loop-q.q (c.loop-q.q - 1) c.loop-q.work (omega arith) c.loop-q.invariant c.put.new.work c.from-flag.result c.word-q-in-loop-q.result c.put.ensures c.word-q-in-loop-q.ensures

pub loop-q-preserved : goal.loop-q-preserved
loop-q-preserved c = acrossing_next c.args.corners.now c.args.areas.points c.args.work.now c.args.areas.chains c.args.areas.stamps c.args.areas.marks c.args.v c.requires.marking c.requires.stamped c.requires.v_lt_points c.loop-q.q (c.loop-q.q - 1) c.loop-q.work (omega arith) c.loop-q.invariant c.put.new.work c.after.result c.word-t.result c.behind-d.result c.word.result c.from-flag.result c.word-q-in-loop-q.result c.after.ensures c.word-t.ensures c.behind-d.ensures c.word.ensures (c.from-flag.ensures ∙ bit_one (eqb c.word.result (c.args.v + 1))) c.put.ensures c.word-q-in-loop-q.ensures

pub returns : goal.returns
returns c =
    let z : c.loop-q.q ≡ 0 = omega arith in
    subst (λ (n : ℕ). AcrossOf c.args.corners.now c.args.areas.points c.args.areas.marks c.args.v (spot (length c.args.corners.now) n) c.args.work.now c.loop-q.work) z c.loop-q.invariant.done
