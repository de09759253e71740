-- `marks::mark_sides_of` meets its contract: at the loop's head the sides of the places before the next are marked.
use Prim.Native.Nat.{ℕ, ◌-◌}
use native.Mathlib.Omega.{arith}
use mathlib.Core.Path.{◌≡◌, subst}
use lib.ListN.{length}
use Rattle.chains.proofs.Chain.{spot}
use Rattle.chains.specs.SideMarks.{MarkedOf}
use Rattle.marks.proofs.Turns.{sidings_first, sidings_kept, sidings_stamped, sidings_next, sidings_less}
use Rattle.marks.proofs.mark_sides_of.Goals as goal

pub word-q-requires : goal.word-q-requires
word-q-requires c = let h = c.requires.marking in omega (arith, h.second, h.third, h.room)

pub loop-q-init : goal.loop-q-init
loop-q-init c = sidings_first c.args.corners.now c.args.areas.points c.args.work.now c.args.areas.chains c.args.areas.stamps c.args.areas.marks c.args.v c.requires.marking c.requires.v_lt_points c.word-q.result c.word-q.ensures

pub mark_side-requires : goal.mark_side-requires
mark_side-requires c =
    let own = c.loop-q.invariant.onward.names (c.loop-q.q - 1) (omega arith) in
    record {
      marking = sidings_kept c.args.corners.now c.args.areas.points c.args.work.now c.args.areas.chains c.args.areas.stamps c.args.areas.marks c.args.v c.requires.marking c.requires.v_lt_points c.loop-q.q c.loop-q.work c.loop-q.invariant;
      stamped = sidings_stamped c.args.corners.now c.args.areas.points c.args.work.now c.args.areas.chains c.args.areas.stamps c.args.areas.marks c.args.v c.requires.marking c.requires.v_lt_points c.loop-q.q c.loop-q.work c.loop-q.invariant c.requires.stamped;
      k_in_bounds = (own.1, own.0);
    }

pub word-q-requires-in-loop-q : goal.word-q-requires-in-loop-q
word-q-requires-in-loop-q c =
    let own = c.loop-q.invariant.onward.names (c.loop-q.q - 1) (omega arith) in
    let h = c.requires.marking in
    omega (arith, own.1, h.second, h.third, h.room)

pub loop-q-smaller : goal.loop-q-smaller
loop-q-smaller c = sidings_less c.args.corners.now c.args.areas.points c.args.work.now c.args.areas.chains c.args.areas.stamps c.args.areas.marks c.args.v c.requires.marking c.requires.v_lt_points c.loop-q.q (c.loop-q.q - 1) c.loop-q.work c.mark_side.new.work (omega arith) c.loop-q.invariant c.mark_side.ensures c.word-q-in-loop-q.result c.word-q-in-loop-q.ensures

pub loop-q-preserved : goal.loop-q-preserved
loop-q-preserved c = sidings_next c.args.corners.now c.args.areas.points c.args.work.now c.args.areas.chains c.args.areas.stamps c.args.areas.marks c.args.v c.requires.marking c.requires.v_lt_points c.loop-q.q (c.loop-q.q - 1) c.loop-q.work c.mark_side.new.work (omega arith) c.loop-q.invariant c.mark_side.ensures c.word-q-in-loop-q.result c.word-q-in-loop-q.ensures

pub returns : goal.returns
returns c =
    let z : c.loop-q.q ≡ 0 = omega arith in
    subst (λ (n : ℕ). MarkedOf c.args.corners.now c.args.areas.points c.args.areas.marks c.args.v (spot (length c.args.corners.now) n) c.args.work.now c.loop-q.work) z c.loop-q.invariant.done
