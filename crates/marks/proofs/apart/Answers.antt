-- `marks::apart` meets its contract: at the loop's head the places before the next have passed.
use Prim.Native.Nat.{◌-◌}
use native.Mathlib.Omega.{arith}
use mathlib.Core.Path.{subst}
use Rattle.chains.specs.SideMarks.{Strange}
use Rattle.chains.proofs.Marks.{below_next}
use Rattle.marks.proofs.Turns.{tells_first, tells_next, tells_less, tells_no, tells_yes}
use Rattle.marks.proofs.apart.Goals as goal

pub loop-q-init : goal.loop-q-init
loop-q-init c = tells_first c.args.corners.now c.args.areas.points c.args.work.now c.args.areas.chains c.args.areas.stamps c.args.stamp c.args.b c.args.x c.args.y c.requires.walking c.requires.b_lt_points c.word-q.result c.word-q.ensures

pub strange-requires : goal.strange-requires
strange-requires c =
    let own = c.loop-q.invariant.onward.names (c.loop-q.q - 1) (omega arith) in
    record {
      corners_len = (c.requires.walking.lists.thirds, c.requires.walking.lists.few, own.1);
      k_in_bounds = omega (arith, below_next c.requires.walking.lists (c.loop-q.q - 1) own.1, c.requires.walking.room);
    }

pub returns-then-strange : goal.returns-then-strange
returns-then-strange c = tells_no c.args.corners.now c.args.areas.points c.args.work.now c.args.areas.chains c.args.areas.stamps c.args.stamp c.args.b c.args.x c.args.y c.requires.walking c.requires.b_lt_points c.loop-q.q (c.loop-q.q - 1) (omega arith) c.loop-q.invariant (subst (Strange c.args.corners.now c.args.work.now c.args.areas.stamps c.args.stamp c.args.x c.args.y (c.loop-q.q - 1)) c.if-strange.true c.strange.ensures)

pub word-q-requires-in-loop-q : goal.word-q-requires-in-loop-q
word-q-requires-in-loop-q c =
    let own = c.loop-q.invariant.onward.names (c.loop-q.q - 1) (omega arith) in
    omega (arith, own.1, c.requires.walking.order, c.requires.walking.room)

pub loop-q-smaller : goal.loop-q-smaller
loop-q-smaller c = tells_less c.args.corners.now c.args.areas.points c.args.work.now c.args.areas.chains c.args.areas.stamps c.args.stamp c.args.b c.args.x c.args.y c.requires.walking c.requires.b_lt_points c.loop-q.q (c.loop-q.q - 1) c.word-q-in-loop-q.result (omega arith) c.loop-q.invariant c.word-q-in-loop-q.ensures

pub loop-q-preserved : goal.loop-q-preserved
loop-q-preserved c = tells_next c.args.corners.now c.args.areas.points c.args.work.now c.args.areas.chains c.args.areas.stamps c.args.stamp c.args.b c.args.x c.args.y c.requires.walking c.requires.b_lt_points c.loop-q.q (c.loop-q.q - 1) c.word-q-in-loop-q.result (omega arith) c.loop-q.invariant (subst (Strange c.args.corners.now c.args.work.now c.args.areas.stamps c.args.stamp c.args.x c.args.y (c.loop-q.q - 1)) c.if-strange.false c.strange.ensures) c.word-q-in-loop-q.ensures

pub returns : goal.returns
returns c = tells_yes c.args.corners.now c.args.areas.points c.args.work.now c.args.areas.chains c.args.areas.stamps c.args.stamp c.args.b c.args.x c.args.y c.requires.walking c.requires.b_lt_points c.loop-q.q (omega arith) c.loop-q.invariant
