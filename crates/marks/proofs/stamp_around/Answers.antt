-- `marks::stamp_around` meets its contract: at the loop's head the walk has come to the places before the next.
use Prim.Native.Nat.{ℕ, ◌-◌}
use native.Mathlib.Omega.{arith}
use mathlib.Core.Path.{◌≡◌, ap, ◌∙◌}
use lib.ListN.{length}
use Rattle.chains.specs.Chain.{walk}
use Rattle.chains.specs.Marks.{stamp_at}
use Rattle.chains.proofs.Chain.{spot}
use Rattle.chains.proofs.Marks.{below_next}
use Rattle.marks.proofs.Turns.{walks_first, walks_next, walks_less}
use Rattle.marks.proofs.stamp_around.Goals as goal

pub loop-q-init : goal.loop-q-init
loop-q-init c = walks_first c.args.corners.now c.args.areas.points c.args.work.now c.args.areas.chains c.args.areas.stamps c.args.v c.requires.walking c.requires.v_lt_points c.word-q.result c.word-q.ensures

pub ahead-x-requires : goal.ahead-x-requires
ahead-x-requires c =
    let own = c.loop-q.invariant.onward.names (c.loop-q.q - 1) (omega arith) in
    (c.requires.walking.lists.thirds, c.requires.walking.lists.few, own.1)

pub put-requires : goal.put-requires
put-requires c =
    let own = c.loop-q.invariant.onward.names (c.loop-q.q - 1) (omega arith) in
    let low = below_next c.requires.walking.lists (c.loop-q.q - 1) own.1 in
    (omega (arith, c.requires.walking.room), omega (arith, c.requires.walking.lists.points))

pub word-q-requires-in-loop-q : goal.word-q-requires-in-loop-q
word-q-requires-in-loop-q c =
    let own = c.loop-q.invariant.onward.names (c.loop-q.q - 1) (omega arith) in
    omega (arith, own.1, c.requires.walking.order, c.requires.walking.room)

pub loop-q-smaller : goal.loop-q-smaller
loop-q-smaller c = walks_less c.args.corners.now c.args.areas.points c.args.work.now c.args.areas.chains c.args.areas.stamps c.args.v c.requires.walking c.requires.v_lt_points c.loop-q.q (c.loop-q.q - 1) c.loop-q.work c.put.new.work c.ahead-x.result c.word-q-in-loop-q.result _ (omega arith) c.ahead-x.ensures c.loop-q.invariant c.put.ensures c.word-q-in-loop-q.ensures

pub loop-q-preserved : goal.loop-q-preserved
loop-q-preserved c = walks_next c.args.corners.now c.args.areas.points c.args.work.now c.args.areas.chains c.args.areas.stamps c.args.v c.requires.walking c.requires.v_lt_points c.loop-q.q (c.loop-q.q - 1) c.loop-q.work c.put.new.work c.ahead-x.result c.word-q-in-loop-q.result (omega arith) c.ahead-x.ensures c.loop-q.invariant c.put.ensures c.word-q-in-loop-q.ensures

pub returns : goal.returns
returns c =
    let z : c.loop-q.q ≡ 0 = omega arith in
    c.loop-q.invariant.is ∙ ap (λ (n : ℕ). walk (stamp_at c.args.corners.now c.args.areas.stamps c.args.v) c.args.corners.now c.args.v (spot (length c.args.corners.now) n) c.args.work.now) z
