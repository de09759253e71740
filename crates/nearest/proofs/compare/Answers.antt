-- `nearest::compare` meets its contract: the corner is passed over, or meets each probe in turn (`proofs/Turns`).
use native.Mathlib.Omega.{arith}
use Rattle.nearest.proofs.Turns.{passed_over, none-met, place-there, one-met, all-met}
use Rattle.nearest.proofs.Exact.{distance-holds}
use Rattle.nearest.proofs.compare.Goals as goal

pub returns-then-head-eq0 : goal.returns-then-head-eq0
returns-then-head-eq0 c = passed_over c.args.points.now c.args.work.now c.args.probes.now c.args.v c.args.bests.now c.if-head-eq0.true c.requires.bests_kept

pub loop-i-init : goal.loop-i-init
loop-i-init c =
    (c.point-p.ensures, none-met c.args.points.now c.args.work.now c.args.probes.now c.args.v c.args.bests.now c.requires.laid.0 c.requires.laid.1 (omega arith) c.requires.bests_kept)

pub consider-requires : goal.consider-requires
consider-requires c = place-there _ _ _ _ c.loop-i.invariant.1 c.loop-i-test.true

pub loop-i-preserved : goal.loop-i-preserved
loop-i-preserved c =
    let i = c.loop-i.invariant.1 in
    let h = distance-holds c.args.points.now c.args.probes.now i.laid.whole-points i.laid.whole_probes c.args.v c.loop-i.i i.listed c.loop-i-test.true _ _ _ c.loop-i.invariant.0 c.point.ensures c.distance.ensures in
    (c.loop-i.invariant.0, one-met c.args.points.now c.args.work.now c.args.probes.now c.args.v i c.loop-i-test.true _ h.is c.consider.ensures)

pub returns : goal.returns
returns c = all-met c.args.points.now c.args.work.now c.args.probes.now c.args.v c.loop-i.invariant.1 c.loop-i-test.false
