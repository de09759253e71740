-- `scores::measure_sides` meets its contract. Assumes nothing.
use Rattle.scores.proofs.Turns.{measure_starts, measure_place, measure_turned, measure_ends}
use Rattle.scores.proofs.measure_sides.Goals as goal

pub loop-i-init : goal.loop-i-init
loop-i-init c =
    measure_starts _ _ _ _ _ _

pub side_squared-q-requires : goal.side_squared-q-requires
side_squared-q-requires c = record { pointed = c.requires.pointed; k_in_bounds = (measure_place c.args.points.now c.args.corners.now c.args.work.now c.loop-i.work c.args.sides c.args.count c.args.keys c.loop-i.i c.loop-i.sum c.requires c.loop-i.invariant c.loop-i-test.true _ c.wide-k.ensures).1 }

pub loop-i-preserved : goal.loop-i-preserved
loop-i-preserved c =
    measure_turned c.args.points.now c.args.corners.now c.args.work.now c.loop-i.work c.args.sides c.args.count c.args.keys c.loop-i.i c.loop-i.sum c.requires c.loop-i.invariant c.loop-i-test.true _ _ _ c.wide-k.ensures c.side_squared-q.ensures c.put_float.ensures

pub returns : goal.returns
returns c =
    measure_ends c.args.points.now c.args.corners.now c.args.work.now c.loop-i.work c.args.sides c.args.count c.args.keys c.loop-i.i c.loop-i.sum c.requires c.loop-i.invariant c.loop-i-test.false
