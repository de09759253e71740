-- `renumber::number_corners` meets its contract. Assumes nothing.
use Rattle.renumber.proofs.Numbering.{number_starts, meetable, number_turn, number-ends}
use Rattle.renumber.proofs.number_corners.Goals as goal

pub loop-k-init : goal.loop-k-init
loop-k-init c = number_starts _ _ _ _ _ c.requires

pub meet_corner-met-requires : goal.meet_corner-met-requires
meet_corner-met-requires c =
    meetable c.args.points.now c.args.corners.now c.args.work.now c.args.numbers c.args.saved c.requires c.loop-k.points c.loop-k.corners c.loop-k.work c.loop-k.k c.loop-k.met c.loop-k.invariant c.loop-k-test.true

pub loop-k-preserved : goal.loop-k-preserved
loop-k-preserved c =
    number_turn c.args.points.now c.args.corners.now c.args.work.now c.args.numbers c.args.saved c.requires c.loop-k.points c.loop-k.corners c.loop-k.work c.loop-k.k c.loop-k.met c.loop-k.invariant c.loop-k-test.true _ _ _ _ c.meet_corner-met.ensures

pub returns : goal.returns
returns c =
    number-ends c.args.points.now c.args.corners.now c.args.work.now c.args.numbers c.args.saved c.requires c.loop-k.points c.loop-k.corners c.loop-k.work c.loop-k.k c.loop-k.met c.loop-k.invariant c.loop-k-test.false
