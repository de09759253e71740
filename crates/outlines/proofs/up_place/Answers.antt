-- `outlines::up_place` meets its contract.
use Rattle.outlines.proofs.Reading.{up_first, up_second}
use Rattle.outlines.proofs.up_place.Goals as goal

pub returns-then-x-y : goal.returns-then-x-y
returns-then-x-y c =
    up_first c.args.corners.now c.args.k c.args.t _ _ c.wide-x.ensures c.ahead-y.ensures c.if-x-y.true

pub returns : goal.returns
returns c =
    up_second c.args.corners.now c.args.k c.args.t _ _ c.wide-x.ensures c.ahead-y.ensures c.if-x-y.false
