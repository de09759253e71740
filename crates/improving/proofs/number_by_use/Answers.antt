-- `improving::number_by_use` meets its contract.
use Rattle.improving.proofs.Numbering.{numbered_is}
use Rattle.improving.proofs.number_by_use.Goals as goal

pub returns : goal.returns
returns c =
    numbered_is c.args.points.now c.args.corners.now c.args.work.now c.requires _ c.clear.ensures _ c.save_points.ensures _ _ _ _ _ c.number_corners-p.auto.points c.number_corners-p.ensures c.blank.ensures
