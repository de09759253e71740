-- `scores::side_squared` meets its contract: the corners of a place and of the next one have points. Assumes nothing.
use Rattle.scores.proofs.Turns.{end_points, side-squared-is}
use Rattle.scores.proofs.side_squared.Goals as goal

pub squared-requires : goal.squared-requires
squared-requires c =
    end_points c.args.points.now c.args.corners.now c.args.k _ _ _ c.requires.pointed c.requires.k_in_bounds c.wide.ensures c.after.ensures c.wide-2.ensures

pub returns : goal.returns
returns c =
    side-squared-is c.args.points.now c.args.corners.now c.args.k _ _ _ c.requires.pointed c.requires.k_in_bounds c.wide.ensures c.after.ensures c.wide-2.ensures _ c.squared.ensures
