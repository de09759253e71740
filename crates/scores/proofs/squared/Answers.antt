-- `scores::squared` meets its contract, by those of the functions that it calls. Assumes nothing.
use Rattle.scores.proofs.Turns.{squared-is}
use Rattle.scores.proofs.squared.Goals as goal

pub returns : goal.returns
returns c =
    squared-is _ _ _ _ _ _ _ c.point_at.ensures c.point_at-2.ensures c.sub-d.ensures c.dot.ensures
