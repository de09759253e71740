-- `scores::score` meets its contract, by those of the functions that it calls. Assumes nothing.
use Rattle.scores.proofs.Turns.{scored}
use Rattle.scores.proofs.score.Goals as goal

pub returns : goal.returns
returns c =
    scored _ _ _ _ _ _ _ _ _ _ _ c.point_at.ensures c.point_at-2.ensures c.point_at-3.ensures c.shape.ensures
