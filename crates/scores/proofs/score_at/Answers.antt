-- `scores::score_at` meets its contract: the triangle i of a list has the corners at its three places. Assumes nothing.
use mathlib.Core.Path.{refl}
use Rattle.scores.proofs.Turns.{scored_at, corner-points}
use Rattle.scores.proofs.score_at.Goals as goal

pub score-requires : goal.score-requires
score-requires c =
    corner-points c.args.points.now c.args.terms.now.coefficients.now c.args.terms.now.powers.now c.args.corners.now c.args.labels.now c.args.i c.requires.lists c.requires.i_in_bounds _ _ _ c.wide.ensures c.wide-2.ensures c.wide-3.ensures

pub returns : goal.returns
returns c =
    scored_at c.args.points.now c.args.terms.now.coefficients.now c.args.terms.now.powers.now c.args.corners.now c.args.labels.now c.args.i c.requires.lists c.requires.i_in_bounds _ _ _ _ _ c.wide.ensures c.wide-2.ensures c.wide-3.ensures refl c.score.ensures
