-- `improving::collapse_slivers` meets its contract.
use Rattle.improving.proofs.Dropping.{dropped-is}
use Rattle.improving.proofs.collapse_slivers.Goals as goal

pub returns : goal.returns
returns c =
    let gone = rw c.of-touched.ensures at c.drop_gone-n.ensures in
    dropped-is c.args.points.now c.args.terms.now.coefficients.now c.args.terms.now.powers.now c.args.corners.now c.args.labels.now c.args.work.now c.requires _ c.note_collapses.auto.work c.note_collapses.ensures _ _ _ c.drop_gone-n.auto.corners c.drop_gone-n.auto.labels gone _ _ c.blank.ensures c.blank-2.ensures
