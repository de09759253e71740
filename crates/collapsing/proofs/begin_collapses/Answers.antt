-- `collapsing::begin_collapses` meets its contract.
use Rattle.collapsing.proofs.Whole.{clean_of}
use Rattle.collapsing.proofs.begin_collapses.Goals as goal

pub returns : goal.returns
returns c =
    clean_of c.args.heads c.args.triangles c.args.touched c.args.work.now _ _ _ c.clear_from.ensures c.number_from.ensures c.clear_from-2.ensures
