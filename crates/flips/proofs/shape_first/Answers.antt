-- `flips::shape_first` meets its contract. Assumes nothing.
use Rattle.flips.proofs.Steps.{first-is}
use Rattle.flips.proofs.shape_first.Goals as goal

pub returns : goal.returns
returns c =
    first-is _ c.args.q _ _ _ c.score-first.ensures c.min.ensures
