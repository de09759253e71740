-- `flips::shape_before` meets its contract. Assumes nothing.
use Rattle.flips.proofs.Steps.{before-is}
use Rattle.flips.proofs.shape_before.Goals as goal

pub returns : goal.returns
returns c =
    before-is c.args.work.now c.args.kept c.args.q _ _ _ c.get_float.ensures c.get_float-2.ensures c.min.ensures
