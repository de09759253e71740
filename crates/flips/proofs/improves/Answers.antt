-- `flips::improves` meets its contract: where the first shape alone does not gain, the worse of both does not. Assumes nothing.
use Rattle.flips.proofs.Steps.{improves_not, improves-is}
use Rattle.flips.proofs.improves.Goals as goal

pub returns-then-not-gains : goal.returns-then-not-gains
returns-then-not-gains c =
    improves_not _ _ _ _ _ _ _ _ _ c.shape_before-x.ensures c.evens-even.ensures c.shape_first-first.ensures c.gains.result c.gains.ensures (c.if-not-gains.true)

pub returns : goal.returns
returns c =
    improves-is _ _ _ _ _ _ _ _ _ c.shape_before-x.ensures c.evens-even.ensures c.shape_first-first.ensures c.score-second.result c.min.result c.gains-2.result c.score-second.ensures c.min.ensures c.gains-2.ensures
