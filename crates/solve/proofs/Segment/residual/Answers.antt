-- `solve::Segment::residual` meets its contract. Assumes nothing.
use Rattle.solve.specs.Solve.{residual}
use Rattle.solve.proofs.Segment.residual.Goals as goal

pub returns : goal.returns
unfolding residual
returns c = cc
