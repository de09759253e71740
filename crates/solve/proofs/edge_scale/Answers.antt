-- `solve::edge_scale` meets its contract, by those of the functions that it calls. Assumes nothing.
use Rattle.solve.specs.Solve.{edge_scale}
use Rattle.solve.proofs.edge_scale.Goals as goal

pub returns : goal.returns
unfolding edge_scale
returns c = cc
