-- `lattice::nodes::node` meets its contract. Assumes nothing.
use Rattle.field.proofs.Sums.{same_point}
use Rattle.lattice.proofs.nodes.node.Goals as goal

pub returns : goal.returns
returns c = same_point c.coordinate.ensures c.coordinate-2.ensures c.coordinate-3.ensures
