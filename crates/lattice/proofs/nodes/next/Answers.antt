-- `lattice::nodes::next` meets its contract. Assumes nothing.
use Rattle.lattice.proofs.Indices.{same_row, next_row, next_layer}
use Rattle.lattice.proofs.nodes.next.Goals as goal

pub returns-then-p-n : goal.returns-then-p-n
returns-then-p-n c = same_row c.args.n c.args.p c.if-p-n.true

pub returns-then-p-n-2 : goal.returns-then-p-n-2
returns-then-p-n-2 c =
    next_row c.args.n c.args.p c.if-p-n.false c.if-p-n-2.true

pub returns : goal.returns
returns c =
    next_layer c.args.n c.args.p c.if-p-n.false c.if-p-n-2.false
