-- `lattice::edges::Nodes::note_node` meets its contract. The list has the edges of the steps so far. Assumes nothing.
use Prim.Native.Nat.{◌*◌}
use Rattle.lattice.specs.Edges.{crossed_among}
use Rattle.lattice.specs.Stages.{EdgesNoted}
use Rattle.lattice.proofs.edges.Nodes.note_node.Given as goal

abbrev pub invariant-loop-d : goal.invariant-loop-d
invariant-loop-d l = EdgesNoted (crossed_among l.self.n l.self.lower l.self.upper l.self.values.now (l.a * 14) (l.d * 2)) l.count l.initial.list l.found l.list
