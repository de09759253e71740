-- `lattice::edges::Nodes::note_edges` meets its contract. The list has the edges of the nodes so far. Assumes nothing.
use mathlib.Core.Path.{◌≡◌}
use Prim.Native.Nat.{◌*◌}
use Rattle.lattice.specs.Edges.{crossed_among}
use Rattle.lattice.specs.Stages.{index_of, EdgesNoted}
use Rattle.lattice.proofs.edges.Nodes.note_edges.Given as goal

abbrev pub invariant-loop-a : goal.invariant-loop-a
invariant-loop-a l = (l.index ≡ index_of l.self.n l.a) × EdgesNoted (crossed_among l.self.n l.self.lower l.self.upper l.self.values.now 0 (l.a * 14)) 0 l.initial.list l.found l.list
