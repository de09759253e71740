-- `lattice::edges::Nodes::note_edges` meets its contract. The list has the edges of the nodes so far. Assumes nothing.
use mathlib.Core.Path.{ap, ◌∙◌}
use Prim.Native.Nat.{◌*◌}
use native.Mathlib.Omega.{arith}
use Rattle.lattice.specs.Stages.{next_index}
use Rattle.lattice.proofs.Indices.{first-index, next-index}
use Rattle.lattice.proofs.Noting.{noted_nothing, noted_more, noted-same, among-few, among-node, among_none}
use Rattle.lattice.proofs.edges.Nodes.note_edges.Goals as goal

pub loop-a-init : goal.loop-a-init
loop-a-init c = (first-index _, noted-same (among_none _ _ _ _ _) (noted_nothing _ _))

pub note_node-found-requires : goal.note_node-found-requires
note_node-found-requires c =
    let s = c.args.self.now in
    let f = among-few s.n s.lower s.upper s.values.now 0 (c.loop-a.a * 14) in
    let q = c.loop-a.invariant.1.number in
    (record { some = s.some; few = s.few; inside = omega (arith, s.each); index = c.loop-a.invariant.0 }, omega arith)

pub loop-a-preserved : goal.loop-a-preserved
loop-a-preserved c =
    let s = c.args.self.now in (
      c.next-index.ensures ∙ ap (next_index s.n) c.loop-a.invariant.0 ∙ next-index s.n c.loop-a.a s.some,
      noted-same (among-node s.n s.lower s.upper s.values.now c.loop-a.a) (noted_more c.loop-a.invariant.1 c.note_node-found.ensures),
    )
