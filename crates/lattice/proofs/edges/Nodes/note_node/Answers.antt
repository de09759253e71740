-- `lattice::edges::Nodes::note_node` meets its contract. The list has the edges of the steps so far. Assumes nothing.
use Prim.Native.Nat.{◌*◌}
use native.Mathlib.Omega.{arith}
use Rattle.lattice.proofs.Noting.{noted_nothing, noted_more, noted-same, among-few, among_none, among-to}
use Rattle.lattice.proofs.edges.Nodes.note_node.Goals as goal

pub loop-d-init : goal.loop-d-init
loop-d-init c = noted-same (among_none _ _ _ _ _) (noted_nothing _ _)

pub note_step-found-requires : goal.note_step-found-requires
note_step-found-requires c =
    let s = c.args.self.now in
    let f = among-few s.n s.lower s.upper s.values.now (c.args.a * 14) (c.loop-d.d * 2) in
    let q = c.loop-d.invariant.number in
    (c.requires.0, c.loop-d-test.true, omega (arith, c.requires.1))

pub loop-d-preserved : goal.loop-d-preserved
loop-d-preserved c =
    let s = c.args.self.now in
    noted-same (among-to s.n s.lower s.upper s.values.now (c.args.a * 14) c.loop-d.d) (noted_more c.loop-d.invariant c.note_step-found.ensures)
