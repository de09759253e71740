-- `lattice::edges::Nodes::note_step` meets its contract. Assumes nothing.
use mathlib.Core.Path.{ap}
use native.Mathlib.Omega.{arith}
use Rattle.lattice.specs.Edges.{value_at}
use Rattle.lattice.proofs.Indices.{end_or_start-inside}
use Rattle.lattice.proofs.Noting.{noted_more, noted-same, by-labels}
use Rattle.lattice.proofs.edges.Nodes.note_step.Goals as goal

pub bounds-self-b : goal.bounds-self-b
bounds-self-b c =
    let e = end_or_start-inside c.args.self.now.n c.args.a c.args.d c.requires.0.inside in
    let r = c.step_end-b.ensures in
    omega (arith, c.args.self.now.each)

pub returns : goal.returns
returns c =
    let s = c.args.self.now in
    noted-same (by-labels s.n s.lower s.upper s.values.now c.args.a c.args.d c.requires.0.inside c.requires.1 _ (ap (value_at s.values.now) c.step_end-b.ensures)) (noted_more c.note-more.ensures.0 c.note.ensures.0)
