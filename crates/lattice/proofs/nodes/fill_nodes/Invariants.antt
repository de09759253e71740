-- `lattice::nodes::fill_nodes` meets its contract. Assumes nothing.
use Rattle.lattice.proofs.Stores.{Filling}
use Rattle.lattice.proofs.nodes.fill_nodes.Given as goal

abbrev pub invariant-loop-a : goal.invariant-loop-a
invariant-loop-a l = Filling l.terms.coefficients.now l.terms.powers.now l.bounds l.cells l.initial.grid l.initial.values l.index l.grid l.values l.a
