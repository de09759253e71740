-- `cuts::edges::Listed::cut_edges` meets its contract: after e turns the places and the count are those of the first e edges, all of them cut. Assumes nothing.
use Rattle.cuts.specs.Edges.{solved_in, cut_in}
use Rattle.cuts.proofs.Listing.{Turning}
use Rattle.cuts.proofs.edges.Listed.cut_edges.Given as goal

abbrev pub invariant-loop-e : goal.invariant-loop-e
invariant-loop-e l =
    Turning (solved_in l.self.terms.now.coefficients.now l.self.terms.now.powers.now l.self.levels.now l.self.n l.self.grid.now l.self.values.now) (cut_in l.self.terms.now.coefficients.now l.self.terms.now.powers.now l.self.levels.now l.self.n l.self.grid.now l.self.values.now) l.self.edges.now l.initial.cuts l.cuts l.found l.taken l.e
