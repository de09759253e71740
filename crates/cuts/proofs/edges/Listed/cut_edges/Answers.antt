-- `cuts::edges::Listed::cut_edges` meets its contract: after e turns the places and the count are those of the first e edges, all of them cut. Assumes nothing.
use mathlib.Core.Path.{◌≡◌, sym, ap, ◌∙◌}
use native.Mathlib.Omega.{arith}
use lib.ListN.{length-set}
use Rattle.std.proofs.Common.{rules}
use Rattle.std.specs.Prelude.{Err}
use Rattle.lattice.specs.declared.Refusal.TheVariants.{ResidualNotFinite}
use Rattle.cuts.specs.Edges.{solved_in, cut_in}
use Rattle.cuts.specs.Stages.{edge_in}
use Rattle.cuts.proofs.Cutting.{has-cut, no-cut}
use Rattle.cuts.proofs.Listing.{turning_begins, turning_on, turning_35, turning_37, turning_ends}
use Rattle.cuts.proofs.edges.Listed.cut_edges.Goals as goal

pub overflow_mul-found : goal.overflow_mul-found
overflow_mul-found c = let k = c.requires.counted in omega arith

pub returns-then-cuts-found : goal.returns-then-cuts-found
returns-then-cuts-found c =
    let a = c.args.self.now in
    let solved = solved_in a.terms.now.coefficients.now a.terms.now.powers.now a.levels.now a.n a.grid.now a.values.now in
    let cut = cut_in a.terms.now.coefficients.now a.terms.now.powers.now a.levels.now a.n a.grid.now a.values.now in
    turning_35 solved cut a.edges.now c.args.cuts.now _ (omega arith)

pub loop-e-init : goal.loop-e-init
loop-e-init c =
    let a = c.args.self.now in
    let solved = solved_in a.terms.now.coefficients.now a.terms.now.powers.now a.levels.now a.n a.grid.now a.values.now in
    let cut = cut_in a.terms.now.coefficients.now a.terms.now.powers.now a.levels.now a.n a.grid.now a.values.now in
    turning_begins solved cut a.edges.now c.args.cuts.now (omega arith)

pub cut_edge-requires : goal.cut_edge-requires
cut_edge-requires c = let k = c.loop-e.invariant.count in c.requires.at c.loop-e.e (omega arith)

pub returns-in_err-cut : goal.returns-in_err-cut
returns-in_err-cut c =
    let a = c.args.self.now in
    let solved = solved_in a.terms.now.coefficients.now a.terms.now.powers.now a.levels.now a.n a.grid.now a.values.now in
    let cut = cut_in a.terms.now.coefficients.now a.terms.now.powers.now a.levels.now a.n a.grid.now a.values.now in
    let h = no-cut a.terms.now.coefficients.now a.terms.now.powers.now a.levels.now a.n a.grid.now a.values.now (edge_in a.edges.now c.loop-e.e) (sym c.in_err-cut.was ∙ c.cut_edge.ensures) in
    let e : c.from_residual.result ≡ Err c.in_err-cut.field-0.0 = search rules in
    let r : c.from_residual.result ≡ Err ResidualNotFinite = e ∙ ap Err h.0 in
    rw r (λ es q. turning_37 solved cut a.edges.now c.args.cuts.now c.loop-e.invariant _ es q c.loop-e-test.true h.1)

pub bounds-cuts-e : goal.bounds-cuts-e
bounds-cuts-e c =
    let room = c.loop-e.invariant.room in
    let size = c.loop-e.invariant.size in
    omega arith

pub bounds-cuts-e-in-loop-e : goal.bounds-cuts-e-in-loop-e
bounds-cuts-e-in-loop-e c =
    let room = c.loop-e.invariant.room in
    let size = c.loop-e.invariant.size in
    simp length-set (omega arith)

pub bounds-cuts-e-in-loop-e-2 : goal.bounds-cuts-e-in-loop-e-2
bounds-cuts-e-in-loop-e-2 c =
    let room = c.loop-e.invariant.room in
    let size = c.loop-e.invariant.size in
    simp length-set (omega arith)

pub overflow_add-taken : goal.overflow_add-taken
overflow_add-taken c =
    let a = c.args.self.now in
    let h = has-cut a.terms.now.coefficients.now a.terms.now.powers.now a.levels.now a.n a.grid.now a.values.now (edge_in a.edges.now c.loop-e.e) (sym c.in_ok-cut.was ∙ c.cut_edge.ensures) in
    let few = h.few in
    let bound = c.loop-e.invariant.bound in
    let count = c.loop-e.invariant.count in
    let many = c.requires.counted in
    omega arith

pub loop-e-preserved : goal.loop-e-preserved
loop-e-preserved c =
    let a = c.args.self.now in
    let solved = solved_in a.terms.now.coefficients.now a.terms.now.powers.now a.levels.now a.n a.grid.now a.values.now in
    let cut = cut_in a.terms.now.coefficients.now a.terms.now.powers.now a.levels.now a.n a.grid.now a.values.now in
    let h = has-cut a.terms.now.coefficients.now a.terms.now.powers.now a.levels.now a.n a.grid.now a.values.now (edge_in a.edges.now c.loop-e.e) (sym c.in_ok-cut.was ∙ c.cut_edge.ensures) in
    turning_on solved cut a.edges.now c.args.cuts.now c.loop-e.invariant c.loop-e-test.true _ _ h.point_is h.taken_is h.few h.whole

pub returns : goal.returns
returns c =
    let a = c.args.self.now in
    let solved = solved_in a.terms.now.coefficients.now a.terms.now.powers.now a.levels.now a.n a.grid.now a.values.now in
    let cut = cut_in a.terms.now.coefficients.now a.terms.now.powers.now a.levels.now a.n a.grid.now a.values.now in
    λ es q. turning_ends solved cut a.edges.now c.args.cuts.now c.loop-e.invariant _ es q c.loop-e-test.false
