-- `cuts::edges::Listed::cut_edge` meets its contract, by those of the functions that it calls. Assumes nothing.
use mathlib.Core.Path.{ap}
use Prim.Native.Nat.{ℕ, ◌+◌}
use Rattle.cuts.specs.Stages.{edge_in}
use Rattle.cuts.proofs.Cutting.{edge_is_cut, edge_not_cut}
use Rattle.cuts.proofs.edges.Listed.cut_edge.Goals as goal

pub returns-in-Some : goal.returns-in-Some
returns-in-Some c =
    let a = c.args.self.now in
    let e = edge_in a.edges.now c.args.e in
    edge_is_cut a.terms.now.coefficients.now a.terms.now.powers.now a.levels.now a.n a.grid.now a.values.now e c.point_at-a.result c.point_at-b.result c.level_of-level.result (e.node + c.offset.result) c.solve-solved.result
    (ap (λ (k : ℕ). e.node + k) c.offset.ensures) c.point_at-a.ensures c.point_at-b.ensures c.level_of-level.ensures c.solve-solved.ensures
    _ _ c.in-Some.is c.cut_point.ensures

pub returns-in-None : goal.returns-in-None
returns-in-None c =
    let a = c.args.self.now in
    let e = edge_in a.edges.now c.args.e in
    edge_not_cut a.terms.now.coefficients.now a.terms.now.powers.now a.levels.now a.n a.grid.now a.values.now e c.point_at-a.result c.point_at-b.result c.level_of-level.result (e.node + c.offset.result) c.solve-solved.result
    (ap (λ (k : ℕ). e.node + k) c.offset.ensures) c.point_at-a.ensures c.point_at-b.ensures c.level_of-level.ensures c.solve-solved.ensures
    c.in-None.is
