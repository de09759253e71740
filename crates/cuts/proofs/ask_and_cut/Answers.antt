-- `cuts::ask_and_cut` meets its contract. Assumes nothing.
use mathlib.Core.Path.{◌≡◌}
use Rattle.std.specs.Prelude.{Err}
use Rattle.std.proofs.Common.{rules}
use Rattle.lattice.specs.Sample.{field_told}
use Rattle.cuts.proofs.Answering.{at-edges, cut_fronts, not_sampled}
use Rattle.cuts.proofs.ask_and_cut.Goals as goal

pub cut_edges-requires : goal.cut_edges-requires
cut_edges-requires c = at-edges (field_told c.args.told.now) c.in_ok-sampled.ensures c.side.ensures

pub returns-in_err-sampled : goal.returns-in_err-sampled
returns-in_err-sampled c =
    let e : c.from_residual.result ≡ Err c.in_err-sampled.field-0.0 = search rules in
    rw e (not_sampled (field_told c.args.told.now) c.in_err-sampled.ensures)

pub returns : goal.returns
returns c = cut_fronts (field_told c.args.told.now) c.in_ok-sampled.ensures c.side.ensures c.cut_edges.ensures
