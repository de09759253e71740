-- `lattice::Told::fill` meets its contract. Assumes nothing.
use mathlib.Core.Path.{◌∙◌}
use native.Mathlib.Omega.{arith}
use Rattle.lattice.specs.Sample.{field_told}
use Rattle.lattice.proofs.Call.{fills_36, few-found, fills_35, fills_all}
use Rattle.lattice.proofs.Told.fill.Goals as goal

pub returns-then-not-all_finite : goal.returns-then-not-all_finite
returns-then-not-all_finite c =
    fills_36 (field_told c.args.self.now) c.requires c.fill_nodes.ensures _ c.all_finite.ensures c.fill_nodes.auto.values c.if-not-all_finite.true

pub overflow_mul-found : goal.overflow_mul-found
overflow_mul-found c =
    let same = c.set_onto_levels.auto.values ∙ c.fill_nodes.auto.values in
    let few = few-found (field_told c.args.self.now) c.requires c.fill_nodes.ensures _ c.all_finite.ensures c.if-not-all_finite.false c.set_onto_levels.ensures same c.side.ensures c.note_edges-found.ensures in
    omega arith

pub returns-then-edges-found : goal.returns-then-edges-found
returns-then-edges-found c =
    let same = c.set_onto_levels.auto.values ∙ c.fill_nodes.auto.values in
    fills_35 (field_told c.args.self.now) c.requires c.fill_nodes.ensures _ c.all_finite.ensures c.if-not-all_finite.false c.set_onto_levels.ensures same c.side.ensures c.note_edges-found.ensures c.if-edges-found.true

pub returns : goal.returns
returns c =
    let same = c.set_onto_levels.auto.values ∙ c.fill_nodes.auto.values in
    fills_all (field_told c.args.self.now) c.requires c.fill_nodes.ensures _ c.all_finite.ensures c.if-not-all_finite.false c.set_onto_levels.ensures same c.side.ensures c.note_edges-found.ensures c.if-edges-found.false
