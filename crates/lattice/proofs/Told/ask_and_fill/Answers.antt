-- `lattice::Told::ask_and_fill` meets its contract. Assumes nothing.
use mathlib.Core.Path.{refl}
use mathlib.Core.Logic.{inl, inr}
use native.Mathlib.Omega.{arith}
use Rattle.field.proofs.Checks.{failed, held}
use Rattle.lattice.specs.Sample.{field_told, lists}
use Rattle.lattice.specs.declared.Refusal.TheVariants.{FieldSheet, Cells, Room}
use Rattle.lattice.proofs.Call.{refused, refused_13, not_cells, no_room, fillable, lent-front}
use Rattle.lattice.proofs.Told.ask_and_fill.Goals as goal

pub returns-then-not-sheet_ok : goal.returns-then-not-sheet_ok
returns-then-not-sheet_ok c =
    let a = c.args in
    let f = field_told c.args.self.now in
    let lent = lists a.grid.now a.values.now a.edges.now in
    refused _ _ FieldSheet (refused_13 f lent (failed c.sheet_ok.ensures c.if-not-sheet_ok.true)) refl refl refl

pub returns-then-cells-lt4 : goal.returns-then-cells-lt4
returns-then-cells-lt4 c =
    let a = c.args in
    let f = field_told c.args.self.now in
    let lent = lists a.grid.now a.values.now a.edges.now in
    refused _ _ Cells (not_cells f lent (held c.sheet_ok.ensures c.if-not-sheet_ok.false) (elim c.then-cells-lt4.either [ inl h ↦ inl (omega arith) | inr h ↦ inr h.1 ])) refl refl refl

pub returns-then-grid-count : goal.returns-then-grid-count
returns-then-grid-count c =
    let a = c.args in
    let f = field_told c.args.self.now in
    let lent = lists a.grid.now a.values.now a.edges.now in
    refused _ _ Room (no_room f lent (held c.sheet_ok.ensures c.if-not-sheet_ok.false) (omega arith) c.if-cells-gt128.false c.side-n.ensures c.then-grid-count.either) refl refl refl

pub fill-requires : goal.fill-requires
fill-requires c =
    let a = c.args in
    let f = field_told c.args.self.now in
    let lent = lists a.grid.now a.values.now a.edges.now in
    fillable f lent (held c.sheet_ok.ensures c.if-not-sheet_ok.false) (omega arith) c.if-cells-gt128.false c.side-n.ensures c.if-grid-count.false c.if-values-count.false

pub returns : goal.returns
returns c =
    let a = c.args in
    let f = field_told c.args.self.now in
    let lent = lists a.grid.now a.values.now a.edges.now in
    lent-front f lent (held c.sheet_ok.ensures c.if-not-sheet_ok.false) (omega arith) c.if-cells-gt128.false c.side-n.ensures c.if-grid-count.false c.if-values-count.false c.fill.ensures
