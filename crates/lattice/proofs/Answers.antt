-- A call is answered with 0 just where it passes the questions; its counts are then small. Assumes nothing.
use mathlib.Core.Path.{◌≡◌, refl, sym, ap, ◌∙◌}
use mathlib.Core.Logic.{◌↔◌}
use mathlib.Core.Bool.{Bool, true, false, ◌&&◌}
use Prim.Native.Nat.{◌*◌, ◌≤◌}
use native.Mathlib.Omega.{arith}
use lib.Dec.{leb}
use lib.ListN.{length}
use borrow.Author.Tests.{leb-true, le-leb}
use Rattle.float.specs.Order.{is_finite}
use Rattle.surface.proofs.Bools.{both}
use Rattle.field.specs.Valid.{every, sheet_ok}
use Rattle.lattice.specs.Node.{per_side, cube}
use Rattle.lattice.specs.Sample.{SampledField, LatticeLists, Lattice, all_sampled, number, nodes, lower_level, upper_level, raw_values, lattice_values, lattice_edges, or_refused, after_nodes, lattice_of, lattice_number}
use Rattle.lattice.specs.Laws.{Samples}
use Rattle.lattice.specs.Stages.{nodes_in, edges_in}
use Rattle.std.specs.Prelude.{Ok}
use Rattle.lattice.specs.declared.Sampled.{Sampled}
use Rattle.lattice.specs.declared.Refusal.{Refusal}
use Rattle.lattice.specs.declared.Refusal.TheVariants.{FieldSheet, Cells, Room, ValueNotFinite, ResidualNotFinite}
use Rattle.lattice.proofs.Indices.{cube-small}
use Rattle.lattice.proofs.Noting.{among-few}

-- 0 is no refusal's number
never_zero : (why : Refusal) → number why ≡ 0 → ⊥
never_zero FieldSheet e = omega arith
never_zero Cells e = omega arith
never_zero Room e = omega arith
never_zero ValueNotFinite e = omega arith
never_zero ResidualNotFinite e = omega arith

passes : (b : Bool) (why : Refusal) (later : Lattice) → lattice_number (or_refused b why later) ≡ 0 → (b ≡ true) × (lattice_number later ≡ 0)
passes true why later e = (refl, e)
passes false why later e = absurd (never_zero why e)

module _ (f : SampledField) (lent : LatticeLists) where
  pub zero-passes : lattice_number (lattice_of f lent) ≡ 0 → Samples f lent
  unfolding lattice_of after_nodes
  zero-passes e =
      let a = passes (sheet_ok f.coefficients f.powers f.levels f.bounds) FieldSheet _ e in
      let b = passes (leb 4 f.cells && leb f.cells 128) Cells _ a.1 in
      let c = passes (leb (nodes f.cells * 3) (length lent.grid) && leb (nodes f.cells) (length lent.values)) Room _ b.1 in
      let d = passes (every is_finite (raw_values f)) ValueNotFinite _ c.1 in
      let e' = passes (leb (length (lattice_edges f) * 3) (length lent.edges)) Room _ d.1 in
      let range = both (leb 4 f.cells) (leb f.cells 128) b.0 in
      let room = both (leb (nodes f.cells * 3) (length lent.grid)) (leb (nodes f.cells) (length lent.values)) c.0 in
      record {
        sheet = a.0;
        some = leb-true _ _ range.0;
        few = leb-true _ _ range.1;
        grid_room = leb-true _ _ room.0;
        value_room = leb-true _ _ room.1;
        finite = d.0;
        edge_room = leb-true _ _ e'.0;
      }

  pub passes-sampled : Samples f lent → lattice_of f lent ≡ all_sampled (nodes f.cells) (length (lattice_edges f))
  unfolding lattice_of after_nodes
  passes-sampled s =
      rw (s.sheet, le-leb 4 f.cells s.some, le-leb f.cells 128 s.few, le-leb (nodes f.cells * 3) (length lent.grid) s.grid_room, le-leb (nodes f.cells) (length lent.values) s.value_room, s.finite, le-leb (length (lattice_edges f) * 3) (length lent.edges) s.edge_room) refl

  pub zero_means : (lattice_number (lattice_of f lent) ≡ 0) ↔ Samples f lent
  zero_means = (zero-passes, λ s. ap lattice_number (passes-sampled s))

  -- up to 129³ nodes, and fourteen edges a node
  pub small-counts : (s : Sampled) → lattice_of f lent ≡ Ok s → (s.nodes ≤ 2146689) × (s.edges ≤ 30053646)
  unfolding lattice_edges
  small-counts r e =
      let s = zero-passes (ap lattice_number e) in
      let few = s.few in
      let q = sym e ∙ passes-sampled s in
      let c : nodes f.cells ≤ 2146689 = cube-small (per_side f.cells) (omega arith) in
      let a = among-few (per_side f.cells) (lower_level f) (upper_level f) (lattice_values f) 0 (cube (per_side f.cells) * 14) in
      let en : r.nodes ≡ nodes f.cells = ap nodes_in q in
      let em : r.edges ≡ length (lattice_edges f) = ap edges_in q in
      (omega arith, omega arith)
