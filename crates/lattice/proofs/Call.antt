-- A call put together from its parts: the answer by the tests, what a refusal leaves, the fronts of the lists, and 0 behind them. Assumes nothing.
use mathlib.Core.Path.{◌≡◌, refl, sym, ap, ◌∙◌, subst}
use mathlib.Core.Bool.{Bool, true, false, and-false}
use mathlib.Core.Logic.{◌⊎◌, inl, inr}
use lib.Dec.{leb}
use mathlib.Core.List.{List, ◌++◌}
use Prim.Native.Nat.{ℕ, ◌+◌, ◌*◌, ◌≤◌, ◌<◌}
use native.Mathlib.Omega.{arith}
use lib.ListN.{length, take, drop, length-append, length-drop}
use lib.Seq.{length-sets, take-length, take-append-le, length-take-le}
use lib.Ieee.{Float}
use borrow.Author.Tests.{le-leb, lt-leb}
use Rattle.blank.specs.Blank.{blank, then_blank}
use Rattle.blank.proofs.Blanking.{blank-is}
use Rattle.float.specs.Order.{is_finite}
use Rattle.field.specs.Number.{plus_zero}
use Rattle.field.specs.Valid.{every, sheet_ok}
use Rattle.field.proofs.Checks.{failed, held}
use Rattle.lattice.specs.Node.{per_side, cube}
use Rattle.lattice.specs.Values.{onto_levels}
use Rattle.lattice.specs.Edges.{crossed_edges, edge_words}
use Rattle.lattice.specs.Sample.{SampledField, LatticeLists, Lattice, all_sampled, lists, nodes, lower_level, upper_level, lattice_grid, raw_values, lattice_values, lattice_edges, after_nodes, lattice_of, LatticeGiven, LatticeCall}
use Rattle.lattice.specs.Stages.{Fillable, NodesFilled, EdgesNoted, counts_in, nodes_in, edges_in, FrontsFilled, HasRoom, BlankBehind}
use Rattle.std.specs.Prelude.{Err}
use Rattle.lattice.specs.declared.Sampled.{Sampled}
use Rattle.lattice.specs.declared.Refusal.{Refusal}
use Rattle.lattice.specs.declared.Refusal.TheVariants.{FieldSheet, Cells, Room, ValueNotFinite}
use Rattle.lattice.proofs.Indices.{cube-small}
use Rattle.lattice.proofs.Stores.{front, grid-length}
use Rattle.lattice.proofs.Noting.{noted-length, noted-same, words-length, among-few}

-- a list with what is made in front, and 0 behind
pub behind : {A : Type 0} (z : A) (lent l : List A) {made : List A} (n : ℕ) → length l ≡ length lent → n ≤ length lent → take n l ≡ made → blank z l n ≡ then_blank z lent made
behind z lent l {made} n same h t = blank-is z lent l made n same t (sym (ap length t) ∙ length-take-le n l (omega arith))

module _ (f : SampledField) where
  -- a refusal leaves lists of the same lengths
  pub refused : {lent after : LatticeLists} (lattice : Lattice) (why : Refusal) → lattice ≡ Err why → length after.grid ≡ length lent.grid → length after.values ≡ length lent.values → length after.edges ≡ length lent.edges
      → FrontsFilled lattice f lent after (Err why)
  unfolding edge_words
  refused lattice why q g v e = record {
    answer = sym q;
    grid_length = g;
    value_length = v;
    edge_length = e;
    grid_places = omega arith;
    value_places = omega arith;
    edge_places = omega arith;
    grid_front = refl;
    value_front = refl;
    edge_front = refl;
  }

  -- ---- `fill`

  not_finite : (places : ℕ) → every is_finite (raw_values f) ≡ false → after_nodes f places ≡ Err ValueNotFinite
  unfolding after_nodes
  not_finite places p = rw p refl

  short : (places : ℕ) → every is_finite (raw_values f) ≡ true → places < length (lattice_edges f) * 3 → after_nodes f places ≡ Err Room
  unfolding after_nodes
  short places p h = rw (p, lt-leb (length (lattice_edges f) * 3) places h) refl

  all : (places : ℕ) → every is_finite (raw_values f) ≡ true → length (lattice_edges f) * 3 ≤ places → after_nodes f places ≡ all_sampled (nodes f.cells) (length (lattice_edges f))
  unfolding after_nodes
  all places p h = rw (p, le-leb (length (lattice_edges f) * 3) places h) refl

  module _ {g₀ v₀ g₁ v₁ : List Float} (fits : Fillable f.cells g₀ v₀) (n : NodesFilled f.coefficients f.powers f.bounds f.cells g₀ g₁ v₁) (b : Bool) (tested : b ≡ every is_finite v₁) where
    grid-same : length g₁ ≡ length g₀
    grid-same = ap length n.grid_front ∙ length-sets g₀ 0 (lattice_grid f)

    pub fills_36 : {e₀ : List ℕ} → length v₁ ≡ length v₀ → b ≡ false → FrontsFilled (after_nodes f (length e₀)) f (lists g₀ v₀ e₀) (lists g₁ v₁ e₀) (Err ValueNotFinite)
    fills_36 {e₀} same q = refused _ ValueNotFinite (not_finite (length e₀) (sym (ap (every is_finite) n.values) ∙ failed tested q)) grid-same same refl

    module _ (q : b ≡ true) {v₂ : List Float} (settled : v₂ ≡ onto_levels (lower_level f) (upper_level f) v₁) (kept : length v₂ ≡ length v₀)
        {k : ℕ} (side : k ≡ per_side f.cells) {e₀ e₁ : List ℕ} {found : ℕ} (noted : EdgesNoted (crossed_edges k (lower_level f) (upper_level f) v₂) 0 e₀ found e₁) where
      noted_side : EdgesNoted (crossed_edges (per_side f.cells) (lower_level f) (upper_level f) v₂) 0 e₀ found e₁
      noted_side = subst (λ (m : ℕ). EdgesNoted (crossed_edges m (lower_level f) (upper_level f) v₂) 0 e₀ found e₁) side noted

      finite : every is_finite (raw_values f) ≡ true
      finite = sym (ap (every is_finite) n.values) ∙ held tested q

      final : v₂ ≡ lattice_values f
      unfolding lattice_values
      final = settled ∙ ap (onto_levels (lower_level f) (upper_level f)) n.values

      listed : EdgesNoted (lattice_edges f) 0 e₀ found e₁
      unfolding lattice_edges
      listed = noted-same (ap (crossed_edges (per_side f.cells) (lower_level f) (upper_level f)) final) noted_side

      counted : found ≡ length (lattice_edges f)
      counted = let m : found ≡ 0 + length (lattice_edges f) = listed.number in omega arith

      -- no more than fourteen a node
      pub few-found : found ≤ 30053646
      few-found =
          let m : found ≡ 0 + length (crossed_edges (per_side f.cells) (lower_level f) (upper_level f) v₂) = noted_side.number in
          let a = among-few (per_side f.cells) (lower_level f) (upper_level f) v₂ 0 (cube (per_side f.cells) * 14) in
          let k = fits.few in
          let c : cube (per_side f.cells) ≤ 2146689 = cube-small (per_side f.cells) (omega arith) in
          omega arith

      pub fills_35 : length e₁ < found * 3 → FrontsFilled (after_nodes f (length e₀)) f (lists g₀ v₀ e₀) (lists g₁ v₂ e₁) (Err Room)
      fills_35 h =
          let l = noted-length listed in
          let m = counted in
          refused _ Room (short (length e₀) finite (omega arith)) grid-same kept l

      pub fills_all : found * 3 ≤ length e₁ → FrontsFilled (after_nodes f (length e₀)) f (lists g₀ v₀ e₀) (lists g₁ v₂ e₁) (all_sampled (length v₂) found)
      fills_all h =
          let l : length e₁ ≡ length e₀ = noted-length listed in
          let m : found ≡ length (lattice_edges f) = counted in
          let w : length (edge_words (lattice_edges f)) ≡ found * 3 = words-length (lattice_edges f) ∙ ap (λ (k : ℕ). k * 3) (sym m) in
          let s : length v₂ ≡ nodes f.cells = kept ∙ fits.value_places in
          let r : nodes f.cells * 3 ≤ length g₀ = fits.grid_places in
          record {
            answer = ap (λ (k : ℕ). all_sampled k found) s ∙ ap (all_sampled (nodes f.cells)) m ∙ sym (all (length e₀) finite (omega arith));
            grid_length = grid-same;
            value_length = kept;
            edge_length = l;
            grid_places = omega arith;
            value_places = omega arith;
            edge_places = omega arith;
            grid_front =
                ap (λ (k : ℕ). take (k * 3) g₁) s ∙ ap (take (nodes f.cells * 3)) n.grid_front
                ∙ front g₀ (lattice_grid f) (nodes f.cells * 3) (grid-length f.bounds f.cells (nodes f.cells)) r;
            value_front = take-length v₂ ∙ final;
            edge_front = ap (take (found * 3)) listed.stored ∙ front e₀ (edge_words (lattice_edges f)) (found * 3) w (omega arith);
          }

  -- ---- `ask_and_fill`

  module _ (lent : LatticeLists) where
    pub refused_13 : sheet_ok f.coefficients f.powers f.levels f.bounds ≡ false → lattice_of f lent ≡ Err FieldSheet
    unfolding lattice_of
    refused_13 p = rw p refl

    module _ (sheet : sheet_ok f.coefficients f.powers f.levels f.bounds ≡ true) where
      pub not_cells : (f.cells < 4) ⊎ (128 < f.cells) → lattice_of f lent ≡ Err Cells
      unfolding lattice_of
      not_cells (inl h) = rw (sheet, lt-leb 4 f.cells h) refl
      not_cells (inr h) = rw (sheet, lt-leb f.cells 128 h, and-false (leb 4 f.cells)) refl

      module _ (some : 4 ≤ f.cells) (few : f.cells ≤ 128) where
        little_room : (length lent.grid < nodes f.cells * 3) ⊎ ((nodes f.cells * 3 ≤ length lent.grid) × (length lent.values < nodes f.cells)) → lattice_of f lent ≡ Err Room
        unfolding lattice_of
        little_room (inl h) = rw (sheet, le-leb 4 f.cells some, le-leb f.cells 128 few, lt-leb (nodes f.cells * 3) (length lent.grid) h) refl
        little_room (inr h) = rw (sheet, le-leb 4 f.cells some, le-leb f.cells 128 few, lt-leb (nodes f.cells) (length lent.values) h.1, and-false (leb (nodes f.cells * 3) (length lent.grid))) refl

        pub no_room : {n : ℕ} → n ≡ per_side f.cells → (length lent.grid < cube n * 3) ⊎ ((cube n * 3 ≤ length lent.grid) × (length lent.values < cube n)) → lattice_of f lent ≡ Err Room
        no_room side h = little_room (subst (λ (k : ℕ). (length lent.grid < cube k * 3) ⊎ ((cube k * 3 ≤ length lent.grid) × (length lent.values < cube k))) side h)

        module _ {n : ℕ} (side : n ≡ per_side f.cells) (room : cube n * 3 ≤ length lent.grid) where
          room_for_all : nodes f.cells * 3 ≤ length lent.grid
          room_for_all = subst (λ (k : ℕ). cube k * 3 ≤ length lent.grid) side room

          pub fillable : cube n ≤ length lent.values → Fillable f.cells lent.grid (take (cube n) lent.values)
          fillable h = record { few = few; grid_places = room_for_all; value_places = length-take-le (cube n) lent.values h ∙ ap cube side }

          in_room : nodes f.cells ≤ length lent.values → lattice_of f lent ≡ after_nodes f (length lent.edges)
          unfolding lattice_of
          in_room h = rw (sheet, le-leb 4 f.cells some, le-leb f.cells 128 few, le-leb (nodes f.cells * 3) (length lent.grid) room_for_all, le-leb (nodes f.cells) (length lent.values) h) refl

          -- the front of the values is lent
          pub lent-front : {g₁ v : List Float} {e₁ : List ℕ} {r : Lattice} → cube n ≤ length lent.values
              → FrontsFilled (after_nodes f (length lent.edges)) f (lists lent.grid (take (cube n) lent.values) lent.edges) (lists g₁ v e₁) r
              → FrontsFilled (lattice_of f lent) f lent (lists g₁ (v ++ drop (cube n) lent.values) e₁) r
          lent-front {g₁} {v} {e₁} {r} h t =
              let s : length (take (cube n) lent.values) ≡ cube n = length-take-le (cube n) lent.values h in
              let l : length v ≡ length (take (cube n) lent.values) = t.value_length in
              let p : nodes_in r ≤ length (take (cube n) lent.values) = t.value_places in
              record {
                answer = t.answer ∙ sym (in_room (subst (λ (k : ℕ). cube k ≤ length lent.values) side h));
                grid_length = t.grid_length;
                value_length = length-append v (drop (cube n) lent.values) ∙ omega (arith, length-drop (cube n) lent.values);
                edge_length = t.edge_length;
                grid_places = t.grid_places;
                value_places = omega arith;
                edge_places = t.edge_places;
                grid_front = t.grid_front;
                value_front = take-append-le (nodes_in r) v (drop (cube n) lent.values) (omega arith) ∙ t.value_front;
                edge_front = t.edge_front;
              }

  -- ---- `sample`: 0 behind the fronts

  -- an answer's counts have room
  pub room : {lent after : LatticeLists} {lattice r : Lattice} {s : Sampled} → FrontsFilled lattice f lent after r → s ≡ counts_in r → HasRoom s.nodes s.edges after
  room {lent} {after} {lattice} {r} {s} u e =
      let g = u.grid_places in
      let v = u.value_places in
      let k = u.edge_places in
      let en : s.nodes ≡ nodes_in r = ap (λ (x : Sampled). x.nodes) e in
      let ee : s.edges ≡ edges_in r = ap (λ (x : Sampled). x.edges) e in
      record { grid = omega (arith, u.grid_length); values = omega (arith, u.value_length); edges = omega (arith, u.edge_length) }

  pub given : {lent filled after : LatticeLists} {lattice r : Lattice} → FrontsFilled lattice f lent filled r → BlankBehind (nodes_in r) (edges_in r) filled after → LatticeGiven r f lent after
  given {lent} {filled} {after} {lattice} {r} u b = record {
    grid = b.grid ∙ behind plus_zero lent.grid filled.grid (nodes_in r * 3) u.grid_length u.grid_places u.grid_front;
    values = b.values ∙ behind plus_zero lent.values filled.values (nodes_in r) u.value_length u.value_places u.value_front;
    edges = b.edges ∙ behind 0 lent.edges filled.edges (edges_in r * 3) u.edge_length u.edge_places u.edge_front;
  }

  pub called : {lent filled after : LatticeLists} {r : Lattice} {s : Sampled} → FrontsFilled (lattice_of f lent) f lent filled r → s ≡ counts_in r → BlankBehind s.nodes s.edges filled after → LatticeCall f lent after r
  called {lent} {filled} {after} {r} {s} u e b =
      record { answer = u.answer; given = given u (subst (λ (x : Sampled). BlankBehind x.nodes x.edges filled after) e b) }
