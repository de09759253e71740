-- A call put together from its parts: what sampling leaves is what the edges are cut by, the answer by the tests, and the fronts of the lists. Assumes nothing.
use mathlib.Core.Path.{◌≡◌, refl, sym, ap, ◌∙◌, subst}
use mathlib.Core.Bool.{Bool, true, false, cond}
use mathlib.Core.List.{List}
use Prim.Native.Nat.{ℕ, ◌+◌, ◌*◌, ◌≤◌, ◌<◌}
use native.Mathlib.Omega.{arith}
use lib.Dec.{leb}
use lib.ListN.{length, get_or, take}
use lib.Seq.{length-take-le}
use lib.Ieee.{Float}
use Rattle.blank.specs.Blank.{blank}
use Rattle.field.specs.Number.{plus_zero}
use Rattle.lattice.specs.Node.{per_side, cube}
use Rattle.lattice.specs.Edges.{Edge, step_end, edge_words}
use Rattle.lattice.specs.Sample.{SampledField, LatticeLists, Lattice, all_sampled, nodes, lower_level, upper_level, lattice_grid, lattice_values, lattice_edges, lattice_of, lattice_number}
use Rattle.lattice.specs.Laws.{CrossedEdge, no_edge, Samples}
use Rattle.lattice.specs.Stages.{counts_in, edges_in, FrontsFilled, HasRoom, BlankBehind}
use Rattle.std.specs.Prelude.{Ok, Err}
use Rattle.lattice.specs.declared.Sampled.{Sampled}
use Rattle.lattice.specs.declared.Refusal.{Refusal}
use Rattle.lattice.specs.declared.Refusal.TheVariants.{Room, ResidualNotFinite}
use Rattle.lattice.proofs.Indices.{step-inside}
use Rattle.lattice.proofs.Stores.{grid-length, values_length}
use Rattle.lattice.proofs.Noting.{words-length}
use Rattle.lattice.proofs.Listed.{lattice-listed, listed-crossed}
use Rattle.lattice.proofs.Call as Call
use Rattle.lattice.proofs.Answers.{zero-passes, passes-sampled, small-counts}
use Rattle.cuts.specs.Edges.{solved_in, cut_in, all_cut?, fields_taken}
use Rattle.cuts.specs.Call.{CutLists, cut_lists, solved_edge, edge_cut_point, Cuts, all_complete, counted_in, cuts_of, after_sampling, lattice_in, CutsCall}
use Rattle.cuts.specs.Stages.{AtEdge, AtEdges, EdgesCut, ListCut, CutFronts}
use Rattle.cuts.specs.declared.Complete.{Complete}
use Rattle.cuts.proofs.Listing.{edge_at}

-- ---- a listed edge of a sampled field

module _ (f : SampledField) where
  pub edge-crossed : (i : ℕ) → i < length (lattice_edges f) → CrossedEdge (per_side f.cells) (lower_level f) (upper_level f) (lattice_values f) (get_or (lattice_edges f) i no_edge)
  edge-crossed = listed-crossed (lattice-listed f)

  at-lattice : f.cells ≤ 128 → length (lattice_edges f) ≤ 30053646 → AtEdges (per_side f.cells) (lattice_grid f) (lattice_values f) (edge_words (lattice_edges f))
  at-lattice few counted = record { at = at; counted = let l = words-length (lattice_edges f) in omega (arith, l) }
    where
      at : (e : ℕ) → e * 3 + 2 < length (edge_words (lattice_edges f)) → AtEdge (per_side f.cells) (lattice_grid f) (lattice_values f) (edge_words (lattice_edges f)) e
      at e h =
          let l : length (edge_words (lattice_edges f)) ≡ length (lattice_edges f) * 3 = words-length (lattice_edges f) in
          let i : e < length (lattice_edges f) = omega arith in
          let x = edge-crossed e i in
          let q = edge_at (lattice_edges f) e i in
          record {
            few = omega arith;
            points = grid-length f.bounds f.cells (nodes f.cells);
            numbers = values_length f;
            place = h;
            step = subst (λ (d : Edge). d.step < 7) (sym q) x.step;
            first = subst (λ (d : Edge). d.node < cube (per_side f.cells)) (sym q) x.node;
            second = subst (λ (d : Edge). step_end (per_side f.cells) d.node d.step < cube (per_side f.cells)) (sym q) (step-inside (per_side f.cells) (get_or (lattice_edges f) e no_edge).node (get_or (lattice_edges f) e no_edge).step x.x x.y x.z);
          }

  -- ---- what sampling leaves

  module _ {lent after : LatticeLists} {s : Sampled} (fronts : FrontsFilled (lattice_of f lent) f lent after (Ok s)) where
    passed : Samples f lent
    passed = zero-passes f lent (ap lattice_number (sym fronts.answer))

    counts : Ok s ≡ all_sampled (nodes f.cells) (length (lattice_edges f))
    counts = fronts.answer ∙ passes-sampled f lent passed

    all_edges : s.edges ≡ length (lattice_edges f)
    all_edges = ap edges_in counts

    pub few-edges : s.edges ≤ 30053646
    few-edges = (small-counts f lent s (sym fronts.answer)).1

    pub few-nodes : s.nodes ≤ 2146689
    few-nodes = (small-counts f lent s (sym fronts.answer)).0

    by_side : AtEdges (per_side f.cells) (take (s.nodes * 3) after.grid) (take s.nodes after.values) (take (s.edges * 3) after.edges)
    by_side =
        subst (λ (g : List Float). AtEdges (per_side f.cells) g (take s.nodes after.values) (take (s.edges * 3) after.edges)) (sym fronts.grid_front)
        (subst (λ (v : List Float). AtEdges (per_side f.cells) (lattice_grid f) v (take (s.edges * 3) after.edges)) (sym fronts.value_front)
        (subst (AtEdges (per_side f.cells) (lattice_grid f) (lattice_values f)) (sym fronts.edge_front)
        (at-lattice passed.few (subst (λ (k : ℕ). k ≤ 30053646) all_edges few-edges))))

    pub at-edges : {n : ℕ} → n ≡ per_side f.cells → AtEdges n (take (s.nodes * 3) after.grid) (take s.nodes after.values) (take (s.edges * 3) after.edges)
    at-edges side = subst (λ (k : ℕ). AtEdges k (take (s.nodes * 3) after.grid) (take s.nodes after.values) (take (s.edges * 3) after.edges)) (sym side) by_side

    -- the answer where the edges are cut, and sampling's part of it
    kept : (places : ℕ) → FrontsFilled (lattice_in (cuts_of (solved_edge f) s.nodes (lattice_edges f) places)) f lent after (lattice_in (cuts_of (solved_edge f) s.nodes (lattice_edges f) places))
    unfolding cuts_of
    kept places = go (leb (length (lattice_edges f) * 3) places) (all_cut? (solved_edge f) (lattice_edges f))
      where
        none : (why : Refusal) → FrontsFilled (Err why) f lent after (Err why)
        none why = Call.refused f (Err why) why refl fronts.grid_length fronts.value_length fronts.edge_length

        go : (b c : Bool) → FrontsFilled (lattice_in (cond b (cond c (all_complete s.nodes (length (lattice_edges f)) (fields_taken (solved_edge f) (lattice_edges f))) (Err ResidualNotFinite)) (Err Room))) f lent after
            (lattice_in (cond b (cond c (all_complete s.nodes (length (lattice_edges f)) (fields_taken (solved_edge f) (lattice_edges f))) (Err ResidualNotFinite)) (Err Room)))
        go true true =
            let whole = subst (λ (l : Lattice). FrontsFilled l f lent after (Ok s)) (sym fronts.answer) fronts in
            subst (λ (k : ℕ). FrontsFilled (all_sampled s.nodes k) f lent after (all_sampled s.nodes k)) all_edges whole
        go true false = none ResidualNotFinite
        go false c = none Room

    pub cut_fronts : {c₀ c₁ : List Float} {answer : Cuts} {n : ℕ} → n ≡ per_side f.cells → ListCut f.coefficients f.powers f.levels n (take (s.nodes * 3) after.grid) (take s.nodes after.values) (take (s.edges * 3) after.edges) c₀ c₁ answer
        → CutFronts f (cut_lists lent c₀) (cut_lists after c₁) answer
    unfolding after_sampling
    cut_fronts {c₀} {c₁} {answer} {n} side l = record {
      answer = e.answer ∙ ap (after_sampling f (length c₀)) fronts.answer;
      lattice = subst (λ (q : Cuts). FrontsFilled (lattice_in q) f lent after (lattice_in q)) (sym e.answer) (kept (length c₀));
      size = e.size;
      room = e.room;
      front = e.front;
    }
      where
        by-lists : EdgesCut (solved_in f.coefficients f.powers f.levels (per_side f.cells) (take (s.nodes * 3) after.grid) (take s.nodes after.values))
            (cut_in f.coefficients f.powers f.levels (per_side f.cells) (take (s.nodes * 3) after.grid) (take s.nodes after.values)) (length (take s.nodes after.values)) (lattice_edges f) c₀ c₁ answer
        by-lists = subst (λ (k : ℕ). ListCut f.coefficients f.powers f.levels k (take (s.nodes * 3) after.grid) (take s.nodes after.values) (take (s.edges * 3) after.edges) c₀ c₁ answer) side l (lattice_edges f) fronts.edge_front

        room : s.nodes ≤ length after.values
        room = let a = fronts.value_places in let b = fronts.value_length in omega arith

        e : EdgesCut (solved_edge f) (edge_cut_point f) s.nodes (lattice_edges f) c₀ c₁ answer
        e =
            subst (λ (g : List Float). EdgesCut (solved_in f.coefficients f.powers f.levels (per_side f.cells) g (lattice_values f)) (cut_in f.coefficients f.powers f.levels (per_side f.cells) g (lattice_values f)) s.nodes (lattice_edges f) c₀ c₁ answer) fronts.grid_front
            (subst (λ (v : List Float). EdgesCut (solved_in f.coefficients f.powers f.levels (per_side f.cells) (take (s.nodes * 3) after.grid) v) (cut_in f.coefficients f.powers f.levels (per_side f.cells) (take (s.nodes * 3) after.grid) v) s.nodes (lattice_edges f) c₀ c₁ answer) fronts.value_front
            (subst (λ (k : ℕ). EdgesCut (solved_in f.coefficients f.powers f.levels (per_side f.cells) (take (s.nodes * 3) after.grid) (take s.nodes after.values)) (cut_in f.coefficients f.powers f.levels (per_side f.cells) (take (s.nodes * 3) after.grid) (take s.nodes after.values)) k (lattice_edges f) c₀ c₁ answer)
            (length-take-le s.nodes after.values room) by-lists))

  pub not_sampled : {lent after : LatticeLists} {c : List Float} {why : Refusal} → FrontsFilled (lattice_of f lent) f lent after (Err why) → CutFronts f (cut_lists lent c) (cut_lists after c) (Err why)
  unfolding after_sampling
  not_sampled {lent} {after} {c} {why} t = record {
    answer = ap (after_sampling f (length c)) t.answer;
    lattice = subst (λ (l : Lattice). FrontsFilled l f lent after (Err why)) (sym t.answer) t;
    size = refl;
    room = omega arith;
    front = refl;
  }

  -- ---- 0 behind the fronts

  -- what is counted of the nodes and the edges
  counted-lattice : (r : Cuts) {s : Complete} → s ≡ counted_in r → record { nodes = s.nodes; edges = s.edges } ≡ counts_in (lattice_in r)
  counted-lattice (Ok c) e = ap (λ (x : Complete). record { nodes = x.nodes; edges = x.edges }) e
  counted-lattice (Err why) e = ap (λ (x : Complete). record { nodes = x.nodes; edges = x.edges }) e

  pub cut_room_lem : {lent after : CutLists} {r : Cuts} {s : Complete} → CutFronts f lent after r → s ≡ counted_in r → HasRoom s.nodes s.edges after.lattice × (s.edges * 3 ≤ length after.cuts)
  cut_room_lem {lent} {after} {r} {s} u e =
      let k = counted-lattice r e in
      let h = u.room in
      let m : s.edges ≡ edges_in (lattice_in r) = ap (λ (x : Sampled). x.edges) k in
      (Call.room f u.lattice k, omega (arith, u.size))

  pub cuts_called : {lent filled after : CutLists} {r : Cuts} {s : Complete} → CutFronts f lent filled r → s ≡ counted_in r → BlankBehind s.nodes s.edges filled.lattice after.lattice
      → after.cuts ≡ blank plus_zero filled.cuts (s.edges * 3) → CutsCall f lent after r
  cuts_called {lent} {filled} {after} {r} {s} u e b k =
      let q = counted-lattice r e in
      record {
        answer = u.answer;
        given = record {
          lattice = Call.given f u.lattice (subst (λ (x : Sampled). BlankBehind x.nodes x.edges filled.lattice after.lattice) q b);
          cuts = k ∙ ap (λ (x : Sampled). blank plus_zero filled.cuts (x.edges * 3)) q ∙ Call.behind plus_zero lent.cuts filled.cuts (edges_in (lattice_in r) * 3) u.size u.room u.front;
        };
      }
