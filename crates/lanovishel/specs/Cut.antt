-- `lanovishel_cut` for every call: document 02's number, the lists of `lanovishel_sample` and the cuts, which are 0 behind what is given and all 0 after a refusal, how many nodes, nodes, edges and cuts are given, and how many field values were taken on edges, all 0 after a refusal; and that its levels are f64s, as what stands in memory is. The other lists are only read. Definitions only.
use Rattle.std.specs.Prelude.{ℕ, ◌<◌, ◌≡◌, ◌⊎◌, ◌↔◌, true, List, [], ◌∷◌, T, length, get_or}
use Rattle.std.specs.Float.{binary64}
use Rattle.std.specs.Float.Ieee.{fits}
use Rattle.lattice.specs.Edges.{Edge}
use Rattle.lattice.specs.Sample.{SampledField, lower_level, upper_level, lattice_grid, lattice_edges}
use Rattle.lattice.specs.Laws.{no_edge, Samples}
use Rattle.solve.specs.Laws.{NodeFailed, Failed}
use Rattle.cuts.specs.Edges.{point_at, cut_point, is_cut}
use Rattle.cuts.specs.Call.{CutLists, solved_edge, cutting_of, cuts_number, cuts_counts, cuts_fields, CutsGiven}
use Rattle.cuts.specs.Laws.{CutsAll, end_node, edge_residual, node_residual, EdgeLaws, all_tried}

-- the levels are f64s; the logic's floats have other numbers, too
pub record F64Levels (f : SampledField) : Type 0 where
  pub lower : T (fits binary64 (lower_level f))
  pub upper : T (fits binary64 (upper_level f))

pub record CutCall (f : SampledField) (lent after : CutLists) (counts' fields' : List ℕ) (number : ℕ) : Type 0 where
  pub answer : number ≡ cuts_number (cutting_of f lent)
  pub given : CutsGiven (cutting_of f lent) f lent after
  pub counts : counts' ≡ cuts_counts (cutting_of f lent)
  pub fields : fields' ≡ cuts_fields (cutting_of f lent) ∷ []
  pub levels : F64Levels f

-- ---- what is proved of calls, in `proofs/CutLaws`

-- edge i of the list
abbrev pub listed_edge : SampledField → ℕ → Edge
listed_edge f i = get_or (lattice_edges f) i no_edge

-- the cut in place i: how edge i ends, not by a residual that is not finite, and its point between the edge's nodes
pub record PlaceGiven (f : SampledField) (after : CutLists) (i : ℕ) : Type 0 where
  pub laws : EdgeLaws f (listed_edge f i)
  pub whole : is_cut (solved_edge f (listed_edge f i)).cut ≡ true
  pub point : point_at after.cuts i ≡ cut_point (point_at (lattice_grid f) (listed_edge f i).node) (point_at (lattice_grid f) (end_node f (listed_edge f i))) (solved_edge f (listed_edge f i)).cut

-- edge i has a node, or a parameter in 0..1, whose residual is not finite
abbrev pub EdgeFails : SampledField → ℕ → Type 0
EdgeFails f i =
    let e = listed_edge f i in
    NodeFailed (node_residual f e e.node) (node_residual f e (end_node f e)) (solved_edge f e) ⊎ Failed (edge_residual f e) (solved_edge f e)

pub record CutLaws : Type 0 where
  -- 0 is answered just where the questions are passed
  pub zero_asked : (f : SampledField) (lent after : CutLists) (counts' fields' : List ℕ) (number : ℕ) → CutCall f lent after counts' fields' number → (number ≡ 0) ↔ CutsAll f lent
  -- every listed edge has its cut then
  pub places-given : (f : SampledField) (lent after : CutLists) (counts' fields' : List ℕ) → CutCall f lent after counts' fields' 0 → (i : ℕ) → i < length (lattice_edges f) → PlaceGiven f after i
  -- the field values that were taken are as many as there are rounds
  pub fields-given : (f : SampledField) (lent after : CutLists) (counts' fields' : List ℕ) → CutCall f lent after counts' fields' 0 → fields' ≡ length (all_tried f (lattice_edges f)) ∷ []
  -- 37 is answered only where an edge of a sampled field fails
  pub refused_37 : (f : SampledField) (lent after : CutLists) (counts' fields' : List ℕ) → CutCall f lent after counts' fields' 37
      → Samples f lent.lattice × ((i : ℕ) × (i < length (lattice_edges f)) × EdgeFails f i)
