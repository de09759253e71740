-- What is shown of cutting (document 02, F-7): a call is answered with 0 just where it passes the questions (`zero_means` of `proofs/Passing`); how each listed edge ends, and how many field values it takes (`cuts-laws` of `proofs/Ending`). Definitions only.
use Rattle.std.specs.Prelude.{ℕ, ◌*◌, ◌≤◌, ◌<◌, ◌≡◌, true, List, [], ◌∷◌, ◌++◌, length, get_or, Float}
use Rattle.lattice.specs.Node.{per_side}
use Rattle.lattice.specs.Edges.{Edge, step_end, value_at}
use Rattle.lattice.specs.Sample.{SampledField, lattice_grid, lattice_values, lattice_edges}
use Rattle.lattice.specs.Laws.{no_edge, Samples}
use Rattle.solve.specs.Laws.{Bracketed, EdgeEnds, parameters}
use Rattle.cuts.specs.Edges.{point_at, level_in, residual_along, residual_of, all_cut?, fields_taken, cut_numbers}
use Rattle.cuts.specs.Call.{CutLists, solved_edge, edge_cut_point}

-- a call that passes the questions
pub record CutsAll (f : SampledField) (lent : CutLists) : Type 0 where
  pub samples : Samples f lent.lattice
  pub cut_room : length (lattice_edges f) * 3 ≤ length lent.cuts
  pub finite : all_cut? (solved_edge f) (lattice_edges f) ≡ true

-- ---- one listed edge

-- its second node; the residuals along it and at its nodes
abbrev pub end_node : SampledField → Edge → ℕ
end_node f e = step_end (per_side f.cells) e.node e.step

abbrev pub edge_residual : SampledField → Edge → Float → Float
edge_residual f e = residual_along f.coefficients f.powers f.levels (per_side f.cells) (lattice_grid f) (lattice_values f) e

abbrev pub node_residual : SampledField → Edge → ℕ → Float
node_residual f e a = residual_of f.coefficients f.powers f.levels (per_side f.cells) (lattice_grid f) (lattice_values f) e a

-- the parameters at which field values are taken for it
abbrev pub tried_along : SampledField → Edge → List Float
tried_along f e = parameters (edge_residual f e) (level_in f.levels e.label) (node_residual f e e.node) (node_residual f e (end_node f e))

pub record EdgeLaws (f : SampledField) (e : Edge) : Type 0 where
  -- the Rust's "No bracket" does not happen
  pub bracketed : Bracketed (node_residual f e e.node) (node_residual f e (end_node f e))
  -- it ends at a node on the level, within the tolerance, midway in an interval whose ends had residuals of opposite sign, or with a residual that is not finite
  pub ends : EdgeEnds (edge_residual f e) (value_at (lattice_values f) e.node) (value_at (lattice_values f) (end_node f e)) (level_in f.levels e.label) (solved_edge f e)
  pub counted : (solved_edge f e).taken ≡ length (tried_along f e)
  pub few : (solved_edge f e).taken ≤ 52

-- ---- all of them

-- the parameters of one edge after the other
unfoldable pub all_tried : SampledField → List Edge → List Float
unfolding parameters lattice_values level_in
all_tried f [] = []
all_tried f (e ∷ es) = tried_along f e ++ all_tried f es

-- what is shown of a field whose values at the nodes are finite and whose levels are f64s
pub record CutsLaws (f : SampledField) : Type 0 where
  pub each : (i : ℕ) → i < length (lattice_edges f) → EdgeLaws f (get_or (lattice_edges f) i no_edge)
  -- a place to each
  pub place : (i : ℕ) → i < length (lattice_edges f) → point_at (cut_numbers (edge_cut_point f) (lattice_edges f)) i ≡ edge_cut_point f (get_or (lattice_edges f) i no_edge)
  -- over all edges
  pub counted : fields_taken (solved_edge f) (lattice_edges f) ≡ length (all_tried f (lattice_edges f))
