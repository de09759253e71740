-- What is shown of sampling (document 02, F-2): the list of crossed edges holds every one of them exactly once and no other, and rises by node, step and label (`lattice-listed` of `proofs/Listed`); its steps end where they say (`step-laws` of `proofs/Indices`); a call is answered with 0 just where it passes the questions (`zero_means` of `proofs/Answers`). Definitions only.
use Rattle.std.specs.Prelude.{ℕ, ◌+◌, ◌*◌, ◌<◌, ◌≤◌, ◌≡◌, ◌⊎◌, Bool, true, ◌&&◌, cond, List, [], ◌∷◌, eqb, length, get_or, Float}
use Rattle.std.specs.Float.Ieee as Ieee
use Rattle.float.specs.Order.{is_finite}
use Rattle.field.specs.Valid.{every, sheet_ok}
use Rattle.lattice.specs.Node.{cube, along_x, along_y, along_z}
use Rattle.lattice.specs.Edges.{Edge, step_x, step_y, step_z, stays_inside, step_end, level_of, value_at}
use Rattle.lattice.specs.Sample.{SampledField, LatticeLists, nodes, raw_values, lattice_edges}

-- an edge that stays in the lattice, whose label's level is finite, above the value at one end and not above that at the other
pub record CrossedEdge (n : ℕ) (lower upper : Float) (values : List Float) (e : Edge) : Type 0 where
  pub node : e.node < cube n
  pub step : e.step < 7
  pub label : e.label < 2
  pub x : along_x n e.node + step_x e.step < n
  pub y : along_y n e.node + step_y e.step < n
  pub z : along_z n e.node + step_z e.step < n
  pub finite : is_finite (level_of lower upper e.label) ≡ true
  pub apart : Ieee.lt (value_at values e.node) (level_of lower upper e.label) ≡ Ieee.lt (value_at values (step_end n e.node e.step)) (level_of lower upper e.label) → ⊥

-- how often an edge stands in a list
abbrev pub same_edge? : Edge → Edge → Bool
same_edge? e f = eqb e.node f.node && (eqb e.step f.step && eqb e.label f.label)

unfoldable pub times_listed : Edge → List Edge → ℕ
times_listed e [] = 0
times_listed e (f ∷ fs) = cond (same_edge? e f) 1 0 + times_listed e fs

-- e comes before f: by node, then by step, then by label
abbrev pub EdgeBefore : Edge → Edge → Type 0
EdgeBefore e f = (e.node < f.node) ⊎ ((e.node ≡ f.node) × ((e.step < f.step) ⊎ ((e.step ≡ f.step) × (e.label < f.label))))

-- any edge, for places past the end, which are never read
abbrev pub no_edge : Edge
no_edge = record { node = 0; step = 0; label = 0 }

pub record ListsCrossed (n : ℕ) (lower upper : Float) (values : List Float) (es : List Edge) : Type 0 where
  pub once : (e : Edge) → CrossedEdge n lower upper values e → times_listed e es ≡ 1
  pub no_other : (e : Edge) → (CrossedEdge n lower upper values e → ⊥) → times_listed e es ≡ 0
  pub rising : (i j : ℕ) → i < j → j < length es → EdgeBefore (get_or es i no_edge) (get_or es j no_edge)
  -- so that there are no more than fourteen a node
  pub few : length es ≤ cube n * 14

-- a step that stays in the lattice ends at a node, whose index is further along x, y and z by what the step adds
pub record StepLaws : Type 0 where
  pub at-node : (n a d : ℕ) → stays_inside n a d ≡ true → step_end n a d < cube n
  pub further-x : (n a d : ℕ) → stays_inside n a d ≡ true → along_x n (step_end n a d) ≡ along_x n a + step_x d
  pub further-y : (n a d : ℕ) → stays_inside n a d ≡ true → along_y n (step_end n a d) ≡ along_y n a + step_y d
  pub further-z : (n a d : ℕ) → stays_inside n a d ≡ true → along_z n (step_end n a d) ≡ along_z n a + step_z d

-- a call that passes the questions
pub record Samples (f : SampledField) (lent : LatticeLists) : Type 0 where
  pub sheet : sheet_ok f.coefficients f.powers f.levels f.bounds ≡ true
  pub some : 4 ≤ f.cells
  pub few : f.cells ≤ 128
  pub grid_room : nodes f.cells * 3 ≤ length lent.grid
  pub value_room : nodes f.cells ≤ length lent.values
  pub finite : every is_finite (raw_values f) ≡ true
  pub edge_room : length (lattice_edges f) * 3 ≤ length lent.edges
