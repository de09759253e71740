-- Sampling a field (document 02, F-2): the answer of every call, and each list afterwards. Definitions only.
use Rattle.std.specs.Prelude.{ℕ, ◌*◌, ◌≡◌, Bool, ◌&&◌, cond, List, [], ◌∷◌, leb, length, get_or, Float, Result, Ok, Err}
use Rattle.std.specs.Float.{nan}
use Rattle.blank.specs.Blank.{then_blank}
use Rattle.float.specs.Order.{is_finite}
use Rattle.field.specs.Number.{plus_zero}
use Rattle.field.specs.Valid.{every, sheet_ok}
use Rattle.lattice.specs.Node as Node
use Rattle.lattice.specs.Node.{per_side, cube}
use Rattle.lattice.specs.Values.{sampled, onto_levels}
use Rattle.lattice.specs.Edges.{Edge, crossed_edges, edge_words}
use Rattle.lattice.specs.declared.Told.{Told}
use Rattle.lattice.specs.declared.Sampled.{Sampled}
use Rattle.lattice.specs.declared.Refusal.{Refusal}
use Rattle.lattice.specs.declared.Refusal.TheVariants.{FieldSheet, Cells, Room, ValueNotFinite, ResidualNotFinite}

-- what a call is told: a field sheet, its levels and its box, and how many cells there are to a side
pub record SampledField : Type 0 where
  pub coefficients : List Float
  pub powers : List ℕ
  pub levels : List Float
  pub bounds : List Float
  pub cells : ℕ

-- the lists that it is lent for its answers
pub record LatticeLists : Type 0 where
  pub grid : List Float
  pub values : List Float
  pub edges : List ℕ

abbrev pub told : (coefficients : List Float) (powers : List ℕ) (levels bounds : List Float) (cells : ℕ) → SampledField
told coefficients powers levels bounds cells = record { coefficients = coefficients; powers = powers; levels = levels; bounds = bounds; cells = cells }

abbrev pub field_told : Told → SampledField
field_told t = told t.terms.now.coefficients.now t.terms.now.powers.now t.levels.now t.bounds.now t.cells

abbrev pub lists : (grid values : List Float) (edges : List ℕ) → LatticeLists
lists grid values edges = record { grid = grid; values = values; edges = edges }

-- ---- the lattice of a field

abbrev pub nodes : ℕ → ℕ
nodes cells = cube (per_side cells)

abbrev pub lower_level : SampledField → Float
lower_level f = get_or f.levels 0 nan

abbrev pub upper_level : SampledField → Float
upper_level f = get_or f.levels 1 nan

abbrev pub lattice_grid : SampledField → List Float
lattice_grid f = Node.grid f.bounds f.cells (nodes f.cells)

-- the field at all nodes, and those values set onto the levels
abbrev pub raw_values : SampledField → List Float
raw_values f = sampled f.coefficients f.powers f.bounds f.cells (nodes f.cells)

unfoldable pub lattice_values : SampledField → List Float
unfolding sampled
lattice_values f = onto_levels (lower_level f) (upper_level f) (raw_values f)

unfoldable pub lattice_edges : SampledField → List Edge
unfolding lattice_values
lattice_edges f = crossed_edges (per_side f.cells) (lower_level f) (upper_level f) (lattice_values f)

-- ---- the answer

-- how many nodes there are and how many crossed edges, or why there are none
abbrev pub Lattice : Type 0
Lattice = Result Sampled Refusal

abbrev pub all_sampled : (nodes edges : ℕ) → Lattice
all_sampled nodes edges = Ok (record { nodes = nodes; edges = edges })

abbrev pub number : Refusal → ℕ
number FieldSheet = 13
number Cells = 34
number Room = 35
number ValueNotFinite = 36
number ResidualNotFinite = 37

-- what is asked, and what comes after it: "no" is why
abbrev pub or_refused : Bool → Refusal → Lattice → Lattice
or_refused answer why later = cond answer later (Err why)

-- the questions that are answered on the way; else how many nodes there are and how many crossed edges
unfoldable pub after_nodes : SampledField → (edge_places : ℕ) → Lattice
unfolding lattice_edges
after_nodes f edge_places =
    -- Is every value finite?
    or_refused (every is_finite (raw_values f)) ValueNotFinite
    -- Has the edge list room?
    (or_refused (leb (length (lattice_edges f) * 3) edge_places) Room
    (all_sampled (nodes f.cells) (length (lattice_edges f))))

unfoldable pub lattice_of : SampledField → LatticeLists → Lattice
unfolding sheet_ok after_nodes
lattice_of f lent =
    -- Field sheet, levels and box as document 01 has them?
    or_refused (sheet_ok f.coefficients f.powers f.levels f.bounds) FieldSheet
    -- 4 to 128 cells?
    (or_refused (leb 4 f.cells && leb f.cells 128) Cells
    -- Have grid and value list room?
    (or_refused (leb (nodes f.cells * 3) (length lent.grid) && leb (nodes f.cells) (length lent.values)) Room
    (after_nodes f (length lent.edges))))

-- 0 where the field is sampled, else the number of the refusal
abbrev pub lattice_number : Lattice → ℕ
lattice_number (Ok sampled) = 0
lattice_number (Err why) = number why

-- nodes in the grid, nodes in the values, edges; all 0 after a refusal
abbrev pub lattice_counts : Lattice → List ℕ
lattice_counts (Ok s) = s.nodes ∷ s.nodes ∷ s.edges ∷ []
lattice_counts (Err why) = 0 ∷ 0 ∷ 0 ∷ []

-- ---- the lists afterwards

-- what a list is given: nothing after a refusal
abbrev pub when_sampled : {A : Type 0} → Lattice → List A → List A
when_sampled (Ok sampled) l = l
when_sampled (Err why) l = []

-- each list is what it is given, then 0
pub record LatticeGiven (r : Lattice) (f : SampledField) (lent after : LatticeLists) : Type 0 where
  pub grid : after.grid ≡ then_blank plus_zero lent.grid (when_sampled r (lattice_grid f))
  pub values : after.values ≡ then_blank plus_zero lent.values (when_sampled r (lattice_values f))
  pub edges : after.edges ≡ then_blank 0 lent.edges (edge_words (when_sampled r (lattice_edges f)))

-- What `sample` promises of every call.
pub record LatticeCall (f : SampledField) (lent after : LatticeLists) (r : Lattice) : Type 0 where
  pub answer : r ≡ lattice_of f lent
  pub given : LatticeGiven r f lent after
