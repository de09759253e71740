-- What the functions of `lattice` are handed and what they leave: indices of nodes, the fronts of the lists, edges noted one after the other. Definitions only.
use Rattle.std.specs.Prelude.{ℕ, ◌+◌, ◌*◌, ◌≤◌, ◌<◌, ◌≡◌, cond, List, ltb, length, take, Float}
use Rattle.std.specs.Result.{result_unwrap_or}
use Rattle.std.proofs.lemmas.List.Edits.{sets}
use Rattle.blank.specs.Blank.{blank}
use Rattle.field.specs.Number.{plus_zero}
use Rattle.lattice.specs.Node.{cube, along_x, along_y, along_z, grid}
use Rattle.lattice.specs.Values.{sampled}
use Rattle.lattice.specs.Edges.{Edge, step_x, step_y, step_z, stays_inside, step_end, edge_words}
use Rattle.lattice.specs.Sample.{SampledField, LatticeLists, Lattice, nodes, lattice_grid, lattice_values, lattice_edges, when_sampled}
use Rattle.lattice.specs.declared.Sampled.{Sampled}
use Rattle.lattice.specs.declared.nodes.Index.{Index}

-- ---- indices

abbrev pub index_of : ℕ → ℕ → Index
index_of n a = record { x = along_x n a; y = along_y n a; z = along_z n a }

-- what the step d adds
abbrev pub step_index : ℕ → Index
step_index d = record { x = step_x d; y = step_y d; z = step_z d }

-- the index after p, with n nodes to a side
abbrev pub next_index : ℕ → Index → Index
next_index n p =
    cond (ltb (p.x + 1) n) (record { x = p.x + 1; y = p.y; z = p.z })
    (cond (ltb (p.y + 1) n) (record { x = 0; y = p.y + 1; z = p.z }) (record { x = 0; y = 0; z = p.z + 1 }))

-- an index of the lattice, of 1 to 129 nodes to a side
pub record InLattice (n : ℕ) (p : Index) : Type 0 where
  pub few : n ≤ 129
  pub x : p.x < n
  pub y : p.y < n
  pub z : p.z < n

-- node a has the index p
pub record AtNode (n a : ℕ) (p : Index) : Type 0 where
  pub some : 1 ≤ n
  pub few : n ≤ 129
  pub inside : a < cube n
  pub index : p ≡ index_of n a

-- ---- nodes and values

-- a grid with room for all nodes, and a value list of just their number
pub record Fillable (cells : ℕ) (grid₀ values₀ : List Float) : Type 0 where
  pub few : cells ≤ 128
  pub grid_places : nodes cells * 3 ≤ length grid₀
  pub value_places : length values₀ ≡ nodes cells

pub record NodesFilled (qs : List Float) (ns : List ℕ) (bounds : List Float) (cells : ℕ) (grid₀ grid₁ values₁ : List Float) : Type 0 where
  pub grid_front : grid₁ ≡ sets grid₀ 0 (grid bounds cells (nodes cells))
  pub values : values₁ ≡ sampled qs ns bounds cells (nodes cells)

-- ---- edges

-- where the step d from node a ends, a itself where it leaves the lattice
abbrev pub end_or_start : ℕ → ℕ → ℕ → ℕ
end_or_start n a d = cond (stays_inside n a d) (step_end n a d) a

-- the edges `new` stand behind the `count` that were there; what has no place is only counted
pub record EdgesNoted (new : List Edge) (count : ℕ) (list : List ℕ) (count' : ℕ) (list' : List ℕ) : Type 0 where
  pub number : count' ≡ count + length new
  pub stored : list' ≡ sets list (count * 3) (edge_words new)

-- ---- the lists

-- how many nodes and edges an answer has: none after a refusal
abbrev pub counts_in : Lattice → Sampled
counts_in r = result_unwrap_or r (record { nodes = 0; edges = 0 })

abbrev pub nodes_in : Lattice → ℕ
nodes_in r = (counts_in r).nodes

abbrev pub edges_in : Lattice → ℕ
edges_in r = (counts_in r).edges

-- the answer is `lattice`, and the fronts of the lists have what it counts
pub record FrontsFilled (lattice : Lattice) (f : SampledField) (lent after : LatticeLists) (r : Lattice) : Type 0 where
  pub answer : r ≡ lattice
  pub grid_length : length after.grid ≡ length lent.grid
  pub value_length : length after.values ≡ length lent.values
  pub edge_length : length after.edges ≡ length lent.edges
  pub grid_places : nodes_in r * 3 ≤ length lent.grid
  pub value_places : nodes_in r ≤ length lent.values
  pub edge_places : edges_in r * 3 ≤ length lent.edges
  pub grid_front : take (nodes_in r * 3) after.grid ≡ when_sampled r (lattice_grid f)
  pub value_front : take (nodes_in r) after.values ≡ when_sampled r (lattice_values f)
  pub edge_front : take (edges_in r * 3) after.edges ≡ edge_words (when_sampled r (lattice_edges f))

-- the lists have places for so many nodes and edges
pub record HasRoom (nodes found : ℕ) (l : LatticeLists) : Type 0 where
  pub grid : nodes * 3 ≤ length l.grid
  pub values : nodes ≤ length l.values
  pub edges : found * 3 ≤ length l.edges

-- the lists are 0 behind these
pub record BlankBehind (nodes found : ℕ) (l after : LatticeLists) : Type 0 where
  pub grid : after.grid ≡ blank plus_zero l.grid (nodes * 3)
  pub values : after.values ≡ blank plus_zero l.values nodes
  pub edges : after.edges ≡ blank 0 l.edges (found * 3)
