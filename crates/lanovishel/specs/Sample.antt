-- `lanovishel_sample` for every call: document 02's number, grid, values and edges, which are 0 behind what is given and all 0 after a refusal, and how many nodes, nodes and edges are given, all 0 after a refusal. The other lists are only read. Definitions only.
use Rattle.std.specs.Prelude.{ℕ, ◌≡◌, ◌↔◌, List, take}
use Rattle.blank.specs.Blank.{then_blank}
use Rattle.lattice.specs.Node.{per_side}
use Rattle.lattice.specs.Edges.{Edge, edge_words}
use Rattle.lattice.specs.Sample.{SampledField, LatticeLists, nodes, lower_level, upper_level, lattice_of, lattice_number, lattice_counts, LatticeGiven}
use Rattle.lattice.specs.Laws.{Samples, ListsCrossed}

pub record SampleCall (f : SampledField) (lent after : LatticeLists) (counts' : List ℕ) (number : ℕ) : Type 0 where
  pub answer : number ≡ lattice_number (lattice_of f lent)
  pub given : LatticeGiven (lattice_of f lent) f lent after
  pub counts : counts' ≡ lattice_counts (lattice_of f lent)

-- what is proved of calls, in `proofs/SampleLaws`
pub record SampleLaws : Type 0 where
  -- 0 is answered just where the questions are passed
  pub zero_asked : (f : SampledField) (lent after : LatticeLists) (counts' : List ℕ) (number : ℕ) → SampleCall f lent after counts' number → (number ≡ 0) ↔ Samples f lent
  -- the edge list that is lent then holds, by the values that are given, every crossed edge exactly once and no other, rising by node, step and label, and then 0
  pub edges-given : (f : SampledField) (lent after : LatticeLists) (counts' : List ℕ) → SampleCall f lent after counts' 0
      → (es : List Edge) × (after.edges ≡ then_blank 0 lent.edges (edge_words es)) × ListsCrossed (per_side f.cells) (lower_level f) (upper_level f) (take (nodes f.cells) after.values) es
