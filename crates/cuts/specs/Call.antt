-- Cutting the edges of a sampled field (document 02, F-7): the answer of every call, and each list afterwards. Definitions only.
use Rattle.std.specs.Prelude.{ℕ, ◌*◌, ◌≡◌, cond, List, [], ◌∷◌, leb, length, Float, Result, Ok, Err}
use Rattle.std.specs.Result.{result_unwrap_or}
use Rattle.blank.specs.Blank.{then_blank}
use Rattle.float.specs.declared.Point.{Point}
use Rattle.field.specs.Number.{plus_zero}
use Rattle.lattice.specs.Node.{per_side}
use Rattle.lattice.specs.Edges.{Edge}
use Rattle.lattice.specs.Sample.{SampledField, LatticeLists, Lattice, all_sampled, lattice_grid, lattice_values, lattice_edges, lattice_of, lattice_number, when_sampled, LatticeGiven}
use Rattle.lattice.specs.declared.Refusal.{Refusal}
use Rattle.lattice.specs.declared.Refusal.TheVariants.{Room, ResidualNotFinite}
use Rattle.solve.specs.declared.Solved.{Solved}
use Rattle.cuts.specs.Edges.{solved_in, cut_in, all_cut?, fields_taken, cut_numbers}
use Rattle.cuts.specs.declared.Complete.{Complete}

-- the lists that a call is lent for its answers: those of sampling, and one for the cuts
pub record CutLists : Type 0 where
  pub lattice : LatticeLists
  pub cuts : List Float

abbrev pub cut_lists : LatticeLists → List Float → CutLists
cut_lists lattice cuts = record { lattice = lattice; cuts = cuts }

-- ---- the edges of a sampled field

abbrev pub solved_edge : SampledField → Edge → Solved
solved_edge f = solved_in f.coefficients f.powers f.levels (per_side f.cells) (lattice_grid f) (lattice_values f)

abbrev pub edge_cut_point : SampledField → Edge → Point
edge_cut_point f = cut_in f.coefficients f.powers f.levels (per_side f.cells) (lattice_grid f) (lattice_values f)

-- ---- the answer

-- how many nodes and edges there are, and how many field values were taken on edges, or why there are none
abbrev pub Cuts : Type 0
Cuts = Result Complete Refusal

abbrev pub all_complete : (nodes edges taken : ℕ) → Cuts
all_complete nodes edges taken = Ok (record { nodes = nodes; edges = edges; taken = taken })

-- what it counts: nothing after a refusal
abbrev pub counted_in : Cuts → Complete
counted_in r = result_unwrap_or r (record { nodes = 0; edges = 0; taken = 0 })

-- with so many nodes, edges solved so and places for cuts
unfoldable pub cuts_of : (Edge → Solved) → (nodes : ℕ) → List Edge → (cut_places : ℕ) → Cuts
unfolding all_cut? fields_taken
cuts_of solved nodes es cut_places =
    -- Has the list of cuts room?
    cond (leb (length es * 3) cut_places)
    -- Is every residual finite?
    (cond (all_cut? solved es) (all_complete nodes (length es) (fields_taken solved es)) (Err ResidualNotFinite))
    (Err Room)

-- first sampling's questions
unfoldable pub after_sampling : SampledField → (cut_places : ℕ) → Lattice → Cuts
unfolding cuts_of lattice_edges solved_in
after_sampling f cut_places (Ok sampled) = cuts_of (solved_edge f) sampled.nodes (lattice_edges f) cut_places
after_sampling f cut_places (Err why) = Err why

abbrev pub cutting_of : SampledField → CutLists → Cuts
cutting_of f lent = after_sampling f (length lent.cuts) (lattice_of f lent.lattice)

-- sampling's part of an answer
abbrev pub lattice_in : Cuts → Lattice
lattice_in (Ok c) = all_sampled c.nodes c.edges
lattice_in (Err why) = Err why

-- 0 where the edges are cut, else the number of the refusal
abbrev pub cuts_number : Cuts → ℕ
cuts_number r = lattice_number (lattice_in r)

-- nodes in the grid, nodes in the values, edges, cuts; all 0 after a refusal
abbrev pub cuts_counts : Cuts → List ℕ
cuts_counts (Ok c) = c.nodes ∷ c.nodes ∷ c.edges ∷ c.edges ∷ []
cuts_counts (Err why) = 0 ∷ 0 ∷ 0 ∷ 0 ∷ []

-- field values taken on edges
abbrev pub cuts_fields : Cuts → ℕ
cuts_fields (Ok c) = c.taken
cuts_fields (Err why) = 0

-- ---- the lists afterwards: each is what it is given, then 0; nothing is given after a refusal

pub record CutsGiven (r : Cuts) (f : SampledField) (lent after : CutLists) : Type 0 where
  pub lattice : LatticeGiven (lattice_in r) f lent.lattice after.lattice
  pub cuts : after.cuts ≡ then_blank plus_zero lent.cuts (when_sampled (lattice_in r) (cut_numbers (edge_cut_point f) (lattice_edges f)))

-- What `cut` promises of every call.
pub record CutsCall (f : SampledField) (lent after : CutLists) (r : Cuts) : Type 0 where
  pub answer : r ≡ cutting_of f lent
  pub given : CutsGiven r f lent after
