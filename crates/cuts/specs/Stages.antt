-- What the functions of `cuts` are handed and what they leave: the nodes of listed edges, and the fronts of the lists. Definitions only.
use Rattle.std.specs.Prelude.{ℕ, ◌+◌, ◌*◌, ◌≤◌, ◌<◌, ◌≡◌, List, length, take, get_or, cond, Float, Result, Ok, Err}
use Rattle.float.specs.declared.Point.{Point}
use Rattle.lattice.specs.Node.{cube}
use Rattle.lattice.specs.Edges.{Edge, step_end, edge_words}
use Rattle.lattice.specs.Sample.{SampledField, lattice_edges, when_sampled}
use Rattle.lattice.specs.Stages.{edges_in, FrontsFilled}
use Rattle.solve.specs.declared.Solved.{Solved}
use Rattle.cuts.specs.Edges.{solved_in, cut_in, is_cut, cut_numbers}
use Rattle.cuts.specs.Call.{CutLists, edge_cut_point, Cuts, cuts_of, cutting_of, lattice_in}
use Rattle.lattice.specs.declared.Refusal.{Refusal}
use Rattle.lattice.specs.declared.Refusal.TheVariants.{ResidualNotFinite}
use Rattle.cuts.specs.declared.edges.EdgeCut.{EdgeCut}

-- edge e of a list, three words each
abbrev pub edge_in : List ℕ → ℕ → Edge
edge_in edges e = record { node = get_or edges (e * 3) 0; step = get_or edges (e * 3 + 1) 0; label = get_or edges (e * 3 + 2) 0 }

-- its cut, with what it took, if it has one
unfoldable pub edge_cut : List Float → List ℕ → List Float → ℕ → List Float → List Float → Edge → Result EdgeCut Refusal
unfolding solved_in cut_in is_cut
edge_cut qs ns levels n grid values e =
    cond (is_cut (solved_in qs ns levels n grid values e).cut)
    (Ok (record { point = cut_in qs ns levels n grid values e; taken = (solved_in qs ns levels n grid values e).taken }))
    (Err ResidualNotFinite)

-- the lists have edge e and its two nodes, of n to a side
pub record AtEdge (n : ℕ) (grid values : List Float) (edges : List ℕ) (e : ℕ) : Type 0 where
  pub few : n ≤ 129
  pub points : length grid ≡ cube n * 3
  pub numbers : length values ≡ cube n
  pub place : e * 3 + 2 < length edges
  pub step : (edge_in edges e).step < 7
  pub first : (edge_in edges e).node < cube n
  pub second : step_end n (edge_in edges e).node (edge_in edges e).step < cube n

-- and so of every edge; they are not too many to be counted
pub record AtEdges (n : ℕ) (grid values : List Float) (edges : List ℕ) : Type 0 where
  pub at : (e : ℕ) → e * 3 + 2 < length edges → AtEdge n grid values edges e
  pub counted : length edges ≤ 4294967296

-- the answer by how the edges are solved, and the front of the cuts
pub record EdgesCut (solved : Edge → Solved) (cut : Edge → Point) (nodes : ℕ) (es : List Edge) (cuts₀ cuts₁ : List Float) (r : Cuts) : Type 0 where
  pub answer : r ≡ cuts_of solved nodes es (length cuts₀)
  pub size : length cuts₁ ≡ length cuts₀
  pub room : edges_in (lattice_in r) * 3 ≤ length cuts₀
  pub front : take (edges_in (lattice_in r) * 3) cuts₁ ≡ when_sampled (lattice_in r) (cut_numbers cut es)

-- so for the edges whose words a list has
abbrev pub ListCut : (qs : List Float) (ns : List ℕ) (levels : List Float) (n : ℕ) (grid values : List Float) (edges : List ℕ) (cuts₀ cuts₁ : List Float) → Cuts → Type 0
ListCut qs ns levels n grid values edges cuts₀ cuts₁ r =
    (es : List Edge) → edges ≡ edge_words es → EdgesCut (solved_in qs ns levels n grid values) (cut_in qs ns levels n grid values) (length values) es cuts₀ cuts₁ r

-- the fronts of all lists have what the answer counts
pub record CutFronts (f : SampledField) (lent after : CutLists) (r : Cuts) : Type 0 where
  pub answer : r ≡ cutting_of f lent
  pub lattice : FrontsFilled (lattice_in r) f lent.lattice after.lattice (lattice_in r)
  pub size : length after.cuts ≡ length lent.cuts
  pub room : edges_in (lattice_in r) * 3 ≤ length lent.cuts
  pub front : take (edges_in (lattice_in r) * 3) after.cuts ≡ when_sampled (lattice_in r) (cut_numbers (edge_cut_point f) (lattice_edges f))
