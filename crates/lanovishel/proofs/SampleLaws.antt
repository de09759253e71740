-- Laws of calls that sample a field. Assumes nothing.
use mathlib.Core.Path.{◌≡◌, sym, ap, ◌∙◌, subst}
use mathlib.Core.Logic.{◌↔◌}
use mathlib.Core.List.{List}
use Prim.Native.Nat.{ℕ}
use lib.ListN.{take}
use lib.Seq.{take_at}
use lib.Ieee.{Float}
use Rattle.blank.specs.Blank.{then_blank}
use Rattle.field.specs.Number.{plus_zero}
use Rattle.lattice.specs.Node.{per_side}
use Rattle.lattice.specs.Edges.{Edge, edge_words}
use Rattle.lattice.specs.Sample.{SampledField, LatticeLists, Lattice, nodes, lower_level, upper_level, lattice_values, lattice_edges, when_sampled}
use Rattle.lattice.specs.Laws.{Samples, ListsCrossed}
use Rattle.lattice.proofs.Answers.{zero-passes, passes-sampled, zero_means}
use Rattle.lattice.proofs.Listed.{lattice-listed}
use Rattle.lattice.proofs.Stores.{values_length}
use Rattle.lanovishel.specs.Sample.{SampleCall, SampleLaws}

given : (f : SampledField) (lent after : LatticeLists) (counts : List ℕ) → SampleCall f lent after counts 0
    → (es : List Edge) × (after.edges ≡ then_blank 0 lent.edges (edge_words es)) × ListsCrossed (per_side f.cells) (lower_level f) (upper_level f) (take (nodes f.cells) after.values) es
given f lent after counts c =
    let s = passes-sampled f lent (zero-passes f lent (sym c.answer)) in
    let values : after.values ≡ then_blank plus_zero lent.values (lattice_values f) = c.given.values ∙ ap (λ (l : Lattice). then_blank plus_zero lent.values (when_sampled l (lattice_values f))) s in
    let front : lattice_values f ≡ take (nodes f.cells) after.values = sym (ap (take (nodes f.cells)) values ∙ take_at (lattice_values f) _ (nodes f.cells) (values_length f)) in (
      lattice_edges f,
      c.given.edges ∙ ap (λ (l : Lattice). then_blank 0 lent.edges (edge_words (when_sampled l (lattice_edges f)))) s,
      subst (λ (x : List Float). ListsCrossed (per_side f.cells) (lower_level f) (upper_level f) x (lattice_edges f)) front (lattice-listed f),
    )

pub sample_laws : SampleLaws
sample_laws = record {
  zero_asked = λ f lent after counts number c. subst (λ (k : ℕ). (k ≡ 0) ↔ Samples f lent) (sym c.answer) (zero_means f lent);
  edges-given = given;
}
