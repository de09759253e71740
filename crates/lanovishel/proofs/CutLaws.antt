-- Laws of calls that cut the edges of a sampled field. Assumes nothing.
use mathlib.Core.Path.{◌≡◌, sym, ap, ◌∙◌, subst}
use mathlib.Core.Logic.{◌↔◌, ◌⊎◌, inl, inr}
use mathlib.Core.Bool.{false, true≢false}
use mathlib.Core.List.{List, [], ◌∷◌}
use Prim.Native.Nat.{ℕ, ◌+◌, ◌*◌, ◌<◌}
use native.Mathlib.Omega.{arith}
use lib.ListN.{length, get_or-append}
use lib.Ieee.{Float, nan}
use Rattle.blank.specs.Blank.{then_blank}
use Rattle.float.specs.Point.{less}
use Rattle.field.specs.Number.{plus_zero}
use Rattle.field.proofs.Sums.{same_point}
use Rattle.lattice.specs.Sample.{SampledField, lattice_edges, when_sampled}
use Rattle.lattice.specs.Laws.{Samples}
use Rattle.solve.specs.Laws.{EdgeEnds, NodeFailed, Failed}
use Rattle.solve.specs.declared.Solved.{Solved}
use Rattle.cuts.specs.Edges.{point_at, is_cut, cut_in, cut_numbers}
use Rattle.cuts.specs.Call.{CutLists, Cuts, edge_cut_point, cuts_fields, lattice_in}
use Rattle.cuts.specs.Laws.{CutsAll}
use Rattle.cuts.proofs.Listing.{numbers-length}
use Rattle.cuts.proofs.Passing.{zero-passes, passes_cut, zero_means, whole-at, fails_37}
use Rattle.cuts.proofs.Ending.{cuts-laws, all-counted}
use Rattle.lanovishel.specs.Cut.{CutCall, PlaceGiven, EdgeFails, CutLaws}

-- a point of a list that has more behind it
point-front : (l m : List Float) (i : ℕ) → i * 3 + 2 < length l → point_at (then_blank plus_zero m l) i ≡ point_at l i
point-front l m i h = same_point (get_or-append l _ nan (i * 3) (omega arith)) (get_or-append l _ nan (i * 3 + 1) (omega arith)) (get_or-append l _ nan (i * 3 + 2) h)

module _ (f : SampledField) (lent after : CutLists) (counts fields : List ℕ) (c : CutCall f lent after counts fields 0) where
  passed : CutsAll f lent
  passed = zero-passes f lent (sym c.answer)

  given : after.cuts ≡ then_blank plus_zero lent.cuts (cut_numbers (edge_cut_point f) (lattice_edges f))
  given = c.given.cuts ∙ ap (λ (r : Cuts). then_blank plus_zero lent.cuts (when_sampled (lattice_in r) (cut_numbers (edge_cut_point f) (lattice_edges f)))) (passes_cut f lent passed)

  place : (i : ℕ) → i < length (lattice_edges f) → PlaceGiven f after i
  unfolding cut_in
  place i h =
      let laws = cuts-laws f passed.samples.finite c.levels.lower c.levels.upper in
      let n = numbers-length (edge_cut_point f) (lattice_edges f) in
      record {
        laws = laws.each i h;
        whole = whole-at f passed.finite i h;
        point = ap (λ (l : List Float). point_at l i) given ∙ point-front (cut_numbers (edge_cut_point f) (lattice_edges f)) lent.cuts i (omega arith) ∙ laws.place i h;
      }

-- an edge without a cut fails
module _ {along : Float → Float} {first second level : Float} where
  fails : {s : Solved} → is_cut s.cut ≡ false → EdgeEnds along first second level s → NodeFailed (less first level) (less second level) s ⊎ Failed along s
  unfolding is_cut
  fails q (inl r) = absurd (true≢false (sym (ap (λ (s : Solved). is_cut s.cut) r.is) ∙ q))
  fails q (inr (inl r)) = absurd (true≢false (sym (ap (λ (s : Solved). is_cut s.cut) r.is) ∙ q))
  fails q (inr (inr (inl r))) = inl r
  fails q (inr (inr (inr (inl r)))) = absurd (true≢false (sym (ap (λ (s : Solved). is_cut s.cut) r.is) ∙ q))
  fails q (inr (inr (inr (inr (inl r))))) = absurd (true≢false (sym (ap (λ (s : Solved). is_cut s.cut) r.is) ∙ q))
  fails q (inr (inr (inr (inr (inr r))))) = inr r

refused : (f : SampledField) (lent after : CutLists) (counts fields : List ℕ) → CutCall f lent after counts fields 37 → Samples f lent.lattice × ((i : ℕ) × (i < length (lattice_edges f)) × EdgeFails f i)
refused f lent after counts fields c =
    let r = fails_37 f lent (sym c.answer) in
    let i = r.1.0 in
    let laws = cuts-laws f r.0.finite c.levels.lower c.levels.upper in
    (r.0, (i, r.1.1, fails r.1.2 (laws.each i r.1.1).ends))

pub cut_laws : CutLaws
cut_laws = record {
  zero_asked = λ f lent after counts fields number c. subst (λ (k : ℕ). (k ≡ 0) ↔ CutsAll f lent) (sym c.answer) (zero_means f lent);
  places-given = place;
  fields-given = λ f lent after counts fields c. c.fields ∙ ap (λ (r : Cuts). cuts_fields r ∷ []) (passes_cut f lent (passed f lent after counts fields c)) ∙ ap (λ (n : ℕ). n ∷ []) (all-counted f (lattice_edges f));
  refused_37 = refused;
}
