-- What the call that cuts the edges of a sampled field hands on of what `cut` answers. Assumes nothing.
use mathlib.Core.Path.{◌≡◌, refl, sym, ap, ◌∙◌, subst}
use mathlib.Core.List.{List, [], ◌∷◌}
use Prim.Native.Nat.{ℕ, ◌%◌, ◌^◌, ◌≤◌}
use native.Mathlib.Omega.{arith}
use lib.Dec.{T}
use lib.Ieee.{binary64, fits}
use Rattle.std.specs.Prelude.{Ok}
use Rattle.lattice.specs.Sample.{SampledField, lower_level, upper_level}
use Rattle.cuts.specs.Call.{CutLists, Cuts, cuts_number, cuts_counts, cuts_fields, CutsGiven, CutsCall}
use Rattle.cuts.specs.declared.Complete.{Complete}
use Rattle.cuts.proofs.Passing.{small-counts}
use Rattle.lanovishel.specs.Cut.{F64Levels, CutCall}

pub f64_levels : (f : SampledField) → T (fits binary64 (lower_level f)) → T (fits binary64 (upper_level f)) → F64Levels f
f64_levels f lower upper = record { lower = lower; upper = upper }

module _ {f : SampledField} {lent after : CutLists} {r : Cuts} (h : CutsCall f lent after r) (levels : F64Levels f) where
  handed : (q : Cuts) → r ≡ q → {n : ℕ} {counts fields : List ℕ} → n ≡ cuts_number q → counts ≡ cuts_counts q → fields ≡ cuts_fields q ∷ [] → CutCall f lent after counts fields n
  handed q s n c t = record {
    answer = n ∙ ap cuts_number (sym s ∙ h.answer);
    given = subst (λ (l : Cuts). CutsGiven l f lent after) h.answer h.given;
    counts = c ∙ ap cuts_counts (sym s ∙ h.answer);
    fields = t ∙ ap (λ (l : Cuts). cuts_fields l ∷ []) (sym s ∙ h.answer);
    levels = levels;
  }

  -- the counts are as words what they are
  pub cut_call : (m : Complete) (a b c d : ℕ) → r ≡ Ok m → a ≡ m.nodes % 2 ^ 32 → b ≡ m.nodes % 2 ^ 32 → c ≡ m.edges % 2 ^ 32 → d ≡ m.edges % 2 ^ 32 → CutCall f lent after (a ∷ b ∷ c ∷ d ∷ []) (m.taken ∷ []) 0
  cut_call m a b c d s ea eb ec ed =
      let few = small-counts f lent m (sym h.answer ∙ s) in
      handed (Ok m) s refl (same-counts (ea ∙ small m.nodes (omega arith)) (eb ∙ small m.nodes (omega arith)) (ec ∙ small m.edges (omega arith)) (ed ∙ small m.edges (omega arith))) refl
    where
      small : (k : ℕ) → k ≤ 30053646 → k % 2 ^ 32 ≡ k
      small k l = omega arith

      same-counts : {a b c d x y z w : ℕ} → a ≡ x → b ≡ y → c ≡ z → d ≡ w → a ∷ b ∷ c ∷ d ∷ [] ≡ x ∷ y ∷ z ∷ w ∷ []
      same-counts {a} {b} {c} {d} {x} {y} {z} {w} p q r s = cc
