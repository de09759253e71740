-- What the call that samples a field hands on of what `sample` answers. Assumes nothing.
use mathlib.Core.Path.{◌≡◌, refl, sym, ap, ◌∙◌, subst}
use mathlib.Core.List.{List, [], ◌∷◌}
use Prim.Native.Nat.{ℕ, ◌%◌, ◌^◌, ◌≤◌}
use native.Mathlib.Omega.{arith}
use Rattle.std.specs.Prelude.{Ok}
use Rattle.lattice.specs.Sample.{SampledField, LatticeLists, Lattice, lattice_number, lattice_counts, LatticeGiven, LatticeCall}
use Rattle.lattice.specs.declared.Sampled.{Sampled}
use Rattle.lattice.proofs.Answers.{small-counts}
use Rattle.lanovishel.specs.Sample.{SampleCall}

module _ {f : SampledField} {lent after : LatticeLists} {r : Lattice} (h : LatticeCall f lent after r) where
  handed : (q : Lattice) → r ≡ q → {n : ℕ} {counts : List ℕ} → n ≡ lattice_number q → counts ≡ lattice_counts q → SampleCall f lent after counts n
  handed q s n c = record {
    answer = n ∙ ap lattice_number (sym s ∙ h.answer);
    given = subst (λ (l : Lattice). LatticeGiven l f lent after) h.answer h.given;
    counts = c ∙ ap lattice_counts (sym s ∙ h.answer);
  }

  -- the counts are as words what they are
  pub sampled-call : (s : Sampled) (a b c : ℕ) → r ≡ Ok s → a ≡ s.nodes % 2 ^ 32 → b ≡ s.nodes % 2 ^ 32 → c ≡ s.edges % 2 ^ 32 → SampleCall f lent after (a ∷ b ∷ c ∷ []) 0
  sampled-call s a b c e ea eb ec =
      let few = small-counts f lent s (sym h.answer ∙ e) in
      handed (Ok s) e refl (same-counts (ea ∙ small s.nodes (omega arith)) (eb ∙ small s.nodes (omega arith)) (ec ∙ small s.edges (omega arith)))
    where
      small : (k : ℕ) → k ≤ 30053646 → k % 2 ^ 32 ≡ k
      small k l = omega arith

      same-counts : {a b c x y z : ℕ} → a ≡ x → b ≡ y → c ≡ z → a ∷ b ∷ c ∷ [] ≡ x ∷ y ∷ z ∷ []
      same-counts {a} {b} {c} {x} {y} {z} p q r = cc
