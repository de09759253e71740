-- Which edition a text can be of, by its first byte. Assumes nothing.
use mathlib.Core.Path.{◌≡◌, sym, ap, ◌∙◌, subst}
use mathlib.Core.Logic.{⊎_elim}
use mathlib.Core.List.{List, ◌∷◌}
use Prim.Native.Nat.{ℕ, ◌≤◌}
use native.Mathlib.Omega.{arith}
use lib.ListN.{get_or}
use Rattle.sheet.specs.Edition.{IsEdition, edition_number, rules_of}
use Rattle.sheet.specs.Stages.{TellsEdition}
use Rattle.sheet.specs.declared.Edition as declared
use Rattle.sheet.specs.declared.Edition.TheVariants.{First, Second}
use Rattle.sheet.proofs.Texts.{starts}
use Rattle.sheet.proofs.InUnit.{most-small}

pub is_edition : (e : declared.Edition) → IsEdition (edition_number e)
is_edition First = (omega arith, omega arith)
is_edition Second = (omega arith, omega arith)

pub most_of : (e : declared.Edition) {m : ℕ} → m ≡ (rules_of e).most → m ≤ 2097152
most_of e h = subst (λ (k : ℕ). k ≤ 2097152) (sym h) (most-small (edition_number e) (is_edition e))

first-is : (T : List ℕ) (b : ℕ) (r : List ℕ) → T ≡ b ∷ r → get_or T 0 0 ≡ b
first-is T b r q = ap (λ (l : List ℕ). get_or l 0 0) q

pub told-second : (T : List ℕ) → get_or T 0 0 ≡ 101 → TellsEdition T 2
told-second T e = record {
  known = (omega arith, omega arith);
  only = λ n k s q. let f = starts n k s in let b = first-is T f.0 f.1 (q ∙ f.2) in ⊎_elim (λ x. x.1) (λ x. let y = x.0 in absurd (omega arith)) f.3;
}

pub told-first : (T : List ℕ) → (get_or T 0 0 ≡ 101 → ⊥) → TellsEdition T 1
told-first T e = record {
  known = (omega arith, omega arith);
  only = λ n k s q. let f = starts n k s in let b = first-is T f.0 f.1 (q ∙ f.2) in ⊎_elim (λ x. absurd (e (b ∙ x.0))) (λ x. x.1) f.3;
}
