-- What an iterator's `all` answers of a list is the test of every element.
use Prim.Native.Nat.{ℕ, ◌<◌}
use native.Mathlib.Omega.{arith}
use mathlib.Core.Path.{◌≡◌, refl, sym}
use mathlib.Core.Bool.{Bool, true, false}
use mathlib.Core.List.{List}
use lib.ListN.{length}
use Rattle.std.specs.Bool.{MatchBool}
use Rattle.std.specs.List.{AllWithin, HoldsAt}
use Rattle.surface.specs.Check.{every}
use Rattle.surface.proofs.All.{all-at, at_all}
use Rattle.surface.proofs.Bools.{true_false}

module _ {A : Type 0} (p : A → Bool) (d : A) (l : List A) where
  pub every-all : (r : Bool) → MatchBool r (AllWithin (λ x. p x ≡ true) l 0 (length l)) ((k : ℕ) × (k < length l) × HoldsAt (λ x. p x ≡ false) l k) → r ≡ every p l
  every-all true h = sym (at_all p d l (λ i k. h i d (omega arith) k))
  every-all false (k, low, fails) = go (every p l) refl
    where
      go : (b : Bool) → every p l ≡ b → false ≡ every p l
      go true e = absurd (true_false (all-at p d l e k low) (fails d))
      go false e = sym e
