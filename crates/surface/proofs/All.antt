-- A test of every element of a list: at each place, and one turn of a loop that tests from the front.
use Prim.Native.Nat.{ℕ, zero, suc, ◌+◌, ◌≤◌, ◌<◌}
use native.Mathlib.Numerals.{add-one}
use native.Mathlib.Omega.{arith}
use mathlib.Core.Path.{◌≡◌, refl, sym, ap, ◌∙◌}
use mathlib.Core.Bool.{Bool, true, false, ◌&&◌}
use mathlib.Core.List.{List, [], ◌∷◌}
use lib.ListN.{length, get_or, drop, drop_of_length-le}
use lib.Seq.{drop-cons}
use Rattle.surface.proofs.Bools.{both, join}
use Rattle.surface.specs.Check.{every}

module _ {A : Type 0} (p : A → Bool) (d : A) where
  pub all-at : (l : List A) → every p l ≡ true → (i : ℕ) → i < length l → p (get_or l i d) ≡ true
  unfolding every
  all-at [] e i h = absurd (omega arith)
  all-at (x ∷ l) e zero h = (both (p x) (every p l) e).0
  all-at (x ∷ l) e (suc i) h = all-at l (both (p x) (every p l) e).1 i (omega arith)

  pub at_all : (l : List A) → ((i : ℕ) → i < length l → p (get_or l i d) ≡ true) → every p l ≡ true
  unfolding every
  at_all [] h = refl
  at_all (x ∷ l) h = join (p x) (every p l) (h 0 (omega arith)) (at_all l (λ i k. h (suc i) (omega arith)))

  -- a turn of a loop at i, and its ends
  all_more : (l : List A) (i : ℕ) → i < length l → every p (drop i l) ≡ (p (get_or l i d) && every p (drop (i + 1) l))
  unfolding every
  all_more l i h = rw (add-one, drop-cons l i d)

  pub all-on : (l : List A) (i : ℕ) → i < length l → p (get_or l i d) ≡ true → every p (drop i l) ≡ every p (drop (i + 1) l)
  all-on l i h t = all_more l i h ∙ ap (λ (z : Bool). z && every p (drop (i + 1) l)) t

  pub all_out : (l : List A) (i : ℕ) → i < length l → p (get_or l i d) ≡ false → every p (drop i l) ≡ false
  all_out l i h t = all_more l i h ∙ ap (λ (z : Bool). z && every p (drop (i + 1) l)) t

  -- the same where a says of those before i whether all pass
  pub all_and : (l : List A) (i : ℕ) (a r w : Bool) → i < length l → r ≡ p (get_or l i d) → (a && every p (drop i l)) ≡ w → ((r && a) && every p (drop (i + 1) l)) ≡ w
  all_and l i a r w h e f = swap a r (every p (drop (i + 1) l)) ∙ ap (λ (z : Bool). a && (z && every p (drop (i + 1) l))) e ∙ ap (λ (z : Bool). a && z) (sym (all_more l i h)) ∙ f
    where
      swap : (a r z : Bool) → ((r && a) && z) ≡ (a && (r && z))
      swap true true z = refl
      swap true false z = refl
      swap false true z = refl
      swap false false z = refl

pub all_done : {A : Type 0} (p : A → Bool) (l : List A) (i : ℕ) → length l ≤ i → every p (drop i l) ≡ true
unfolding every
all_done p l i h = ap (every p) (drop_of_length-le l h)
