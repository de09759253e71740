-- A turn of each loop over a list, and what it leaves at its end. Assumes nothing.
use Prim.Native.Nat.{ℕ, zero, suc, ◌+◌, ◌*◌, ◌≤◌, ◌<◌}
use mathlib.Core.Path.{◌≡◌, refl, sym, ap, ap₂, ◌∙◌}
use mathlib.Core.Bool.{Bool, true, false, false≢true}
use mathlib.Core.Logic.{◌↔◌}
use mathlib.Core.List.{List, [], ◌∷◌, ◌++◌}
use native.Mathlib.Omega.{arith}
use native.Mathlib.Numerals.{add-one}
use lib.Dec.{ltb}
use lib.ListN.{length, get_or, take, drop, set, length-append, length-set, get_or-append}
use lib.Seq.{drop-cons, set_at, append_snoc, get_or_at}
use borrow.Author.Tests.{ltb-true, ltb-false}
use Rattle.vectors.specs.Words.{elements, IsAt}

module _ {A : Type 0} (at : ℕ → A) (width k : ℕ) where
  pub elements-long : (n : ℕ) → length (elements at width k n) ≡ n
  elements-long zero = refl
  elements-long (suc n) = simp length-append (omega (arith, elements-long n))

  elements-more : (i : ℕ) (a : A) → a ≡ at (k + i * width) → elements at width k i ++ (a ∷ []) ≡ elements at width k (i + 1)
  elements-more i a e = ap (λ (x : A). elements at width k i ++ (x ∷ [])) e ∙ ap (elements at width k) (sym (add-one i))

  -- ---- a loop that stores: the first i are stored, and the others as lent

  pub record Filled (i : ℕ) (lent l : List A) : Type 0 where
    pub within : i ≤ length lent
    pub long : length l ≡ length lent
    pub list : l ≡ elements at width k i ++ drop i lent

  store : (i : ℕ) (lent l : List A) (a : A) → i < length lent → l ≡ elements at width k i ++ drop i lent → a ≡ at (k + i * width) → set l i a ≡ elements at width k (i + 1) ++ drop (i + 1) lent
  store i lent l a h e g =
      let E : List A = elements at width k i in
      let rest : List A = drop (suc i) lent in
      ap (λ (r : List A). set r i a) (e ∙ ap (λ (r : List A). E ++ r) (drop-cons lent i a h))
      ∙ set_at E (get_or lent i a) rest a i (elements-long i)
      ∙ sym (append_snoc E a rest)
      ∙ ap₂ (λ (x y : List A). x ++ y) (elements-more i a g) (ap (λ (n : ℕ). drop n lent) (sym (add-one i)))

  pub fill_more : (i : ℕ) (lent l : List A) (a : A) → Filled i lent l → i < length lent → a ≡ at (k + i * width) → Filled (i + 1) lent (set l i a)
  fill_more i lent l a f h g =
      record {
        within = omega arith;
        long = length-set l i a ∙ f.long;
        list = store i lent l a h f.list g;
      }

  -- ---- a loop that compares: the first i are as they must be

  pub record Agrees (i : ℕ) (l : List A) : Type 0 where
    pub within : i ≤ length l
    pub list : take i l ≡ elements at width k i

  place-more : (n i : ℕ) (d : A) (b : Bool) → i < suc n → (i < n → get_or (elements at width k n) i d ≡ at (k + i * width)) → ltb i n ≡ b → get_or (elements at width k (suc n)) i d ≡ at (k + i * width)
  place-more n i d true h f e =
      let l : i < n = ltb-true i n e in
      get_or-append (elements at width k n) (at (k + n * width) ∷ []) d i (omega (arith, elements-long n)) ∙ f l
  place-more n i d false h f e =
      let g : n ≤ i = ltb-false i n e in
      let m : n ≡ i = omega arith in
      get_or_at (elements at width k n) (at (k + n * width)) [] d i (elements-long n ∙ m) ∙ ap (λ (j : ℕ). at (k + j * width)) m

  place : (n i : ℕ) (d : A) → i < n → get_or (elements at width k n) i d ≡ at (k + i * width)
  place zero i d h = absurd (omega arith)
  place (suc n) i d h = place-more n i d (ltb i n) h (λ l. place n i d l) refl

  -- a list that is as it must be has each of its elements so
  pub at_place : (i : ℕ) (l : List A) (d : A) → i < length l → l ≡ elements at width k (length l) → get_or l i d ≡ at (k + i * width)
  at_place i l d h e = ap (λ (r : List A). get_or r i d) e ∙ place (length l) i d h

-- ---- whether a list is the one at word k

module _ {A : Type 0} (at : ℕ → A) (width : ℕ) (text : List ℕ) (k : ℕ) (l : List A) where
  pub other_element : (i : ℕ) (d : A) → i < length l → (get_or l i d ≡ at (k + 1 + i * width) → ⊥) → (false ≡ true) ↔ IsAt at width text k l
  other_element i d h g = (λ e. absurd (false≢true e), λ w. absurd (g (at_place at width (k + 1) i l d h w.list)))
