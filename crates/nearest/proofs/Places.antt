-- The places, two words each: what stands at one, and one more of them in a list. Assumes nothing.
use Prim.Native.Nat.{ℕ, zero, suc, ◌+◌, ◌*◌, ◌≤◌, ◌<◌}
use mathlib.Core.Path.{◌≡◌, refl, sym, ap, ap₂, ◌∙◌, subst}
use mathlib.Core.Logic.{◌⊎◌, inl, inr}
use mathlib.Core.List.{List, [], ◌∷◌, ◌++◌, append_assoc}
use native.Mathlib.Nat.{eq-or-lt_of_le}
use native.Mathlib.Omega.{arith}
use lib.ListN.{length, get_or, set, drop, length-append}
use lib.Seq.{drop_at, get_or-drop, set_at}
use Rattle.checking.proofs.Turns.{one_more}
use Rattle.nearest.specs.Nearest.{places}

module _ (f g : ℕ → ℕ) where
  pub length-places : (n : ℕ) → length (places f g n) ≡ 2 * n
  unfolding places
  length-places zero = refl
  length-places (suc n) = omega (arith, length-places n, length-append (places f g n) (f n ∷ g n ∷ []))

  -- behind the places
  pub past-places : (n : ℕ) (l : List ℕ) (k : ℕ) → get_or (places f g n ++ l) (2 * n + k) 0 ≡ get_or l k 0
  past-places n l k = sym (get_or-drop (2 * n) (places f g n ++ l) k 0) ∙ ap (λ (x : List ℕ). get_or x k 0) (drop_at (places f g n) l (2 * n) (length-places n))

  -- what stands at place i, whatever stands behind
  pub at_place : (n : ℕ) (l : List ℕ) (i : ℕ) → i < n → (get_or (places f g n ++ l) (2 * i) 0 ≡ f i) × (get_or (places f g n ++ l) (2 * i + 1) 0 ≡ g i)
  unfolding places
  at_place zero l i h = absurd (omega arith)
  at_place (suc n) l i h = go (eq-or-lt_of_le (most h)) (at_place n (f n ∷ g n ∷ l) i)
    where
      most : i < suc n → i ≤ n
      most k = omega arith

      behind : (k j : ℕ) → 2 * n + k ≡ j → get_or ((places f g n ++ (f n ∷ g n ∷ [])) ++ l) j 0 ≡ get_or (f n ∷ g n ∷ l) k 0
      behind k j e = ap₂ (λ (x : List ℕ) (y : ℕ). get_or x y 0) (append_assoc (places f g n) (f n ∷ g n ∷ []) l) (sym e) ∙ past-places n (f n ∷ g n ∷ l) k

      go : (i ≡ n) ⊎ (i < n) → (i < n → (get_or (places f g n ++ f n ∷ g n ∷ l) (2 * i) 0 ≡ f i) × (get_or (places f g n ++ f n ∷ g n ∷ l) (2 * i + 1) 0 ≡ g i))
          → (get_or ((places f g n ++ (f n ∷ g n ∷ [])) ++ l) (2 * i) 0 ≡ f i) × (get_or ((places f g n ++ (f n ∷ g n ∷ [])) ++ l) (2 * i + 1) 0 ≡ g i)
      go (inl e) rest = (behind 0 (2 * i) (omega arith) ∙ ap f (sym e), behind 1 (2 * i + 1) (omega arith) ∙ ap g (sym e))
      go (inr k) rest = subst (λ (x : List ℕ). (get_or x (2 * i) 0 ≡ f i) × (get_or x (2 * i + 1) 0 ≡ g i)) (sym (append_assoc (places f g n) (f n ∷ g n ∷ []) l)) (rest k)

pub places_same : (f f' g g' : ℕ → ℕ) (n : ℕ) → ((i : ℕ) → i < n → f i ≡ f' i) → ((i : ℕ) → i < n → g i ≡ g' i) → places f g n ≡ places f' g' n
unfolding places
places_same f f' g g' zero h k = refl
places_same f f' g g' (suc n) h k =
    let before = places_same f f' g g' n (λ i l. h i (omega arith)) (λ i l. k i (omega arith)) in
    λ j. before j ++ (h n (omega arith) j ∷ k n (omega arith) j ∷ [])

-- ---- one more place in a list

-- two words set at the seam
set-two : (done rest : List ℕ) (p q a b n : ℕ) → length done ≡ n → set (set (done ++ p ∷ q ∷ rest) n a) (n + 1) b ≡ (done ++ a ∷ b ∷ []) ++ rest
set-two done rest p q a b n e =
    ap (λ (l : List ℕ). set l (n + 1) b) (set_at done p (q ∷ rest) a n e ∙ sym (append_assoc done (a ∷ []) (q ∷ rest)))
    ∙ set_at (done ++ a ∷ []) q rest b (n + 1) (length-append done (a ∷ []) ∙ ap (λ (k : ℕ). k + 1) e)
    ∙ append_assoc done (a ∷ []) (b ∷ rest)
    ∙ sym (append_assoc done (a ∷ b ∷ []) rest)

pub none-set : (f g : ℕ → ℕ) (answers : List ℕ) → answers ≡ places f g 0 ++ drop (2 * 0) answers
unfolding places
none-set f g answers = refl

pub place_set : (f g : ℕ → ℕ) (i : ℕ) (answers now : List ℕ) → 2 * i + 1 < length answers → now ≡ places f g i ++ drop (2 * i) answers
    → (a b : ℕ) → a ≡ f i → b ≡ g i → set (set now (2 * i) a) (2 * i + 1) b ≡ places f g (i + 1) ++ drop (2 * (i + 1)) answers
unfolding places
place_set f g i answers now h e a b p q =
    let n : suc i ≡ i + 1 = omega arith in
    ap (λ (l : List ℕ). set (set l (2 * i) a) (2 * i + 1) b)
    (e ∙ ap (λ (l : List ℕ). places f g i ++ l) (one_more answers 0 (2 * i) (2 * i + 1) (omega arith) (omega arith) ∙ ap (λ (l : List ℕ). get_or answers (2 * i) 0 ∷ l) (one_more answers 0 (2 * i + 1) (2 * (i + 1)) h (omega arith))))
    ∙ set-two (places f g i) (drop (2 * (i + 1)) answers) (get_or answers (2 * i) 0) (get_or answers (2 * i + 1) 0) a b (2 * i) (length-places f g i)
    ∙ ap₂ (λ (x y : ℕ). (places f g i ++ (x ∷ y ∷ [])) ++ drop (2 * (i + 1)) answers) p q
    ∙ ap (λ (k : ℕ). places f g k ++ drop (2 * (i + 1)) answers) n
