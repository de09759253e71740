-- The end of a list is freed from n on, one place a turn.
use Prim.Native.Nat.{ℕ, ◌+◌, ◌-◌, ◌<◌, ◌≤◌}
use mathlib.Core.Path.{◌≡◌, refl, sym, ◌∙◌, ap, ap₂}
use mathlib.Core.List.{List, ◌++◌}
use native.Mathlib.Omega.{arith}
use native.Mathlib.Decide.{ℕ_discrete}
use lib.ListN.{length, get_or, take, drop, set, replicate, length-set, length-drop, length-replicate, get_or-replicate, take-append-drop}
use lib.Seq.{get_or-set_same, get_or-set_other, take-set-le, get_or-drop, ext_get_or}
use Rattle.blank.specs.Blank.{blank, then_blank}

pub record Blanking {A : Type 0} (z : A) (l : List A) (n : ℕ) (cur : List A) (k : ℕ) : Type 0 where
  pub low : n ≤ k
  pub high : k ≤ length l
  pub size : length cur ≡ length l
  pub front : take n cur ≡ take n l
  pub freed : (j : ℕ) → n ≤ j → j < k → get_or cur j z ≡ z

pub blank_starts : {A : Type 0} (z : A) (l : List A) (n : ℕ) → n ≤ length l → Blanking z l n l n
blank_starts z l n h = record { low = omega arith; high = h; size = refl; front = refl; freed = λ j p q. absurd (omega arith) }

module _ {A : Type 0} (z : A) (l : List A) (n : ℕ) (cur : List A) (k : ℕ) (I : Blanking z l n cur k) where
  pub blank_turn : k < length l → Blanking z l n (set cur k z) (k + 1)
  blank_turn h = record {
    low = let p = I.low in omega arith;
    high = omega arith;
    size = length-set cur k z ∙ I.size;
    front = take-set-le n cur k z I.low ∙ I.front;
    freed = λ j p q. pick j p q (ℕ_discrete j k);
  }
    where
      pick : (j : ℕ) → n ≤ j → j < k + 1 → Dec (j ≡ k) → get_or (set cur k z) j z ≡ z
      pick j p q (yes e) = ap (λ (i : ℕ). get_or (set cur k z) i z) e ∙ get_or-set_same cur k z z (let p = I.size in omega arith)
      pick j p q (no e) = get_or-set_other cur k j z z e ∙ I.freed j p (omega (arith, e))

  pub blank-ends : length l ≤ k → cur ≡ blank z l n
  blank-ends h = sym (take-append-drop n cur) ∙ ap (λ (t : List A). t ++ drop n cur) I.front ∙ ap (λ (t : List A). take n l ++ t) rest
    where
      long : length (drop n cur) ≡ length (replicate (length l - n) z)
      long = let s = I.size in omega (arith, length-drop n cur, length-replicate (length l - n) z)

      rest : drop n cur ≡ replicate (length l - n) z
      rest = ext_get_or z (drop n cur) (replicate (length l - n) z) long (λ i q.
          let s = length-replicate (length l - n) z in
          let e = length-drop n cur in
          get_or-drop n cur i z ∙ I.freed (n + i) (omega arith) (omega (arith, I.low)) ∙ sym (get_or-replicate (length l - n) i z z (omega (arith, long))))

-- the front of a list that is blanked behind it
pub blank-is : {A : Type 0} (z : A) (lent l front : List A) (n : ℕ) → length l ≡ length lent → take n l ≡ front → length front ≡ n → blank z l n ≡ then_blank z lent front
blank-is z lent l front n e f g = ap₂ (λ (x : List _) (k : ℕ). x ++ replicate k z) f (ap₂ (λ (x y : ℕ). x - y) e (sym g))
