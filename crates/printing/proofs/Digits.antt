-- Hexadecimal digits, one by one and written in a row. Assumes nothing.
use Prim.Native.Nat.{ℕ, zero, suc, ◌+◌, ◌-◌, ◌*◌, ◌/◌, ◌%◌, ◌≤◌, ◌<◌, ◌^◌}
use native.Mathlib.Nat.{pow-suc, suc-mul}
use native.Mathlib.Omega.{arith}
use mathlib.Core.Path.{◌≡◌, refl, sym, ap, ◌∙◌}
use mathlib.Core.Bool.{Bool, cond}
use mathlib.Core.List.{List, [], ◌∷◌, ◌++◌, append_assoc, append-nil}
use lib.Pow.{pow-add}
use borrow.Author.Tests.{lt-ltb, le-ltb}
use Rattle.writing.specs.Stages.{Put}
use Rattle.writing.proofs.Puts.{put-nothing, both, said_as}
use Rattle.printing.specs.Printed.{hex_digit, hexadecimal}

-- ---- one digit

power : (k : ℕ) → 2 ^ (k * 4) ≡ 16 ^ k
power zero = refl
power (suc k) = ap (λ (n : ℕ). 2 ^ n) (suc-mul k 4) ∙ pow-add 2 (k * 4) 4 ∙ ap (λ (n : ℕ). n * 16) (power k) ∙ sym (pow-suc 16 k)

digit-is : (v k : ℕ) → v / 2 ^ (k * 4) % 16 ≡ v / 16 ^ k % 16
digit-is v k = ap (λ (p : ℕ). v / p % 16) (power k)

module _ (v k : ℕ) where
  abbrev d : ℕ
  d = v / 2 ^ (k * 4) % 16

  pub numeral : d < 10 → 48 + d ≡ hex_digit (v / 16 ^ k % 16)
  numeral h = sym (ap (λ (b : Bool). cond b (48 + d) (87 + d)) (lt-ltb d 10 h)) ∙ ap hex_digit (digit-is v k)

  pub letter : 10 ≤ d → 87 + d ≡ hex_digit (v / 16 ^ k % 16)
  letter h = sym (ap (λ (b : Bool). cond b (48 + d) (87 + d)) (le-ltb d 10 h)) ∙ ap hex_digit (digit-is v k)

-- ---- in a row

-- the last k digits are left to be written
pub record Row (v k : ℕ) (l l' : List ℕ) (at next : ℕ) : Type 0 where
  pub front : List ℕ
  pub whole : front ++ hexadecimal k v ≡ hexadecimal 16 v
  pub few : k ≤ 16
  pub put : Put front (16 - k) l l' at next

pub row-start : (v : ℕ) (l : List ℕ) (at : ℕ) → Row v 16 l l at at
row-start v l at = record { front = []; whole = refl; few = omega arith; put = put-nothing l at }

pub row_more : {v b k : ℕ} {l l₁ l₂ : List ℕ} {at next next' : ℕ} → 0 < k → b ≡ hex_digit (v / 16 ^ (k - 1) % 16) → Row v k l l₁ at next → Put (b ∷ []) 1 l₁ l₂ next next' → Row v (k - 1) l l₂ at next'
row_more {v} {b} {k} h d r p =
    let now : k ≡ suc (k - 1) = omega arith in
    record {
      front = r.front ++ (b ∷ []);
      whole =
          append_assoc r.front (b ∷ []) (hexadecimal (k - 1) v)
          ∙ ap (λ (c : ℕ). r.front ++ (c ∷ hexadecimal (k - 1) v)) d
          ∙ ap (λ (m : ℕ). r.front ++ hexadecimal m v) (sym now)
          ∙ r.whole;
      few = omega (arith, r.few);
      put = said_as (r.front ++ (b ∷ [])) (16 - (k - 1)) refl (omega (arith, r.few)) (both r.put p);
    }

pub row_end : {v : ℕ} {l l' : List ℕ} {at next : ℕ} (k : ℕ) → k ≡ 0 → Row v k l l' at next → Put (hexadecimal 16 v) 16 l l' at next
row_end {v} k none r =
    said_as (hexadecimal 16 v) 16 (sym (append-nil r.front) ∙ ap (λ (m : ℕ). r.front ++ hexadecimal m v) (sym none) ∙ r.whole) (omega arith) r.put
