-- Laws of digits, of words and of the numbers that two words are. Assumes nothing.
use Prim.Native.Nat.{ℕ, ◌+◌, ◌*◌, ◌%◌, ◌^◌, ◌≤◌, ◌<◌}
use mathlib.Core.Path.{◌≡◌, refl, sym, ap, ap₂, ◌∙◌, subst}
use mathlib.Core.Bool.{Bool, true, false, not, cond, false≢true}
use mathlib.Core.Logic.{◌↔◌}
use mathlib.Core.List.{List}
use native.Mathlib.Omega.{arith}
use native.Mathlib.Numerals.{add-one}
use lib.Dec.{T, ltb, eqb}
use lib.Pow.{pow-add, pow_mono}
use lib.ListN.{get_or}
use lib.Ieee.{Float, nan, inf, fin, binary64, of_bits, to_bits, nan_bits, is_nan, fits}
use lib.Ieee.Bits.{nan_bits_above, nan_bits_is, of_bits-to_bits}
use borrow.Author.Tests.{lt-ltb, le-ltb, eqb-true, eq-eqb}
use Rattle.vectors.specs.Words.{digit_of, spelled, count_of, word_at, joined, float_at}

-- ---- digits

-- a number of i digits, and one digit more
pub more : (i v d : ℕ) → v < 2 ^ (i * 4) → d < 16 → v * 16 + d < 2 ^ ((i + 1) * 4)
more i v d h l =
    let e : 2 ^ (i * 4 + 4) ≡ 2 ^ (i * 4) * 16 = pow-add 2 (i * 4) 4 in
    let j : 2 ^ ((i + 1) * 4) ≡ 2 ^ (i * 4 + 4) = ap (λ (n : ℕ). 2 ^ n) (omega arith) in
    omega arith

-- seven digits leave room for one more
pub room : (i v : ℕ) → v < 2 ^ (i * 4) → i < 8 → v < 268435456
room i v h l =
    let w : 2 ^ (i * 4) ≤ 2 ^ 28 = pow_mono {j = 28} (omega arith) in
    omega arith

pub spelled-more : (text : List ℕ) (at i v d : ℕ) → v ≡ spelled text at i → d ≡ digit_of (get_or text (at + i) 0) → v * 16 + d ≡ spelled text at (i + 1)
spelled-more text at i v d e g = ap₂ (λ (x y : ℕ). x * 16 + y) e g ∙ ap (spelled text at) (sym (add-one i))

-- ---- words

pub no_word : (text : List ℕ) (k : ℕ) → count_of text ≤ k → 0 ≡ word_at text k
unfolding word_at
no_word text k h = sym (ap (λ (b : Bool). cond b (spelled text (k * 9) 8) 0) (le-ltb k (count_of text) h))

pub some_word : (text : List ℕ) (k v i : ℕ) → k < count_of text → v ≡ spelled text (k * 9) i → i ≡ 8 → v ≡ word_at text k
unfolding word_at
some_word text k v i h e g = e ∙ ap (spelled text (k * 9)) g ∙ sym (ap (λ (b : Bool). cond b (spelled text (k * 9) 8) 0) (lt-ltb k (count_of text) h))

-- ---- numbers

above : (b : ℕ) → nan_bits binary64 b ≡ ltb 0x7ff0_0000_0000_0000 (b % 0x8000_0000_0000_0000)
above b = nan_bits_above binary64 b

pub no_nan_bits : (b : ℕ) → b % 0x8000_0000_0000_0000 ≤ 0x7ff0_0000_0000_0000 → T (not (nan_bits binary64 b))
no_nan_bits b h = subst (λ (t : Bool). T (not t)) (sym (above b ∙ le-ltb _ _ h)) tt

is_nan_lem : (x : Float) → is_nan x ≡ true → nan ≡ x
unfolding is_nan
is_nan_lem nan e = refl
is_nan_lem (inf s) e = absurd (false≢true e)
is_nan_lem (fin s m e') e = absurd (false≢true e)

pub nan_bits_lem : (b : ℕ) → 0x7ff0_0000_0000_0000 < b % 0x8000_0000_0000_0000 → of_bits binary64 0x7ff8_0000_0000_0000 ≡ of_bits binary64 b
unfolding of_bits
nan_bits_lem b h = is_nan_lem (of_bits binary64 b) (sym (nan_bits_is binary64 b) ∙ above b ∙ lt-ltb _ _ h)

pub zero_float_lem : (text : List ℕ) (k : ℕ) → count_of text ≤ k → of_bits binary64 0 ≡ float_at text k
zero_float_lem text k h = ap₂ joined (no_word text k h) (no_word text (k + 1) (omega arith))

-- ---- two numbers

pub no_nan : (x : Float) → is_nan x ≡ false → T (not (is_nan x))
no_nan x e = subst (λ (t : Bool). T (not t)) (sym e) tt

pub nan_same : (x y : Float) (b : Bool) → is_nan x ≡ true → is_nan y ≡ b → (b ≡ true) ↔ (x ≡ y)
nan_same x y b e g = (λ h. sym (is_nan_lem x e) ∙ is_nan_lem y (g ∙ h), λ h. sym g ∙ sym (ap is_nan h) ∙ e)

pub not_same : (x y : Float) → is_nan x ≡ false → is_nan y ≡ true → (false ≡ true) ↔ (x ≡ y)
not_same x y e g = (λ h. absurd (false≢true h), λ h. sym e ∙ ap is_nan h ∙ g)

pub bits_same : (x y : Float) (b : Bool) → T (fits binary64 x) → T (fits binary64 y) → eqb (to_bits binary64 x) (to_bits binary64 y) ≡ b → (b ≡ true) ↔ (x ≡ y)
bits_same x y b f g e = (
  λ h. sym (of_bits-to_bits binary64 x f) ∙ ap (of_bits binary64) (eqb-true _ _ (e ∙ h)) ∙ of_bits-to_bits binary64 y g,
  λ h. sym e ∙ eq-eqb _ _ (ap (to_bits binary64) h),
)
