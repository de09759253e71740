-- Floats in two work words: what is put there is read again.
use Prim.Native.Nat.{ℕ, ◌+◌, ◌*◌, ◌<◌}
use native.Mathlib.Nat.{div-add-mod'}
use native.Mathlib.Omega.{arith}
use mathlib.Core.Path.{◌≡◌, refl, sym, ap, ap₂, ◌∙◌, subst}
use mathlib.Core.Bool.{Bool, true, false, not, false≢true}
use mathlib.Core.List.{List}
use mathlib.Core.Logic.{◌⊎◌, inl, inr}
use lib.Dec.{T}
use lib.ListN.{length, set, length-set}
use lib.Seq.{get_or-set_same, get_or-set_other}
use lib.Ieee.{Float, nan, inf, fin, binary64, to_bits, of_bits, fits, is_nan, nan_bits}
use lib.Ieee.Bits.{of_bits-to_bits, nan_bits_is}
use Rattle.halfedges.specs.Place.{at}
use Rattle.scores.specs.Words.{high, low, put_at, float_at, Kept, Held}

pub held : (w : List ℕ) (i : ℕ) (x : Float) → Kept w i x → Held w i
held w i x k = record { value = x; kept = k }

pub kept_bits : (w : List ℕ) (i : ℕ) (x : Float) → Kept w i x → at w i * 4294967296 + at w (i + 1) ≡ to_bits binary64 x
kept_bits w i x k = ap₂ (λ (p q : ℕ). p * 4294967296 + q) k.first k.second ∙ div-add-mod' (to_bits binary64 x) 4294967296

pub kept_float : (w : List ℕ) (i : ℕ) (x : Float) → Kept w i x → float_at w i ≡ x
kept_float w i x k = ap (of_bits binary64) (kept_bits w i x k) ∙ of_bits-to_bits binary64 x k.fit

-- it stays where the two words stay
pub kept_same : (v w : List ℕ) (i : ℕ) (x : Float) → length w ≡ length v → at w i ≡ at v i → at w (i + 1) ≡ at v (i + 1) → Kept v i x → Kept w i x
kept_same v w i x l a b k = record { room = let r = k.room in omega arith; fit = k.fit; first = a ∙ k.first; second = b ∙ k.second }

module _ (w : List ℕ) (i : ℕ) (x : Float) where
  pub put-length : length (put_at w i x) ≡ length w
  put-length = length-set (set w i (high x)) (i + 1) (low x) ∙ length-set w i (high x)

  pub put_other : (j : ℕ) → (j ≡ i → ⊥) → (j ≡ i + 1 → ⊥) → at (put_at w i x) j ≡ at w j
  put_other j m n = get_or-set_other (set w i (high x)) (i + 1) j (low x) 0 n ∙ get_or-set_other w i j (high x) 0 m

  pub put-kept : i + 1 < length w → T (fits binary64 x) → Kept (put_at w i x) i x
  put-kept r f =
      let l = length-set w i (high x) in
      record {
        room = let m = put-length in omega arith;
        fit = f;
        first = get_or-set_other (set w i (high x)) (i + 1) i (low x) 0 (λ e. omega arith) ∙ get_or-set_same w i (high x) 0 (omega arith);
        second = get_or-set_same (set w i (high x)) (i + 1) (low x) 0 (omega arith);
      }

  -- what stands elsewhere stays
  pub put_keeps : (j : ℕ) (y : Float) → (j + 1 < i) ⊎ (i + 1 < j) → Kept w j y → Kept (put_at w i x) j y
  put_keeps j y (inl a) k = kept_same w (put_at w i x) j y put-length (put_other j (λ e. omega arith) (λ e. omega arith)) (put_other (j + 1) (λ e. omega arith) (λ e. omega arith)) k
  put_keeps j y (inr a) k = kept_same w (put_at w i x) j y put-length (put_other j (λ e. omega arith) (λ e. omega arith)) (put_other (j + 1) (λ e. omega arith) (λ e. omega arith)) k

-- ---- the NaN

pub put_nan : (w : List ℕ) (i : ℕ) (x : Float) → x ≡ nan → set (set w i 2146959360) (i + 1) 0 ≡ put_at w i x
unfolding to_bits
put_nan w i x e = ap (put_at w i) (sym e)

pub nan_is : (x : Float) → is_nan x ≡ true → x ≡ nan
unfolding is_nan
nan_is nan e = refl
nan_is (inf s) e = absurd (false≢true e)
nan_is (fin s m k) e = absurd (false≢true e)

nan_bits_lem : to_bits binary64 nan ≡ 0x7ff8_0000_0000_0000
unfolding to_bits
nan_bits_lem = refl

module _ (w : List ℕ) (i x y b : ℕ) (h : Held w i) (p : x ≡ at w i) (q : y ≡ at w (i + 1)) (e : b ≡ x * 4294967296 + y) where
  pub got : of_bits binary64 b ≡ float_at w i
  got = ap (of_bits binary64) (e ∙ ap₂ (λ (m n : ℕ). m * 4294967296 + n) p q)

  pub got_nan : b ≡ 0x7ff8_0000_0000_0000 → of_bits binary64 0x7ff8_0000_0000_0000 ≡ float_at w i
  got_nan z = ap (of_bits binary64) (sym z) ∙ got

  pub got_number : (b ≡ 0x7ff8_0000_0000_0000 → ⊥) → T (not (nan_bits binary64 b))
  got_number z = go (is_nan h.value) refl
    where
      bits : b ≡ to_bits binary64 h.value
      bits = e ∙ ap₂ (λ (m n : ℕ). m * 4294967296 + n) p q ∙ kept_bits w i h.value h.kept

      go : (t : Bool) → is_nan h.value ≡ t → T (not (nan_bits binary64 b))
      go true f = absurd (z (bits ∙ ap (to_bits binary64) (nan_is h.value f) ∙ nan_bits_lem))
      go false f = subst (λ (t : Bool). T (not t)) (sym (nan_bits_is binary64 b ∙ ap is_nan (got ∙ kept_float w i h.value h.kept) ∙ f)) tt
