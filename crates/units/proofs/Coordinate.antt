-- Whether a value is a whole number of 1/1024 within ±32,768, decided by four operations of f64: between -32 and 32, times 1024 and with 3 * 2 ^ 51 added and taken away, it is what it was. Assumes nothing.
-- Next to 3 * 2 ^ 51 the values of f64 are the whole numbers; so the sum is whole, and the difference is exact.
use mathlib.Core.Path.{◌≡◌, refl, sym, ap, ◌∙◌, subst}
use mathlib.Core.Bool.{Bool, true, false, false≢true}
use mathlib.Core.List.{[], ◌∷◌}
use Prim.Native.Nat.{ℕ, zero, suc, ◌+◌, ◌*◌, ◌^◌, ◌≤◌, ◌<◌, zero-le, suc-le-suc}
use native.Mathlib.Nat.{le_refl, add-le-add, le_trans, le_of_eq, lt_of_le_of_lt, mul-one, mul_assoc, mul-le-mul, mul-lt-mul_of_pos_right, mul-le-mul_right, le_of_mul-le-mul_right}
use native.Mathlib.Omega.{arith}
use lib.Dec.{T, lit≤, lit<}
use lib.IntN.{ℤ, pos, negsuc, nat_abs, ◌+ℤ◌, ◌-ℤ◌, ◌*ℤ◌, +ℤ-neg_ℤ_cancel}
use lib.Pow.{pow_pos, pow-add, pow_mono}
use lib.Ieee.{Float, nan, inf, fin, binary64, of_bits, round, add, sub, mul, neg, le, eq, fits}
use lib.Ieee.Exact.{HasValue}
use lib.Ieee.Fits.{add-fits}
use Rattle.float.specs.Root.{quanta}
use Rattle.float.proofs.Nearest.{Quanta, in_quanta, parts, quanta-exact}
use Rattle.integers.proofs.Size.{size-sum, size-minus, size_product}
use Rattle.integers.proofs.Polynomial.{at, plus, minus, times, identity, vanishes}
use Rattle.rounding.specs.Fraction.{signed, Is, signed_quanta, Near}
use Rattle.rounding.proofs.Quantum.{rescale, rounds}
use Rattle.rounding.proofs.Rounded.{mul_at, unlike_false, is-wholes}
use Rattle.rounding.proofs.Exactness.{power-exact, add-exact, sub-exact, size-signed}
use Rattle.rounding.proofs.Near.{add-near, quanta-error, signed-times}
use Rattle.rounding.proofs.Compared.{le_values, eq-values, level_same, same_level, between, from-below, from-above}
use Rattle.units.specs.Units.{in_units, OnUnits}

-- -32, 32, 1024 and 3 * 2 ^ 51
abbrev pub lowest : Float
lowest = neg (of_bits binary64 0x4040_0000_0000_0000)

abbrev pub highest : Float
highest = of_bits binary64 0x4040_0000_0000_0000

abbrev pub per_one : Float
per_one = of_bits binary64 0x4090_0000_0000_0000

abbrev pub shift : Float
shift = of_bits binary64 0x4338_0000_0000_0000

abbrev pub scaled : Float → Float
scaled x = mul binary64 x per_one

abbrev pub shifted : Float → Float
shifted x = sub binary64 (add binary64 (scaled x) shift) shift

-- ---- in units of 1 / c

lowest-value : (c : ℕ) → HasValue lowest true (32 * c) c
unfolding of_bits neg
lowest-value c = (refl, sym (mul-one (32 * c)))

highest-value : (c : ℕ) → HasValue highest false (32 * c) c
unfolding of_bits
highest-value c = (refl, sym (mul-one (32 * c)))

per_one-value : HasValue per_one false 1024 1
unfolding of_bits
per_one-value = (refl, refl)

shift_is : (c : ℕ) → Is shift (pos (6755399441055744 * c)) c
unfolding of_bits
shift_is c = record { sign = false; size = 6755399441055744 * c; value = (refl, sym (mul-one (6755399441055744 * c))); same = refl }

-- ---- a value on whole units passes

module _ (x : Float) (h : OnUnits x) where
  size_small : h.whole.size ≤ 32768
  size_small = subst (λ (n : ℕ). n ≤ 32768) (ap nat_abs (sym h.whole.same) ∙ size-signed h.whole.sign h.whole.size) h.range

  pub passes-low : le lowest x ≡ true
  passes-low = le_values lowest x true h.whole.sign (32 * 1024) h.whole.size 1024 (lit< tt) (lowest-value 1024) h.whole.value ∙ from-below h.whole.sign h.whole.size 32768 (lit< tt) size_small

  pub passes-high : le x highest ≡ true
  passes-high = le_values x highest h.whole.sign false h.whole.size (32 * 1024) 1024 (lit< tt) h.whole.value (highest-value 1024) ∙ from-above h.whole.sign h.whole.size 32768 (lit< tt) size_small

  scaled-is : Is (scaled x) (in_units x) 1
  scaled-is = power-exact binary64 10 per_one h.whole per_one-value (lt_of_le_of_lt h.range (lit< tt))

  shifted_is : Is (shifted x) (in_units x) 1
  shifted_is =
      let k = in_units x in
      let c = pos 6755399441055744 in
      let up_small : nat_abs (k +ℤ c) < 2 ^ 53 = lt_of_le_of_lt (size-sum k c) (lt_of_le_of_lt (near-sum h.range) (lit< {m = 6755399441088512} {n = 2 ^ 53} tt)) in
      let back-small : nat_abs (k +ℤ c -ℤ c) < 2 ^ 53 = subst (λ (z : ℤ). nat_abs z < 2 ^ 53) (sym (+ℤ-neg_ℤ_cancel k c)) (lt_of_le_of_lt h.range (lit< tt)) in
      subst (λ (z : ℤ). Is (shifted x) z 1) (+ℤ-neg_ℤ_cancel k c)
      (sub-exact binary64 0 (add-exact binary64 0 scaled-is (shift_is 1) up_small (lit≤ tt)) (shift_is 1) back-small (lit≤ tt))
    where
      near-sum : {n : ℕ} → n ≤ 32768 → n + 6755399441055744 ≤ 6755399441088512
      near-sum {n} l = omega arith

  pub passes-whole : eq (shifted x) (scaled x) ≡ true
  passes-whole =
      eq-values (shifted x) (scaled x) shifted_is.sign scaled-is.sign shifted_is.size scaled-is.size 1 (lit< tt) shifted_is.value scaled-is.value
      ∙ same_level shifted_is.sign scaled-is.sign shifted_is.size scaled-is.size (shifted_is.same ∙ sym scaled-is.same)

-- ---- a large value is whole

pub record WholeValue (t : Float) (s : Bool) (n l : ℕ) : Type 0 where
  pub number : ℕ
  pub value : HasValue t s number 1
  pub same : number * l ≡ n

digits : (u : Bool) (m : ℕ) (e : ℤ) → T (fits binary64 (fin u m e)) → m < 2 ^ 53
digits u zero e h = lit< tt
digits u (suc m) e h = (parts binary64 u m e h).0

-- a fraction of 53 digits, a half or less of a whole number each, is below 2 ^ 52
too_small : (m n l k : ℕ) → 0 < l → m < 2 ^ 53 → m * 1 * l ≡ n * 2 ^ suc k → 2 ^ 52 * l ≤ n → ⊥
too_small m n l k L small e large =
    let a : 2 ^ 52 * l * 2 ≤ n * 2 ^ suc k = mul-le-mul large (pow_mono {i = 1} {j = suc k} (suc-le-suc zero-le)) in
    let b : m * l < 2 ^ 53 * l = mul-lt-mul_of_pos_right small L in
    let c : m * 1 * l ≡ m * l = ap (λ (x : ℕ). x * l) (mul-one m) in
    clash (m * l) (n * 2 ^ suc k) l a (sym c ∙ e) b
  where
    clash : (p q l : ℕ) → 2 ^ 52 * l * 2 ≤ q → p ≡ q → p < 2 ^ 53 * l → ⊥
    clash p q l a e b = omega arith

large_whole : (t : Float) (s : Bool) (n l : ℕ) → 0 < l → T (fits binary64 t) → HasValue t s n l → 2 ^ 52 * l ≤ n → WholeValue t s n l
large_whole nan s n l L h v g = absurd v
large_whole (inf u) s n l L h v g = absurd v
large_whole (fin u m (pos k)) s n l L h v g = record { number = m * 2 ^ k; value = (v.0, refl); same = v.1 ∙ mul-one n }
large_whole (fin u m (negsuc k)) s n l L h v g = absurd (too_small m n l k L (digits u m (negsuc k) h) v.1 g)

-- ---- and a value that passes is on whole units

-- the sizes of y, of y + c, of the rounding of that sum, and of the sum rounded, all in units of 1 / l
module _ (l Y Z E W : ℕ) (y : Y ≤ 32768 * l) (z : Z ≤ Y + 6755399441055744 * l) (c : 6755399441055744 * l ≤ Z + Y) (e : E * 2 ^ 53 ≤ Z) (w : Z ≤ W + E) where
  error-small : E ≤ l
  error-small = omega arith

  sum_large : 2 ^ 52 * l ≤ W
  sum_large = alone l Y Z E W y c error-small w
    where
      alone : (l Y Z E W : ℕ) → Y ≤ 32768 * l → 6755399441055744 * l ≤ Z + Y → E ≤ l → Z ≤ W + E → 2 ^ 52 * l ≤ W
      alone l Y Z E W a b c d = omega arith

module _ (a b : ℤ) where
  again : b ≡ a -ℤ (a -ℤ b)
  unfolding vanishes
  again = identity (at 1) (minus (at 0) (minus (at 0) (at 1))) (a ∷ b ∷ []) refl

  less-first : b ≡ a +ℤ b -ℤ a
  unfolding vanishes
  less-first = identity (at 1) (minus (plus (at 0) (at 1)) (at 0)) (a ∷ b ∷ []) refl

regroup : (n c l y : ℤ) → (n -ℤ c) *ℤ l ≡ n *ℤ l -ℤ (y +ℤ c *ℤ l) +ℤ y
unfolding vanishes
regroup n c l y = identity (times (minus (at 0) (at 1)) (at 2)) (plus (minus (times (at 0) (at 2)) (plus (at 3) (times (at 1) (at 2)))) (at 3)) (n ∷ c ∷ l ∷ y ∷ []) refl

-- the sum is whole and the difference exact
module _ (l : ℕ) (L : 0 < l) (y : Float) (Y : ℤ) (v : Is y Y l) (small : nat_abs Y ≤ 32768 * l) (n : ℤ) (value : Is (add binary64 y shift) n l)
    (error : nat_abs (n -ℤ (Y +ℤ pos (6755399441055744 * l))) * 2 ^ 53 ≤ nat_abs (Y +ℤ pos (6755399441055744 * l))) where
  abbrev sum : Float
  sum = add binary64 y shift

  abbrev Z : ℤ
  Z = Y +ℤ pos (6755399441055744 * l)

  Z_most : nat_abs Z ≤ nat_abs Y + 6755399441055744 * l
  Z_most = size-sum Y (pos (6755399441055744 * l))

  Z_least : 6755399441055744 * l ≤ nat_abs Z + nat_abs Y
  Z_least = le_trans (le_of_eq (ap nat_abs (less-first Y (pos (6755399441055744 * l))))) (size-minus Z Y)

  number-least : nat_abs Z ≤ nat_abs n + nat_abs (n -ℤ Z)
  number-least = le_trans (le_of_eq (ap nat_abs (again n Z))) (size-minus n (n -ℤ Z))

  off : nat_abs (n -ℤ Z) ≤ l
  off = error-small l (nat_abs Y) (nat_abs Z) (nat_abs (n -ℤ Z)) (nat_abs n) small Z_most Z_least error number-least

  is_whole : WholeValue sum value.sign value.size l
  is_whole =
      large_whole sum value.sign value.size l L (add-fits binary64 y shift) value.value
      (subst (λ (n : ℕ). 2 ^ 52 * l ≤ n) (ap nat_abs (sym value.same) ∙ size-signed value.sign value.size)
      (sum_large l (nat_abs Y) (nat_abs Z) (nat_abs (n -ℤ Z)) (nat_abs n) small Z_most Z_least error number-least))

  abbrev difference : ℤ
  difference = signed value.sign is_whole.number -ℤ pos 6755399441055744

  difference-size : nat_abs difference ≤ 32769
  difference-size =
      le_of_mul-le-mul_right
      (le_trans (le_of_eq (sym (size_product difference (pos l)) ∙ ap nat_abs (regroup (signed value.sign is_whole.number) (pos 6755399441055744) (pos l) Y
      ∙ ap (λ (k : ℤ). k -ℤ Z +ℤ Y) (sym (signed-times value.sign is_whole.number l) ∙ ap (signed value.sign) is_whole.same ∙ value.same))))
      (le_trans (size-sum (n -ℤ Z) Y) (total (nat_abs (n -ℤ Z)) (nat_abs Y) l off small)))
      L
    where
      total : (E Y l : ℕ) → E ≤ l → Y ≤ 32768 * l → E + Y ≤ 32769 * l
      total E Y l a b = omega arith

  difference-is : Is (sub binary64 sum shift) difference 1
  difference-is =
      sub-exact binary64 0 (record { sign = value.sign; size = is_whole.number; value = is_whole.value; same = refl }) (shift_is 1) (lt_of_le_of_lt difference-size (lit< {m = 32769} {n = 2 ^ 53} tt)) (lit≤ tt)

  -- where it is what it was, that is a whole number
  whole_of : eq (sub binary64 sum shift) y ≡ true → nat_abs difference * l ≡ v.size
  whole_of e =
      let d = difference-is in
      let same = level_same d.sign v.sign (d.size * l) v.size (sym (eq-values (sub binary64 sum shift) y d.sign v.sign (d.size * l) v.size l L (rescale (sub binary64 sum shift) d.sign d.size 1 (d.size * l) l (lit< tt) (mul-one (d.size * l)) d.value) v.value) ∙ e) in
      ap (λ (n : ℕ). n * l) (ap nat_abs (sym d.same) ∙ size-signed d.sign d.size) ∙ sym (size-signed d.sign (d.size * l)) ∙ ap nat_abs same ∙ size-signed v.sign v.size

-- x in units of 2 ^ -1074, and times 1024
module _ (s : Bool) (m : ℕ) (e : ℤ) (h : T (fits binary64 (fin s m e))) (low : le lowest (fin s m e) ≡ true) (high : le (fin s m e) highest ≡ true) (whole : eq (shifted (fin s m e)) (scaled (fin s m e)) ≡ true) where
  abbrev x : Float
  x = fin s m e

  abbrev a : ℕ
  a = quanta binary64 x

  x-value : HasValue x s a (2 ^ 1074)
  x-value = (refl, quanta-exact binary64 s m e h)

  a-most : a ≤ 32 * 2 ^ 1074
  a-most =
      between s a (32 * 2 ^ 1074)
      (sym (le_values lowest x true s (32 * 2 ^ 1074) a (2 ^ 1074) (pow_pos 1074) (lowest-value (2 ^ 1074)) x-value) ∙ low)
      (sym (le_values x highest s false a (32 * 2 ^ 1074) (2 ^ 1074) (pow_pos 1074) x-value (highest-value (2 ^ 1074))) ∙ high)

  scaled-quanta : Quanta binary64 (a * 1024)
  scaled-quanta =
      let q = in_quanta binary64 s m e h in
      let same : a * 1024 ≡ q.m * 2 ^ (q.j + 10) = ap (λ (n : ℕ). n * 1024) q.is ∙ mul_assoc q.m (2 ^ q.j) 1024 ∙ ap (λ (n : ℕ). q.m * n) (sym (pow-add 2 q.j 10)) in
      record {
        m = q.m;
        j = q.j + 10;
        short = q.short;
        is = same;
        inside = subst (λ (n : ℕ). n < 2 ^ 2098) same (lt_of_le_of_lt (mul-le-mul_right 1024 a-most) (lit< tt));
      }

  scaled_value : HasValue (scaled x) s (a * 1024) (2 ^ 1074)
  scaled_value =
      subst (λ (y : Float). HasValue y s (a * 1024) (2 ^ 1074))
      (sym (mul_at binary64 x per_one s false a (2 ^ 1074) 1024 1 (pow_pos 1074) (lit< tt) x-value per_one-value ∙ ap (λ (t : Bool). round binary64 t (a * 1024) (2 ^ 1074 * 1)) (unlike_false s)))
      (rounds binary64 s (a * 1024) (2 ^ 1074 * 1) (a * 1024) (lit< tt) refl scaled-quanta)

  abbrev Y : ℤ
  Y = signed s (a * 1024)

  y-is : Is (scaled x) Y (2 ^ 1074)
  y-is = record { sign = s; size = a * 1024; value = scaled_value; same = refl }

  y-small : nat_abs Y ≤ 32768 * 2 ^ 1074
  y-small = le_trans (le_of_eq (size-signed s (a * 1024))) (le_trans (mul-le-mul_right 1024 a-most) (lit≤ tt))

  near : Near binary64 (add binary64 (scaled x) shift) (Y +ℤ pos (6755399441055744 * 2 ^ 1074)) (2 ^ 1074)
  near =
      add-near binary64 y-is (shift_is (2 ^ 1074))
      (lt_of_le_of_lt (size-sum Y (pos (6755399441055744 * 2 ^ 1074))) (lt_of_le_of_lt (add-le-add y-small (le_refl (6755399441055744 * 2 ^ 1074))) (lit< tt)))

  abbrev k : ℕ
  k = nat_abs (difference (2 ^ 1074) (pow_pos 1074) (scaled x) Y y-is y-small (signed_quanta binary64 (add binary64 (scaled x) shift)) near.is (quanta-error binary64 near))

  k-is : k * 2 ^ 1074 ≡ a * 1024
  unfolding y-is
  k-is = whole_of (2 ^ 1074) (pow_pos 1074) (scaled x) Y y-is y-small (signed_quanta binary64 (add binary64 (scaled x) shift)) near.is (quanta-error binary64 near) whole

  x-is : Is x (signed s k) 1024
  x-is = record { sign = s; size = k; value = rescale x s a (2 ^ 1074) k 1024 (pow_pos 1074) k-is x-value; same = refl }

  k-most : k ≤ 32768
  k-most = le_of_mul-le-mul_right (le_trans (le_of_eq k-is) (le_trans (mul-le-mul_right 1024 a-most) (lit≤ tt))) (pow_pos 1074)

  finite-on : OnUnits x
  finite-on =
      let e : signed s k ≡ in_units x = sym (is-wholes x-is) in
      record { whole = subst (λ (z : ℤ). Is x z 1024) e x-is; range = subst (λ (n : ℕ). n ≤ 32768) (sym (size-signed s k) ∙ ap nat_abs e) k-most }

pub on-units : (x : Float) → T (fits binary64 x) → le lowest x ≡ true → le x highest ≡ true → eq (shifted x) (scaled x) ≡ true → OnUnits x
unfolding le of_bits neg
on-units nan h low high whole = absurd (false≢true low)
on-units (inf false) h low high whole = absurd (false≢true high)
on-units (inf true) h low high whole = absurd (false≢true low)
on-units (fin s m e) h low high whole = finite-on s m e h low high whole
