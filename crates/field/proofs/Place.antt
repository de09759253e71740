-- Where a value within ±2^20 lies, counted in quanta from -2^20: comparisons go by it, and 2^-20 less of a value from 2^-21 on, or more of one up to -2^-21, is 2^1054 quanta less or more, with nothing rounded off.
-- Assumes nothing.
use mathlib.Core.Path.{◌≡◌, refl, sym, ap, ap₂, ◌∙◌, subst}
use mathlib.Core.Bool.{Bool, true, false, not, ◌&&◌, ◌||◌, cond, true≢false, false≢true}
use Prim.Native.Nat.{ℕ, zero, suc, ◌+◌, ◌-◌, ◌*◌, ◌^◌, ◌≤◌, ◌<◌}
use native.Mathlib.Nat.{mul_assoc, mul_comm, mul-one, one-mul, mul_right_comm, mul-pos, mul-sub, mul-le-mul_right, mul_left_comm, mul-lt-mul_of_pos_right, lt_of_mul-lt-mul_right, le_antisymm, zero-lt-suc, zero-mul, sub-le, le_of_mul-le-mul_right, le_trans, le_of_eq, lt_of_le_of_lt, le_of_lt}
use native.Mathlib.Omega.{arith}
use lib.Dec.{T, leb, ltb, eqb, lit<, lit≤}
use lib.Pow.{pow-add, pow_pos, pow_mono}
use lib.Ieee.{Float, nan, inf, fin, binary64, up, down, fits, lt, le, eq, below, round, sum, add, sub, neg, of_bits}
use lib.Ieee.Digits.{back}
use lib.Ieee.Fits.{down_pos}
use lib.Ieee.Exact.{HasValue}
use borrow.Author.Tests.{ltb-true, ltb-false, leb-true, leb-false, eqb-true, le-ltb, le-leb, lt-leb}
use lib.Ieee.{is_nan}
use Rattle.std.specs.Float.{NotNan}
use Rattle.std.proofs.lemmas.Float.{lt_irrefl, lt_of_le_of_lt as lt_of_le_of_ltᶠ, lt_of_not-le, T_from_true, T_from_false}
use Rattle.float.specs.Root.{quanta}
use Rattle.float.proofs.Nearest.{Quanta, in_quanta, quanta-exact}
use Rattle.field.specs.Number.{limit, least, half}
use Rattle.field.specs.Valid.{bounded, place, side_ok}
use Rattle.rounding.proofs.Quantum.{rounds, minus-scale}
use Rattle.rounding.proofs.Compared.{ltb_same, lt_values}

-- ---- arithmetic with the large numbers left as variables: `omega` stops at one of more than 38 digits

double : (D H a u v : ℕ) → D ≡ H + H → H ≤ a → u ≡ D → v ≡ 2 * a → u ≤ v
double D H a u v d h p q = omega arith

no_zero : (H a : ℕ) → 0 < H → H ≤ a → a ≡ 0 → ⊥
no_zero H a p h e = omega arith

too_large : (D a k v : ℕ) → a ≡ v → D ≤ k → 1 * k ≤ v → a < D → ⊥
too_large D a k v e h l g = omega arith

module _ (K D H a : ℕ) where
  cut_low : a < D → D ≤ K → K + a - D ≡ K - (D - a)
  cut_low h g = omega arith

  cut_high : D ≤ a → K + a - D ≡ K + (a - D)
  cut_high h = omega arith

  lift_low : a < D → a ≤ K → K - a + D ≡ K + (D - a)
  lift_low h g = omega arith

  lift_high : D ≤ a → a ≤ K → K - a + D ≡ K - (a - D)
  lift_high h g = omega arith

  lift_zero : a ≡ D → D ≤ K → K - a + D ≡ K + (a - D)
  lift_zero h g = omega arith

  rest-small : a ≤ K → a - D ≤ K
  rest-small h = omega arith

  gap_small : D ≤ K → D - a ≤ K
  gap_small h = omega arith

  not_below : (p : ℕ) → p ≡ K - a → K + H ≤ p → 0 < H → ⊥
  not_below p e h g = omega arith

  above : (p : ℕ) → p ≡ K + a → K + H ≤ p → H ≤ a
  above p e h = omega arith

  not_above_lem : (p : ℕ) → p ≡ K + a → p + H ≤ K → 0 < H → ⊥
  not_above_lem p e h g = omega arith

  under : (p : ℕ) → p ≡ K - a → p + H ≤ K → H ≤ a
  under p e h = omega arith

-- ---- differences from 2^1054 quanta that the format holds

from : (x y k : ℕ) → (x - y) * k ≡ x * k - y * k
from x y k = mul_comm (x - y) k ∙ mul-sub k x y ∙ ap₂ (λ (u v : ℕ). u - v) (mul_comm k x) (mul_comm k y)

-- 2 ^ 1054 is a multiple of 2 ^ j
whole : (j : ℕ) → j ≤ 1054 → 2 ^ (1054 - j) * 2 ^ j ≡ 2 ^ 1054
whole j h = sym (pow-add 2 (1054 - j) j) ∙ ap (λ (x : ℕ). 2 ^ x) (back 1054 j h)

near-low : (a : ℕ) → Quanta binary64 a → 2 ^ 1053 ≤ a → a < 2 ^ 1054 → Quanta binary64 (2 ^ 1054 - a)
near-low a g lo hi = go (leb g.j 1054) (leb-true g.j 1054) (leb-false g.j 1054) refl
  where
    go : (t : Bool) → (leb g.j 1054 ≡ true → g.j ≤ 1054) → (leb g.j 1054 ≡ false → 1054 < g.j) → leb g.j 1054 ≡ t → Quanta binary64 (2 ^ 1054 - a)
    go true x y e =
        let w = 2 ^ (1054 - g.j) in
        let k = 2 ^ g.j in
        let ew : w * k ≡ 2 ^ 1054 = whole g.j (x e) in
        let ea : a ≡ g.m * k = g.is in
        let em : g.m * 2 * k ≡ 2 * a = mul_right_comm g.m 2 k ∙ mul_comm (g.m * k) 2 ∙ ap (λ (z : ℕ). 2 * z) (sym ea) in
        let l : w ≤ g.m * 2 = le_of_mul-le-mul_right (double (2 ^ 1054) (2 ^ 1053) a (w * k) (g.m * 2 * k) refl lo ew em) (pow_pos g.j) in
        let is : 2 ^ 1054 - a ≡ (w - g.m) * k = sym (from w g.m k ∙ ap₂ (λ (u v : ℕ). u - v) ew (sym ea)) in
        let sh = g.short in
        record { m = w - g.m; j = g.j; short = omega arith; is = is; inside = lt_of_le_of_lt (mul-le-mul_right k (sub-le w g.m)) (lt_of_le_of_lt (le_of_eq ew) (lit< tt)) }
    go false x y e = absurd (none g.m refl)
      where
        none : (m : ℕ) → g.m ≡ m → ⊥
        none zero z =
            no_zero (2 ^ 1053) a (lit< tt) lo (g.is ∙ ap (λ (u : ℕ). u * 2 ^ g.j) z ∙ zero-mul (2 ^ g.j))
        none (suc m) z =
            too_large (2 ^ 1054) a (2 ^ g.j) (suc m * 2 ^ g.j) (g.is ∙ ap (λ (u : ℕ). u * 2 ^ g.j) z) (pow_mono (le_of_lt (y e))) (mul-le-mul_right (2 ^ g.j) (zero-lt-suc m)) hi

near-high : (a : ℕ) → Quanta binary64 a → 2 ^ 1054 ≤ a → a ≤ 2 ^ 1094 → Quanta binary64 (a - 2 ^ 1054)
near-high a g lo hi = go (leb g.j 1054) (leb-true g.j 1054) (leb-false g.j 1054) refl
  where
    go : (t : Bool) → (leb g.j 1054 ≡ true → g.j ≤ 1054) → (leb g.j 1054 ≡ false → 1054 < g.j) → leb g.j 1054 ≡ t → Quanta binary64 (a - 2 ^ 1054)
    go true x y e =
        let w = 2 ^ (1054 - g.j) in
        let k = 2 ^ g.j in
        let ew : w * k ≡ 2 ^ 1054 = whole g.j (x e) in
        let ea : a ≡ g.m * k = g.is in
        let is : a - 2 ^ 1054 ≡ (g.m - w) * k = sym (from g.m w k ∙ ap₂ (λ (u v : ℕ). u - v) (sym ea) ew) in
        let sh = g.short in
        record { m = g.m - w; j = g.j; short = omega arith; is = is; inside = lt_of_le_of_lt (mul-le-mul_right k (sub-le g.m w)) g.inside }
    go false x y e =
        let M = g.m * 2 ^ (g.j - 1054) in
        let ea : a ≡ M * 2 ^ 1054 = g.is ∙ ap (λ (u : ℕ). g.m * u) (ap (λ (u : ℕ). 2 ^ u) (sym (back g.j 1054 (le_of_lt (y e)))) ∙ pow-add 2 (g.j - 1054) 1054) ∙ sym (mul_assoc g.m (2 ^ (g.j - 1054)) (2 ^ 1054)) in
        let l : M ≤ 2 ^ 40 = le_of_mul-le-mul_right {k = 2 ^ 1054} (le_trans (le_of_eq (sym ea)) hi) (lit< tt) in
        record {
          m = M - 1;
          j = 1054;
          short = omega arith;
          is = ap₂ (λ (u v : ℕ). u - v) ea (sym (one-mul (2 ^ 1054))) ∙ sym (from M 1 (2 ^ 1054));
          inside = lt_of_le_of_lt (mul-le-mul_right (2 ^ 1054) (sub-le M 1)) (subst (λ (z : ℕ). z < 2 ^ 2098) (sym g.is ∙ ea) g.inside);
        }

-- ---- places

abbrev shift : ℕ → Bool → ℕ → ℕ
shift K false a = K + a
shift K true a = K - a

-- x lies at the place p
pub record At (x : Float) (p : ℕ) : Type 0 where
  pub s : Bool
  pub a : ℕ
  pub is : HasValue x s a (2 ^ 1074)
  pub grain : Quanta binary64 a
  pub small : a ≤ 2 ^ 1094
  pub at : p ≡ shift (2 ^ 1094) s a

below_shift : (K : ℕ) (s t : Bool) (a b : ℕ) → a ≤ K → b ≤ K → below s a t b ≡ ltb (shift K s a) (shift K t b)
below_shift K false false a b h g = ltb_same (λ (l : a < b). omega arith) (λ (l : K + a < K + b). omega arith)
below_shift K false true a b h g = sym (le-ltb (K + a) (K - b) (omega arith))
below_shift K true false a b h g = ltb_same (λ (l : 0 < a + b). omega arith) (λ (l : K - a < K + b). omega arith)
below_shift K true true a b h g = ltb_same (λ (l : b < a). omega arith) (λ (l : K - a < K - b). omega arith)

pub lt_at : (x y : Float) {p q : ℕ} → At x p → At y q → lt x y ≡ ltb p q
lt_at x y u v =
    lt_values x y u.s v.s u.a v.a (2 ^ 1074) (pow_pos 1074) u.is v.is
    ∙ below_shift (2 ^ 1094) u.s v.s u.a v.a u.small v.small
    ∙ ap₂ ltb (sym u.at) (sym v.at)

-- ---- 2^-20 less, and 2^-20 more

module _ (A B c a : ℕ) (c_pos : 0 < c) (ea : A * 2 ^ 1074 ≡ a * c) (eb : B * 2 ^ 1074 ≡ 2 ^ 1054 * c) (g : Quanta binary64 a) (lo : 2 ^ 1053 ≤ a) (hi : a ≤ 2 ^ 1094) where
  scaled_lt : A < B → a < 2 ^ 1054
  scaled_lt h = lt_of_mul-lt-mul_right c (subst (λ (x : ℕ). x < 2 ^ 1054 * c) ea (subst (λ (x : ℕ). A * 2 ^ 1074 < x) eb (mul-lt-mul_of_pos_right h (pow_pos 1074))))

  scaled_le : B ≤ A → 2 ^ 1054 ≤ a
  scaled_le h = le_of_mul-le-mul_right (subst (λ (x : ℕ). x ≤ a * c) eb (subst (λ (x : ℕ). B * 2 ^ 1074 ≤ x) ea (mul-le-mul_right (2 ^ 1074) h))) c_pos

  scaled_gt : B < A → 2 ^ 1054 < a
  scaled_gt h = lt_of_mul-lt-mul_right c (subst (λ (x : ℕ). x < a * c) eb (subst (λ (x : ℕ). B * 2 ^ 1074 < x) ea (mul-lt-mul_of_pos_right h (pow_pos 1074))))

  up_to : (s : Bool) → A < B → HasValue (round binary64 s (B - A) c) s (2 ^ 1054 - a) (2 ^ 1074)
  up_to s h = rounds binary64 s (B - A) c (2 ^ 1054 - a) c_pos (minus-scale B A (2 ^ 1074) (2 ^ 1054) a c eb ea) (near-low a g lo (scaled_lt h))

  down_to : (s : Bool) → B ≤ A → HasValue (round binary64 s (A - B) c) s (a - 2 ^ 1054) (2 ^ 1074)
  down_to s h = rounds binary64 s (A - B) c (a - 2 ^ 1054) c_pos (minus-scale A B (2 ^ 1074) a (2 ^ 1054) c ea eb) (near-high a g (scaled_le h) hi)

  lessened : At (sum binary64 false A true B c) (2 ^ 1094 + a - 2 ^ 1054)
  unfolding sum
  lessened = go (ltb A B) (ltb-true A B) (ltb-false A B) refl
    where
      go : (t : Bool) → (ltb A B ≡ true → A < B) → (ltb A B ≡ false → B ≤ A) → ltb A B ≡ t
          → At (cond t (round binary64 true (B - A) c) (round binary64 false (A - B) c)) (2 ^ 1094 + a - 2 ^ 1054)
      go true x y e =
          let l = scaled_lt (x e) in
          record { s = true; a = 2 ^ 1054 - a; is = up_to true (x e); grain = near-low a g lo l; small = gap_small (2 ^ 1094) (2 ^ 1054) (2 ^ 1053) a (lit≤ tt); at = cut_low (2 ^ 1094) (2 ^ 1054) (2 ^ 1053) a l (lit≤ tt) }
      go false x y e =
          let l = scaled_le (y e) in
          record { s = false; a = a - 2 ^ 1054; is = down_to false (y e); grain = near-high a g l hi; small = rest-small (2 ^ 1094) (2 ^ 1054) (2 ^ 1053) a hi; at = cut_high (2 ^ 1094) (2 ^ 1054) (2 ^ 1053) a l }

  raised : At (sum binary64 true A false B c) (2 ^ 1094 - a + 2 ^ 1054)
  unfolding sum
  raised = go (ltb A B) (ltb B A) (ltb-true A B) (ltb-false A B) (ltb-true B A) (ltb-false B A) refl refl
    where
      go : (t u : Bool) → (ltb A B ≡ true → A < B) → (ltb A B ≡ false → B ≤ A) → (ltb B A ≡ true → B < A) → (ltb B A ≡ false → A ≤ B) → ltb A B ≡ t → ltb B A ≡ u
          → At (cond t (round binary64 false (B - A) c) (round binary64 u (A - B) c)) (2 ^ 1094 - a + 2 ^ 1054)
      go true u x y v w e f =
          let l = scaled_lt (x e) in
          record { s = false; a = 2 ^ 1054 - a; is = up_to false (x e); grain = near-low a g lo l; small = gap_small (2 ^ 1094) (2 ^ 1054) (2 ^ 1053) a (lit≤ tt); at = lift_low (2 ^ 1094) (2 ^ 1054) (2 ^ 1053) a l hi }
      go false true x y v w e f =
          let l = scaled_le (y e) in
          record { s = true; a = a - 2 ^ 1054; is = down_to true (y e); grain = near-high a g l hi; small = rest-small (2 ^ 1094) (2 ^ 1054) (2 ^ 1053) a hi; at = lift_high (2 ^ 1094) (2 ^ 1054) (2 ^ 1053) a l hi }
      go false false x y v w e f =
          let l = scaled_le (y e) in
          let same : a ≡ 2 ^ 1054 = le_antisymm (le_of_mul-le-mul_right (subst (λ (z : ℕ). z ≤ 2 ^ 1054 * c) ea (subst (λ (z : ℕ). A * 2 ^ 1074 ≤ z) eb (mul-le-mul_right (2 ^ 1074) (w f)))) c_pos) l in
          record { s = false; a = a - 2 ^ 1054; is = down_to false (y e); grain = near-high a g l hi; small = rest-small (2 ^ 1094) (2 ^ 1054) (2 ^ 1053) a hi; at = lift_zero (2 ^ 1094) (2 ^ 1054) (2 ^ 1053) a same (lit≤ tt) }

-- 2^-20 over the denominators of a value and itself
of_least : (d : ℕ) → 1 * 1 * d * 2 ^ 1074 ≡ 2 ^ 1054 * (d * 2 ^ 20)
of_least d = ap (λ (z : ℕ). z * 2 ^ 1074) (one-mul d) ∙ mul_left_comm d (2 ^ 1054) (2 ^ 20)

pub less-at : (x : Float) (p : ℕ) → At x p → 2 ^ 1094 + 2 ^ 1053 ≤ p → At (sub binary64 x least) (p - 2 ^ 1054)
unfolding sub add neg of_bits
less-at nan p v h = absurd v.is
less-at (inf s) p v h = absurd v.is
less-at (fin true m e) p v h = absurd (no v.s v.is.0 v.at)
  where
    no : (s : Bool) → true ≡ s → p ≡ shift (2 ^ 1094) s v.a → ⊥
    no true z e = not_below (2 ^ 1094) 0 (2 ^ 1053) v.a p e h (lit< tt)
    no false z e = true≢false z
less-at (fin false m e) p v h =
    subst (λ (q : ℕ). At (sum binary64 false (m * up e * 2 ^ 20) true (1 * 1 * down e) (down e * 2 ^ 20)) (q - 2 ^ 1054)) (sym pe)
    (lessened (m * up e * 2 ^ 20) (1 * 1 * down e) (down e * 2 ^ 20) v.a (mul-pos (down_pos e) (pow_pos 20))
    (mul_right_comm (m * up e) (2 ^ 20) (2 ^ 1074) ∙ ap (λ (z : ℕ). z * 2 ^ 20) v.is.1 ∙ mul_assoc v.a (down e) (2 ^ 20))
    (of_least (down e)) v.grain (above (2 ^ 1094) 0 (2 ^ 1053) v.a p pe h) v.small)
  where
    place_of : (s : Bool) → false ≡ s → p ≡ shift (2 ^ 1094) s v.a → p ≡ 2 ^ 1094 + v.a
    place_of true z e = absurd (false≢true z)
    place_of false z e = e

    pe : p ≡ 2 ^ 1094 + v.a
    pe = place_of v.s v.is.0 v.at

pub more-at : (x : Float) (p : ℕ) → At x p → p + 2 ^ 1053 ≤ 2 ^ 1094 → At (add binary64 x least) (p + 2 ^ 1054)
unfolding add of_bits
more-at nan p v h = absurd v.is
more-at (inf s) p v h = absurd v.is
more-at (fin false m e) p v h = absurd (no v.s v.is.0 v.at)
  where
    no : (s : Bool) → false ≡ s → p ≡ shift (2 ^ 1094) s v.a → ⊥
    no true z e = false≢true z
    no false z e = not_above_lem (2 ^ 1094) 0 (2 ^ 1053) v.a p e h (lit< tt)
more-at (fin true m e) p v h =
    subst (λ (q : ℕ). At (sum binary64 true (m * up e * 2 ^ 20) false (1 * 1 * down e) (down e * 2 ^ 20)) (q + 2 ^ 1054)) (sym pe)
    (raised (m * up e * 2 ^ 20) (1 * 1 * down e) (down e * 2 ^ 20) v.a (mul-pos (down_pos e) (pow_pos 20))
    (mul_right_comm (m * up e) (2 ^ 20) (2 ^ 1074) ∙ ap (λ (z : ℕ). z * 2 ^ 20) v.is.1 ∙ mul_assoc v.a (down e) (2 ^ 20))
    (of_least (down e)) v.grain (under (2 ^ 1094) 0 (2 ^ 1053) v.a p pe h) v.small)
  where
    place_of : (s : Bool) → true ≡ s → p ≡ shift (2 ^ 1094) s v.a → p ≡ 2 ^ 1094 - v.a
    place_of true z e = e
    place_of false z e = absurd (true≢false z)

    pe : p ≡ 2 ^ 1094 - v.a
    pe = place_of v.s v.is.0 v.at

-- ---- the bounds, and ±2^-21

pub half_at : At half (2 ^ 1094 + 2 ^ 1053)
unfolding of_bits
half_at = record {
  s = false;
  a = 2 ^ 1053;
  is = (refl, refl);
  grain = record { m = 1; j = 1053; short = omega arith; is = refl; inside = lit< tt };
  small = lit≤ tt;
  at = refl;
}

pub minus-half-at : At (neg half) (2 ^ 1094 - 2 ^ 1053)
unfolding of_bits neg
minus-half-at = record {
  s = true;
  a = 2 ^ 1053;
  is = (refl, refl);
  grain = record { m = 1; j = 1053; short = omega arith; is = refl; inside = lit< tt };
  small = lit≤ tt;
  at = refl;
}

or_le : (x y : ℕ) (b : Bool) → (ltb x y || (eqb x y && b)) ≡ true → x ≤ y
or_le x y b = go (ltb x y) (eqb x y) b (ltb-true x y) (eqb-true x y) refl refl
  where
    go : (t u b : Bool) → (ltb x y ≡ true → x < y) → (eqb x y ≡ true → x ≡ y) → ltb x y ≡ t → eqb x y ≡ u → (t || (u && b)) ≡ true → x ≤ y
    go true u b f g e e' h = le_of_lt (f e)
    go false true b f g e e' h = le_of_eq (g e')
    go false false b f g e e' h = absurd (false≢true h)

and_first : (a b : Bool) → (a && b) ≡ true → a ≡ true
and_first true b h = refl
and_first false b h = h

and_second : (a b : Bool) → (a && b) ≡ true → b ≡ true
and_second true b h = h
and_second false b h = absurd (false≢true h)

-- m * 2 ^ e is at most 2^20 where it is at most 2^1094 quanta
inside : (x d a : ℕ) → 0 < d → x * 2 ^ 1074 ≡ a * d → x ≤ 2 ^ 20 * d → a ≤ 2 ^ 1094
inside x d a p e h = le_of_mul-le-mul_right {k = d} (le_trans (le_of_eq (sym e)) (le_trans (mul-le-mul_right (2 ^ 1074) h) (le_of_eq (mul_right_comm (2 ^ 20) d (2 ^ 1074))))) p

or_le' : (x y : ℕ) (b : Bool) → (ltb x y || (eqb y x && b)) ≡ true → x ≤ y
or_le' x y b = go (ltb x y) (eqb y x) b (ltb-true x y) (eqb-true y x) refl refl
  where
    go : (t u b : Bool) → (ltb x y ≡ true → x < y) → (eqb y x ≡ true → y ≡ x) → ltb x y ≡ t → eqb y x ≡ u → (t || (u && b)) ≡ true → x ≤ y
    go true u b f g e e' h = le_of_lt (f e)
    go false true b f g e e' h = le_of_eq (sym (g e'))
    go false false b f g e e' h = absurd (false≢true h)

pub bounded_at : (x : Float) → T (fits binary64 x) → bounded x ≡ true → At x (place x)
unfolding bounded place le lt eq neg of_bits
bounded_at nan f h = absurd (false≢true h)
bounded_at (inf true) f h = absurd (false≢true h)
bounded_at (inf false) f h = absurd (false≢true h)
bounded_at (fin false m e) f h =
    let l = or_le (m * up e * 1) (2 ^ 20 * down e) true (and_second (le (neg limit) (fin false m e)) (le (fin false m e) limit) h) in
    let g = quanta-exact binary64 false m e f in
    record {
      s = false;
      a = quanta binary64 (fin false m e);
      is = (refl, g);
      grain = in_quanta binary64 false m e f;
      small = inside (m * up e) (down e) (quanta binary64 (fin false m e)) (down_pos e) g (subst (λ (x : ℕ). x ≤ 2 ^ 20 * down e) (mul-one (m * up e)) l);
      at = refl;
    }
bounded_at (fin true m e) f h =
    let l = or_le' (m * up e * 1) (2 ^ 20 * down e) true (and_first (le (neg limit) (fin true m e)) (le (fin true m e) limit) h) in
    let g = quanta-exact binary64 true m e f in
    record {
      s = true;
      a = quanta binary64 (fin true m e);
      is = (refl, g);
      grain = in_quanta binary64 true m e f;
      small = inside (m * up e) (down e) (quanta binary64 (fin true m e)) (down_pos e) g (subst (λ (x : ℕ). x ≤ 2 ^ 20 * down e) (mul-one (m * up e)) l);
      at = refl;
    }

not_ltb : (a b : ℕ) → not (ltb a b) ≡ leb b a
not_ltb a b = go (ltb a b) (ltb-true a b) (ltb-false a b) refl
  where
    go : (t : Bool) → (ltb a b ≡ true → a < b) → (ltb a b ≡ false → b ≤ a) → ltb a b ≡ t → not (ltb a b) ≡ leb b a
    go true x y e = ap not e ∙ sym (lt-leb b a (x e))
    go false x y e = ap not e ∙ sym (le-leb b a (y e))

number_at : (x : Float) {p : ℕ} → At x p → NotNan x
unfolding is_nan
number_at nan v = absurd v.is
number_at (inf s) v = tt
number_at (fin s m e) v = tt

not_lt : (x y : Float) → NotNan x → NotNan y → le x y ≡ not (lt y x)
not_lt x y n m = go (le x y) (lt y x) refl refl
  where
    go : (t u : Bool) → le x y ≡ t → lt y x ≡ u → t ≡ not u
    go true true e f = absurd (lt_irrefl x (lt_of_le_of_ltᶠ x y x (T_from_true (le x y) e) (T_from_true (lt y x) f)))
    go true false e f = refl
    go false true e f = refl
    go false false e f = absurd (subst T f (lt_of_not-le x y n m (T_from_false (le x y) e)))

le_at : (x y : Float) {p q : ℕ} → At x p → At y q → le x y ≡ leb p q
le_at x y {p} {q} u v = not_lt x y (number_at x u) (number_at y v) ∙ ap not (lt_at y x v u) ∙ not_ltb q p

-- ---- a side of the box

pub side_outside : (l u : Float) → bounded l ≡ false → false ≡ side_ok l u
unfolding side_ok
side_outside l u e = sym (ap (λ (t : Bool). t && bounded u && leb (place l + 2 ^ 1054) (place u)) e)

pub side_outside_2 : (l u : Float) → bounded l ≡ true → bounded u ≡ false → false ≡ side_ok l u
unfolding side_ok
side_outside_2 l u e g = sym (ap₂ (λ (t v : Bool). t && v && leb (place l + 2 ^ 1054) (place u)) e g)

side-is : (l u : Float) → bounded l ≡ true → bounded u ≡ true → leb (place l + 2 ^ 1054) (place u) ≡ side_ok l u
unfolding side_ok
side-is l u e g = sym (ap₂ (λ (t v : Bool). t && v && leb (place l + 2 ^ 1054) (place u)) e g)

module _ (K H D p q : ℕ) (d : D ≡ H + H) (k : D ≤ K) where
  close : q < K + H → K - H < p → q < p + D
  close a b = omega arith

  low_half : p ≤ K - H → p + H ≤ K
  low_half a = omega arith

  -- the same with 2^-20 on either side
  swapped : K + H ≤ q → leb p (q - D) ≡ leb (p + D) q
  swapped a = sym (not_ltb (q - D) p) ∙ ap not (ltb_same (λ (l : q - D < p). omega arith) (λ (l : q < p + D). omega arith)) ∙ not_ltb q (p + D)

module _ (l u : Float) (fl : T (fits binary64 l)) (fu : T (fits binary64 u)) (bl : bounded l ≡ true) (bu : bounded u ≡ true) where
  at_l : At l (place l)
  at_l = bounded_at l fl bl

  at-u : At u (place u)
  at-u = bounded_at u fu bu

  pub side-short : lt u half ≡ true → le l (neg half) ≡ false → false ≡ side_ok l u
  side-short a b =
      sym (lt-leb (place l + 2 ^ 1054) (place u)
      (close (2 ^ 1094) (2 ^ 1053) (2 ^ 1054) (place l) (place u) refl (lit≤ tt)
      (ltb-true (place u) (2 ^ 1094 + 2 ^ 1053) (sym (lt_at u half at-u half_at) ∙ a))
      (leb-false (place l) (2 ^ 1094 - 2 ^ 1053) (sym (le_at l (neg half) at_l minus-half-at) ∙ b))))
      ∙ side-is l u bl bu

  pub side-lower : le l (neg half) ≡ true → le (add binary64 l least) u ≡ side_ok l u
  side-lower a =
      let h = low_half (2 ^ 1094) (2 ^ 1053) (2 ^ 1054) (place l) 0 refl (lit≤ tt) (leb-true (place l) (2 ^ 1094 - 2 ^ 1053) (sym (le_at l (neg half) at_l minus-half-at) ∙ a)) in
      le_at (add binary64 l least) u (more-at l (place l) at_l h) at-u ∙ side-is l u bl bu

  pub side-upper : lt u half ≡ false → le l (sub binary64 u least) ≡ side_ok l u
  side-upper a =
      let h = ltb-false (place u) (2 ^ 1094 + 2 ^ 1053) (sym (lt_at u half at-u half_at) ∙ a) in
      le_at l (sub binary64 u least) at_l (less-at u (place u) at-u h)
      ∙ swapped (2 ^ 1094) (2 ^ 1053) (2 ^ 1054) (place l) (place u) refl (lit≤ tt) h
      ∙ side-is l u bl bu
