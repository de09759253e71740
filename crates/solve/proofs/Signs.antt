-- The sign of a rounded difference is that of the exact one, unless it is zero: a listed edge is bracketed. Assumes nothing.
use mathlib.Core.Path.{◌≡◌, refl, ap, ap₂, ◌∙◌}
use mathlib.Core.Logic.{◌⊎◌, inl, inr}
use mathlib.Core.Bool.{Bool, true, false, not, cond, beq, false≢true}
use Prim.Native.Nat.{ℕ, suc, ◌+◌, ◌-◌, ◌*◌, ◌^◌, ◌≤◌, ◌<◌}
use native.Mathlib.Nat.{mul-pos, zero-mul}
use native.Mathlib.Omega.{arith}
use lib.Dec.{ltb}
use lib.Pow.{pow_pos}
use borrow.Author.Tests.{ltb-true, ltb-false}
use lib.Ieee.{Float, nan, inf, fin, Format, binary64, prec, emax, low, up, down, odd, units, round, sum, add, sub, neg, lt, eq, level, below, of_bits}
use lib.Ieee.Exact.{HasValue, round_exact}
use lib.Ieee.Fits.{round_is, down_pos}
use lib.Ieee.Order.{kept, drop}
use Rattle.float.specs.Point.{less}
use Rattle.float.specs.Order.{is_finite}
use Rattle.field.specs.Number.{plus_zero, one, minus_one}
use Rattle.rounding.proofs.Compared.{eq-values}
use Rattle.solve.specs.Solve.{signum}
use Rattle.solve.specs.Laws.{CrossedValues, Bracketed}
use Rattle.solve.proofs.Turns.{signum_odd}

-- ---- what is rounded keeps its sign

signum-units : (f : Format) (s : Bool) (q k : ℕ) → signum (units f s q k) ≡ cond s minus_one one
unfolding units signum
signum-units f s q k = go (ltb (q * 2 ^ k) (2 ^ (low f + suc (emax f))))
  where
    go : (b : Bool) → signum (cond b (odd (suc (prec f)) s q k (low f)) (inf s)) ≡ cond s minus_one one
    go true = signum_odd (suc (prec f)) s q k (low f)
    go false = refl

pub signum-round : (f : Format) (s : Bool) (a c : ℕ) → signum (round f s a c) ≡ cond s minus_one one
signum-round f s a c = ap signum (round_is f s a c) ∙ signum-units f s (kept (prec f) (a * 2 ^ low f) c) (drop (prec f) (a * 2 ^ low f) c)

-- ---- zero

pub zero-value : (c : ℕ) → HasValue plus_zero false 0 c
unfolding of_bits
zero-value c = (refl, zero-mul c)

-- either zero is 0
pub zero_is : (x : Float) (s : Bool) (c : ℕ) → 0 < c → HasValue x s 0 c → eq x plus_zero ≡ true
zero_is x s c C p = eq-values x plus_zero s false 0 0 c C p (zero-value c) ∙ go s
  where
    go : (s : Bool) → level s 0 false 0 ≡ true
    go false = refl
    go true = refl

round-zero : (f : Format) (s : Bool) (n c : ℕ) → 0 < c → n ≡ 0 → eq (round f s n c) plus_zero ≡ true
round-zero f s n c C z =
    ap (λ (i : ℕ). eq (round f s i c) plus_zero) z
    ∙ zero_is (round f s 0 c) s c C (round_exact f s 0 c 0 0 C (pow_pos (prec f)) (pow_pos (low f + suc (emax f))) (nothing (2 ^ low f) c))
  where
    nothing : (l c : ℕ) → 0 * l ≡ 0 * 2 ^ 0 * c
    nothing l c = omega arith

-- ---- the sign of a difference of finite values

module _ (f : Format) (a b c : ℕ) (C : 0 < c) where
  by_test : (i : Bool) (n m : ℕ) → signum (cond i (round f true n c) (round f false m c)) ≡ cond i minus_one one
  by_test true n m = signum-round f true n c
  by_test false n m = signum-round f false m c

  sum-side : (s t : Bool) → (signum (sum f s a (not t) b c) ≡ cond (below s a t b) minus_one one) ⊎ (eq (sum f s a (not t) b c) plus_zero ≡ true)
  unfolding sum
  sum-side false false = inl (by_test (ltb a b) (b - a) (a - b))
  sum-side false true = inl (signum-round f false (a + b) c)
  sum-side true false = go (ltb 0 (a + b)) refl
    where
      none : a + b ≤ 0 → a + b ≡ 0
      none l = omega arith

      go : (i : Bool) → ltb 0 (a + b) ≡ i → (signum (round f true (a + b) c) ≡ cond i minus_one one) ⊎ (eq (round f true (a + b) c) plus_zero ≡ true)
      go true e = inl (signum-round f true (a + b) c)
      go false e = inr (round-zero f true (a + b) c C (none (ltb-false 0 (a + b) e)))
  sum-side true true = inl (go (ltb a b) refl (ltb b a) refl)
    where
      clash : a < b → b < a → ⊥
      clash l m = omega arith

      go : (i : Bool) → ltb a b ≡ i → (j : Bool) → ltb b a ≡ j → signum (cond i (round f false (b - a) c) (round f j (a - b) c)) ≡ cond j minus_one one
      go true e true h = absurd (clash (ltb-true a b e) (ltb-true b a h))
      go true e false h = signum-round f false (b - a) c
      go false e j h = signum-round f j (a - b) c

less-side : (x l : Float) → is_finite x ≡ true → is_finite l ≡ true → (signum (less x l) ≡ cond (lt x l) minus_one one) ⊎ (eq (less x l) plus_zero ≡ true)
unfolding is_finite sub add neg lt
less-side nan l p q = absurd (false≢true p)
less-side (inf s) l p q = absurd (false≢true p)
less-side (fin s m e) nan p q = absurd (false≢true q)
less-side (fin s m e) (inf t) p q = absurd (false≢true q)
less-side (fin s m e) (fin t n d) p q = sum-side binary64 (m * up e * down d) (n * up d * down e) (down e * down d) (mul-pos (down_pos e) (down_pos d)) s t

-- ---- a listed edge is bracketed

pub sign_test : (s t : Bool) → eq (cond s minus_one one) (cond t minus_one one) ≡ beq s t
unfolding eq neg of_bits
sign_test false false = refl
sign_test false true = refl
sign_test true false = refl
sign_test true true = refl

differ : (s t : Bool) → (s ≡ t → ⊥) → beq s t ≡ false
differ false false n = absurd (n refl)
differ false true n = refl
differ true false n = refl
differ true true n = absurd (n refl)

pub bracketed : (first second level : Float) → CrossedValues first second level → Bracketed (less first level) (less second level)
bracketed first second level h =
    elim (less-side first level h.first-finite h.level_finite) [
      | inr z ↦ inl z
      | inl p ↦ elim (less-side second level h.second-finite h.level_finite) [
        | inr z ↦ inr (inl z)
        | inl q ↦ inr (inr (ap₂ eq p q ∙ sign_test (lt first level) (lt second level) ∙ differ (lt first level) (lt second level) h.apart))
      ]
    ]
