-- One digit of the square root, for numbers of any size: from √n cut to a whole number r, with s = n - r ^ 2, the same of 4 * n + d, for a digit d of base 4.
-- The new root is 2 * r or 2 * r + 1, by one comparison. Assumes nothing.
use mathlib.Core.Path.{◌≡◌, sym, ap, ◌∙◌, subst}
use Prim.Native.Nat.{ℕ, suc, ◌+◌, ◌-◌, ◌*◌, ◌^◌, ◌≤◌, ◌<◌}
use native.Mathlib.Nat.{add-zero, add-mul, mul-add, mul-mul-mul_comm, pow-succ', mul-one, lt_of_lt_of_le, sub-le}
use native.Mathlib.Omega.{arith}
use lib.Pow.{pow_mono}
use lib.Dec.{T, leb, leb→le, nleb→lt}
use mir.Val.{bool_byte}
use mathlib.Core.Bool.{Bool, true, false, not}
use Rattle.float.specs.Digits.{Rooted}

pub sq_even : (r : ℕ) → r * 2 * (r * 2) ≡ 4 * (r * r)
sq_even r = omega (arith, mul-mul-mul_comm r 2 r 2)

pub sq_add-one : (a : ℕ) → (a + 1) * (a + 1) ≡ a * a + 2 * a + 1
sq_add-one a = omega (arith, add-mul a 1 (a + 1), mul-add a a 1)

pub sq_odd : (r : ℕ) → (r * 2 + 1) * (r * 2 + 1) ≡ 4 * (r * r) + 4 * r + 1
sq_odd r = omega (arith, sq_add-one (r * 2), sq_even r)

-- the next digit of the root is 0, or 1
pub step-low : {n r s : ℕ} (d : ℕ) → Rooted n r s → s * 4 + d < r * 4 + 1 → Rooted (4 * n + d) (r * 2) (s * 4 + d)
step-low {n} {r} {s} d h l = record { whole = omega (arith, sq_even r); small = omega arith }

pub step-high : {n r s : ℕ} (d : ℕ) → d < 4 → Rooted n r s → r * 4 + 1 ≤ s * 4 + d → Rooted (4 * n + d) (r * 2 + 1) (s * 4 + d - (r * 4 + 1))
step-high {n} {r} {s} d b h l = record { whole = omega (arith, sq_odd r); small = omega arith }

-- the digit g as the code has it, the value of the comparison
pub record Step (n r s d g : ℕ) : Type 0 where
  pub bit : g ≤ 1
  pub part : (r * 4 + 1) * g ≤ s * 4 + d
  pub next : Rooted (4 * n + d) (r * 2 + g) (s * 4 + d - (r * 4 + 1) * g)

pub step : {n r s : ℕ} (d : ℕ) → d < 4 → Rooted n r s → Step n r s d (bool_byte (leb (r * 4 + 1) (s * 4 + d)))
step {n} {r} {s} d b h = go (leb (r * 4 + 1) (s * 4 + d)) (leb→le (r * 4 + 1) (s * 4 + d)) (nleb→lt (r * 4 + 1) (s * 4 + d))
  where
    none : s * 4 + d ≡ s * 4 + d - (r * 4 + 1) * 0
    none = omega arith

    go : (t : Bool) → (T t → r * 4 + 1 ≤ s * 4 + d) → (T (not t) → s * 4 + d < r * 4 + 1) → Step n r s d (bool_byte t)
    go true x y = record {
      bit = omega arith;
      part = subst (λ (a : ℕ). a ≤ s * 4 + d) (sym (mul-one (r * 4 + 1))) (x tt);
      next = subst (λ (a : ℕ). Rooted (4 * n + d) (r * 2 + 1) (s * 4 + d - a)) (sym (mul-one (r * 4 + 1))) (step-high d b h (x tt));
    }
    go false x y = record {
      bit = omega arith;
      part = omega arith;
      next = subst (λ (a : ℕ). Rooted (4 * n + d) a (s * 4 + d - (r * 4 + 1) * 0)) (sym (add-zero (r * 2))) (subst (λ (a : ℕ). Rooted (4 * n + d) (r * 2) a) none (step-low d h (y tt)));
    }

-- ---- how many digits the root has: at `left` to come, of w in all, it is below 2 ^ (w - left)

pub root-small : (w l : ℕ) {r : ℕ} → r < 2 ^ (w - l) → r < 2 ^ w
root-small w l h = lt_of_lt_of_le h (pow_mono (sub-le w l))

more-digits : (w l : ℕ) → l ≤ w → 0 < l → w - (l - 1) ≡ suc (w - l)
more-digits w l a b = omega arith

pub root_grows : (w l r : ℕ) → l ≤ w → 0 < l → r < 2 ^ (w - l) → r * 2 + 1 < 2 ^ (w - (l - 1))
root_grows w l r a b h = subst (λ (x : ℕ). r * 2 + 1 < x) (sym (ap (λ (x : ℕ). 2 ^ x) (more-digits w l a b) ∙ pow-succ' 2 (w - l))) (go (2 ^ (w - l)) h)
  where
    go : (p : ℕ) → r < p → r * 2 + 1 < 2 * p
    go p h = omega arith
