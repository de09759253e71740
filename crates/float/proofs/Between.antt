-- The number nearest √N lies where N is between the squares of the midpoints beside it, q * q - q < N ≤ q * q + q, and it is the only one that does. Assumes nothing.
use mathlib.Core.Path.{◌≡◌, sym, ap, ◌∙◌, subst}
use mathlib.Core.Bool.{Bool, true, false, not}
use Prim.Native.Nat.{ℕ, suc, ◌+◌, ◌-◌, ◌*◌, ◌^◌, ◌≤◌, ◌<◌}
use native.Mathlib.Nat.{mul-le-mul, le_antisymm, lt_of_not-le, le_of_suc-le-suc}
use native.Mathlib.Numerals.{add-one}
use native.Mathlib.Omega.{arith}
use lib.Dec.{T, leb, leb→le, nleb→lt}
use Rattle.float.specs.Root.{isqrt, nearest_root}
use Rattle.float.specs.Digits.{Rooted}
use Rattle.float.proofs.Digit.{sq_add-one}
use Rattle.float.proofs.Isqrt.{at_zero, isqrt_rooted, picks-low, picks-high}

pub sq_less-one : (q : ℕ) → 1 ≤ q → (q - 1) * (q - 1) + 2 * q ≡ q * q + 1
sq_less-one q one = of (q - 1) (omega arith)
  where
    of : (p : ℕ) → q ≡ p + 1 → p * p + 2 * q ≡ q * q + 1
    of p e = omega (arith, ap (λ (x : ℕ). x * x) e, sq_add-one p)

-- (0 has no midpoint below it)
pub record Between (N q : ℕ) : Type 0 where
  pub over : 1 ≤ q → q * q < N + q
  pub under : N ≤ q * q + q

pub nearest-between : (N : ℕ) → Between N (nearest_root N 0)
nearest-between N = go (leb s r) (leb→le s r) (nleb→lt s r)
  where
    r : ℕ
    r = isqrt N

    s : ℕ
    s = N - isqrt N * isqrt N

    at : {q : ℕ} → nearest_root (N * (2 ^ 0 * 2 ^ 0)) 0 ≡ q → Between N q → Between N (nearest_root N 0)
    at e h = subst (Between N) (sym e ∙ ap (λ (x : ℕ). nearest_root x 0) (at_zero N)) h

    low : {r s : ℕ} → Rooted N r s → s ≤ r → Between N r
    low h l = record { over = λ p. omega arith; under = omega arith }

    high : {r s : ℕ} → Rooted N r s → r < s → Between N (r + 1)
    high {r} {s} h l = record { over = λ p. omega (arith, sq_add-one r); under = omega (arith, sq_add-one r) }

    go : (b : Bool) → (T b → s ≤ r) → (T (not b) → r < s) → Between N (nearest_root N 0)
    go true x y = at (picks-low N 0 r s (isqrt_rooted N) (x tt)) (low (isqrt_rooted N) (x tt))
    go false x y = at (picks-high N 0 r s (isqrt_rooted N) (y tt)) (subst (Between N) (add-one r) (high (isqrt_rooted N) (y tt)))

module _ {N q : ℕ} (b : Between N q) (h : ℕ) where
  -- above the midpoint over h
  pub more_than : h * h + h < N → h < q
  more_than l = lt_of_not-le (λ (g : q ≤ h). no (mul-le-mul g g) g)
    where
      no : q * q ≤ h * h → q ≤ h → ⊥
      no x y = omega (arith, b.under)

  -- not above it
  pub at_most : N ≤ h * h + h → q ≤ h
  at_most l = le_of_suc-le-suc (lt_of_not-le (λ (g : suc h ≤ q). no g (less g)))
    where
      less : suc h ≤ q → h ≤ q - 1
      less g = omega arith

      no : suc h ≤ q → h ≤ q - 1 → ⊥
      no x y = omega (arith, b.over (omega arith), sq_less-one q (omega arith), mul-le-mul y y)

-- the only one
pub between-nearest : {N q : ℕ} → 1 ≤ q → Between N q → nearest_root N 0 ≡ q
between-nearest {N} {q} one b = le_antisymm (at_most (nearest-between N) q b.under) (from (more_than (nearest-between N) (q - 1) below))
  where
    below : (q - 1) * (q - 1) + (q - 1) < N
    below = omega (arith, sq_less-one q one, b.over one)

    from : q - 1 < nearest_root N 0 → q ≤ nearest_root N 0
    from l = omega arith
