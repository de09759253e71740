-- `float::scaled` meets its contract: m * 2 ^ (k + 1020) is w * 2 ^ 52 * 4 ^ K, where w is m or 2 * m by k's parity, so its root is that of w * 2 ^ 52, moved K places up. Assumes nothing.
use mathlib.Core.Path.{◌≡◌, sym, ap, ◌∙◌, subst}
use mathlib.Core.Bool.{false}
use Prim.Native.Nat.{ℕ, zero, suc, ◌+◌, ◌-◌, ◌*◌, ◌/◌, ◌%◌, ◌^◌, ◌≤◌, ◌<◌}
use native.Mathlib.Nat.{mul_assoc, mul-le-mul, mul-le-mul_right, mod-eq_of_lt, lt_of_le_of_lt}
use native.Mathlib.Omega.{arith}
use lib.Dec.{lit<}
use lib.Pow.{pow-add}
use lib.Ieee.{binary64, units, of_bits}
use Rattle.float.specs.Root.{nearest_root, root_units}
use Rattle.float.proofs.Pack.{root-scaled, packed, packed_no_nan}
use Rattle.float.proofs.scaled.Goals as goal

-- half of the exponent, as the result has it
abbrev half : ℕ → ℕ
half k = k / 2 + 484

-- the digits that are rooted, as the code has them
abbrev digits : ℕ → ℕ → ℕ
digits m k = m * 2 ^ (k % 2) % 2 ^ 64

room : (k : ℕ) → k ≤ 2100 → 53 + half k ≤ 1074 + 1024
room k h = omega arith

module _ (m k : ℕ) (lo : 2 ^ 52 ≤ m) (hi : m < 2 ^ 53) where
  one-or-two : (1 ≤ 2 ^ (k % 2)) × (2 ^ (k % 2) ≤ 2)
  one-or-two = at (k % 2) (omega arith)
    where
      none : (p : ℕ) → suc (suc p) < 2 → ⊥
      none p h = omega arith

      at : (p : ℕ) → p < 2 → (1 ≤ 2 ^ p) × (2 ^ p ≤ 2)
      at zero h = (omega arith, omega arith)
      at (suc zero) h = (omega arith, omega arith)
      at (suc (suc p)) h = absurd (none p h)

  at_least : 2 ^ 52 ≤ m * 2 ^ (k % 2)
  at_least = mul-le-mul lo one-or-two.0

  at_most : m * 2 ^ (k % 2) ≤ 2 ^ 54 - 2
  at_most = mul-le-mul (below hi) one-or-two.1
    where
      below : m < 2 ^ 53 → m ≤ 2 ^ 53 - 1
      below h = omega arith

  whole : digits m k ≡ m * 2 ^ (k % 2)
  whole = mod-eq_of_lt (lt_of_le_of_lt at_most (lit< tt))

  wide : (2 ^ 52 ≤ digits m k) × (digits m k ≤ 2 ^ 54 - 2)
  wide = subst (λ (w : ℕ). (2 ^ 52 ≤ w) × (w ≤ 2 ^ 54 - 2)) (sym whole) (at_least, at_most)

  apart : m * 2 ^ (k + 1020) ≡ digits m k * 2 ^ 52 * (2 ^ half k * 2 ^ half k)
  apart =
      ap (λ (x : ℕ). m * 2 ^ x) sum
      ∙ ap (λ (x : ℕ). m * x) (pow-add 2 (k % 2) (52 + (half k + half k)))
      ∙ sym (mul_assoc m (2 ^ (k % 2)) (2 ^ (52 + (half k + half k))))
      ∙ ap (λ (x : ℕ). m * 2 ^ (k % 2) * x) (pow-add 2 52 (half k + half k) ∙ ap (λ (x : ℕ). 2 ^ 52 * x) (pow-add 2 (half k) (half k)))
      ∙ sym (mul_assoc (m * 2 ^ (k % 2)) (2 ^ 52) (2 ^ half k * 2 ^ half k))
      ∙ ap (λ (w : ℕ). w * 2 ^ 52 * (2 ^ half k * 2 ^ half k)) (sym whole)
    where
      sum : k + 1020 ≡ k % 2 + (52 + (half k + half k))
      sum = omega arith

  packs : k ≤ 2100 → (q : ℕ) → (q ≡ nearest_root (digits m k * 2 ^ 52) 0) × (2 ^ 52 ≤ q) × (q < 2 ^ 53) → of_bits binary64 (half k * 2 ^ 52 + q) ≡ root_units binary64 (m * 2 ^ (k + 1020))
  packs r q h =
      packed binary64 q (half k) h.1 h.2 (room k r)
      ∙ ap (λ (x : ℕ). units binary64 false x (half k)) h.0
      ∙ sym (ap (root_units binary64) apart
      ∙ root-scaled binary64 (digits m k * 2 ^ 52) (half k) (mul-le-mul_right (2 ^ 52) wide.0) (lt_of_le_of_lt (mul-le-mul_right (2 ^ 52) wide.1) (lit< tt)))

pub nearest_root-requires : goal.nearest_root-requires
nearest_root-requires c = wide c.args.m c.args.k c.requires.0 c.requires.1

pub float_from_bits-result : goal.float_from_bits-result
float_from_bits-result c =
    packed_no_nan binary64 c.nearest_root.result (half c.args.k) c.nearest_root.ensures.1 c.nearest_root.ensures.2 (room c.args.k c.requires.2)

pub returns : goal.returns
returns c =
    packs c.args.m c.args.k c.requires.0 c.requires.1 c.requires.2 c.nearest_root.result c.nearest_root.ensures
