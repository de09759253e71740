-- `root` at closed cases, all computed by one theorem over one table. The answers are those of Rust's f64::sqrt on x86-64, as `to_bits` prints them. Assumes nothing.
use mathlib.Core.Path.{◌≡◌, refl}
use mathlib.Core.Bool.{Bool, true, ◌&&◌}
use mathlib.Core.List.{List, [], ◌∷◌}
use Prim.Native.Nat.{ℕ}
use lib.Dec.{eqb}
use lib.Ieee.{binary64, of_bits, to_bits}
use Rattle.float.specs.Root.{root}

-- the root on bit patterns
abbrev on : ℕ → ℕ
on b = to_bits binary64 (root binary64 (of_bits binary64 b))

abbrev right : List (ℕ × ℕ) → Bool
right [] = true
right (x ∷ l) = eqb (on x.0) x.1 && right l

pub table : List (ℕ × ℕ)
table =
    -- 2, 3, 4, 1/10
    (0x4000000000000000, 0x3ff6a09e667f3bcd) ∷ (0x4008000000000000, 0x3ffbb67ae8584caa) ∷ (0x4010000000000000, 0x4000000000000000) ∷ (0x3fb999999999999a, 0x3fd43d136248490f)
    -- the largest value, the least normal, the largest subnormal, one between, the least
    ∷ (0x7fefffffffffffff, 0x5fefffffffffffff) ∷ (0x0010000000000000, 0x2000000000000000) ∷ (0x000fffffffffffff, 0x1fffffffffffffff) ∷ (0x000000123456789a, 0x1f8111111110b889) ∷ (0x0000000000000001, 0x1e60000000000000)
    -- next to 1 and to 4
    ∷ (0x3fefffffffffffff, 0x3fefffffffffffff) ∷ (0x3ff0000000000001, 0x3ff0000000000000) ∷ (0x400fffffffffffff, 0x3fffffffffffffff)
    -- the zeros and infinity
    ∷ (0x0000000000000000, 0x0000000000000000) ∷ (0x8000000000000000, 0x8000000000000000) ∷ (0x7ff0000000000000, 0x7ff0000000000000) ∷ []

pub controls : right table ≡ true
unfolding table root of_bits to_bits
controls = refl
