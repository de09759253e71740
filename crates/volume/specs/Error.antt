-- How near a reported volume is to the exact one, without real numbers: both as fractions, the inequality multiplied out. Definitions only.
-- A finite f64 is a whole number of 2 ^ -1074, its `signed_quanta`. Six times the exact volume is a whole number of (1/1024)^3, which is 2 ^ -30.
use Rattle.std.specs.Prelude.{ℕ, ◌*◌, ◌^◌, ◌≤◌, ℤ, pos, nat_abs, ◌-ℤ◌, ◌*ℤ◌, Float}
use Rattle.std.specs.Float.{binary64}
use Rattle.rounding.specs.Fraction.{Is, signed_quanta}

-- x is finite, and its quanta are all of it
abbrev pub Finite : Float → Type 0
Finite x = Is x (signed_quanta binary64 x) (2 ^ 1074)

-- The reported volume is finite, and within m * m / 2 ^ 33 of the volume whose sixfold is s of 2 ^ -30: with n quanta reported,
-- | n / 2 ^ 1074 - s / (6 * 2 ^ 30) | ≤ m * m / 2 ^ 33, times 6 * 2 ^ 30 * 2 ^ 1074 * 2 ^ 33.
pub record NearExact (m : ℕ) (reported : Float) (s : ℤ) : Type 0 where
  pub finite : Finite reported
  pub near : nat_abs (pos (6 * 2 ^ 30) *ℤ signed_quanta binary64 reported -ℤ pos (2 ^ 1074) *ℤ s) * 2 ^ 33 ≤ 6 * 2 ^ 30 * 2 ^ 1074 * (m * m)

-- Two reported volumes are finite and differ by at most 2 * m * m / 2 ^ 33.
pub record NearEachOther (m : ℕ) (one other : Float) : Type 0 where
  pub finite : Finite one
  pub finite' : Finite other
  pub near : nat_abs (signed_quanta binary64 one -ℤ signed_quanta binary64 other) * 2 ^ 33 ≤ 2 * 2 ^ 1074 * (m * m)
