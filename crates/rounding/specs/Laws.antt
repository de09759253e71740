-- What the operations of IEEE 754 do with values that are given as fractions, in any format. Statements only; `rounding_laws` of `proofs/Laws` proves them.
use Rattle.std.specs.Prelude.{ℕ, ◌+◌, ◌-◌, ◌*◌, ◌^◌, ◌≤◌, ◌<◌, T, ℤ, pos, nat_abs, ◌+ℤ◌, ◌-ℤ◌, ◌*ℤ◌, Float}
use Rattle.std.specs.Float.{Format}
use Rattle.std.specs.Float.Ieee.{prec, emax, low, add, sub, mul, div, fits}
use Rattle.rounding.specs.Fraction.{Is, signed_quanta, Rounds, Near}

pub record RoundingLaws (f : Format) : Type 0 where
  -- a value that fits is a whole number of the format's smallest value
  pub exact-quanta : {x : Float} {z : ℤ} {c : ℕ} → T (fits f x) → Is x z c → Is x (signed_quanta f x) (2 ^ low f)
  -- each operation gives the exact result, rounded once
  pub add_rounds : {x y : Float} {a b : ℤ} {c : ℕ} → 0 < c → Is x a c → Is y b c → Rounds f (add f x y) (a +ℤ b) c
  pub sub-rounds : {x y : Float} {a b : ℤ} {c : ℕ} → 0 < c → Is x a c → Is y b c → Rounds f (sub f x y) (a -ℤ b) c
  pub mul-rounds : {x y : Float} {a b : ℤ} {c d : ℕ} → 0 < c → 0 < d → Is x a c → Is y b d → Rounds f (mul f x y) (a *ℤ b) (c * d)
  pub div-rounds : {x y : Float} {a : ℤ} {c n : ℕ} → 0 < c → 0 < n → Is x a c → Is y (pos n) 1 → Rounds f (div f x y) a (n * c)
  -- a whole number of 2 ^ -k with no more than `prec` digits is not changed: such sums, differences and products are exact
  pub exact : {x : Float} {z : ℤ} (k : ℕ) → Rounds f x z (2 ^ k) → nat_abs z < 2 ^ prec f → k ≤ low f → Is x z (2 ^ k)
  pub add-exact : {x y : Float} {a b : ℤ} (k : ℕ) → Is x a (2 ^ k) → Is y b (2 ^ k) → nat_abs (a +ℤ b) < 2 ^ prec f → k ≤ low f → Is (add f x y) (a +ℤ b) (2 ^ k)
  pub sub-exact : {x y : Float} {a b : ℤ} (k : ℕ) → Is x a (2 ^ k) → Is y b (2 ^ k) → nat_abs (a -ℤ b) < 2 ^ prec f → k ≤ low f → Is (sub f x y) (a -ℤ b) (2 ^ k)
  pub mul-exact : {x y : Float} {a b : ℤ} (j k : ℕ) → Is x a (2 ^ j) → Is y b (2 ^ k) → nat_abs (a *ℤ b) < 2 ^ prec f → j + k ≤ low f → Is (mul f x y) (a *ℤ b) (2 ^ (j + k))
  -- at 0 and in the range of normal values one rounding is off by at most one part in 2 ^ prec
  pub near : {x : Float} {z : ℤ} {c : ℕ} → Rounds f x z c → 0 < c → (0 < nat_abs z → 2 ^ (prec f - 1) * c ≤ nat_abs z * 2 ^ low f) → nat_abs z * 2 ^ low f < 2 ^ (low f + emax f) * c → Near f x z c
  -- and a sum is so at any size below the largest, since one below the normal values is exact
  pub add-near : {x y : Float} {a b : ℤ} → Is x a (2 ^ low f) → Is y b (2 ^ low f) → nat_abs (a +ℤ b) < 2 ^ (low f + emax f) → Near f (add f x y) (a +ℤ b) (2 ^ low f)
