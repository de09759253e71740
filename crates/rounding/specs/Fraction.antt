-- Values of a floating-point format as fractions of whole numbers: what a value is exactly, what it is a rounding of, and how near it is to that. Definitions only.
use Rattle.std.specs.Prelude.{ℕ, ◌*◌, ◌/◌, ◌^◌, ◌≤◌, ◌≡◌, Bool, true, false, ℤ, pos, neg_ℤ, nat_abs, ◌-ℤ◌, ◌*ℤ◌, Float}
use Rattle.std.specs.Float.{nan, inf, fin, Format}
use Rattle.std.specs.Float.Ieee.{prec, low, up, down, round}
use Rattle.std.specs.Float.Ieee.Exact.{HasValue}

abbrev pub signed : Bool → ℕ → ℤ
signed false n = pos n
signed true n = neg_ℤ (pos n)

-- x is finite, and is the number z / c, for a c above 0. (Both zeros are 0 / c.)
pub record Is (x : Float) (z : ℤ) (c : ℕ) : Type 0 where
  pub sign : Bool
  pub size : ℕ
  pub value : HasValue x sign size c
  pub same : signed sign size ≡ z

-- a finite value m * 2 ^ e in units of 1 / c, cut to a whole number. (Where x is a whole number of them, `Is x (wholes c x) c`.)
abbrev pub wholes : ℕ → Float → ℤ
wholes c nan = pos 0
wholes c (inf s) = pos 0
wholes c (fin s m e) = signed s (m * up e * c / down e)

-- a finite value in units of the format's smallest, 2 ^ -low: a whole number, and exact, for each value that fits (`exact-quanta` of `Laws`)
abbrev pub signed_quanta : Format → Float → ℤ
signed_quanta f x = wholes (2 ^ low f) x

-- x is the fraction z / c, rounded
pub record Rounds (f : Format) (x : Float) (z : ℤ) (c : ℕ) : Type 0 where
  pub sign : Bool
  pub size : ℕ
  pub value : x ≡ round f sign size c
  pub same : signed sign size ≡ z

-- x is finite, and differs from z / c by at most the 2 ^ prec'th part of that: with `n` of 2 ^ -low, | n / 2 ^ low - z / c | ≤ | z / c | / 2 ^ prec, times c * 2 ^ low * 2 ^ prec
pub record Near (f : Format) (x : Float) (z : ℤ) (c : ℕ) : Type 0 where
  pub is : Is x (signed_quanta f x) (2 ^ low f)
  pub error : nat_abs (signed_quanta f x *ℤ pos c -ℤ z *ℤ pos (2 ^ low f)) * 2 ^ prec f ≤ nat_abs z * 2 ^ low f
