-- Points in whole units of 1/1024 within ±32,768, and the lists of f64 that stand for them. Definitions only.
use Rattle.std.specs.Prelude.{ℕ, ◌+◌, ◌*◌, ◌/◌, ◌%◌, ◌≤◌, ◌<◌, Bool, false, ◌&&◌, List, eqb, leb, ℤ, nat_abs, length, get_or, Float}
use Rattle.std.specs.Float.{nan, inf, fin}
use Rattle.std.specs.Float.Ieee.{up, down}
use Rattle.rounding.specs.Fraction.{Is, wholes}
use Rattle.surface.specs.Check.{every}

-- a point by its three coordinates, in units
pub record WholePoint : Type 0 where
  pub x : ℤ
  pub y : ℤ
  pub z : ℤ

-- a value in units, cut to a whole number
abbrev pub in_units : Float → ℤ
in_units x = wholes 1024 x

-- it is finite and a whole number of units, at most 32,768 either way
pub record OnUnits (x : Float) : Type 0 where
  pub whole : Is x (in_units x) 1024
  pub range : nat_abs (in_units x) ≤ 32768

-- every coordinate of the list is, of points that are used and of those that are not
abbrev pub AllOnUnits : List Float → Type 0
AllOnUnits points = (i : ℕ) → i < length points → OnUnits (get_or points i nan)

-- the same as tests that compute (`on-units_iff` and `all-on-units_iff` of proofs/Tests)
abbrev pub on_units? : Float → Bool
on_units? nan = false
on_units? (inf s) = false
on_units? (fin s m e) = eqb (m * up e * 1024 % down e) 0 && leb (m * up e * 1024 / down e) 32768

abbrev pub all_on_units? : List Float → Bool
all_on_units? points = every on_units? points

-- the point for which three values of such a list stand
abbrev pub units_at : List Float → ℕ → WholePoint
units_at points i = record { x = in_units (get_or points (3 * i) nan); y = in_units (get_or points (3 * i + 1) nan); z = in_units (get_or points (3 * i + 2) nan) }
