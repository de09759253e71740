-- The conversion from f64 to whole units is exact, both ways. Statements only; `units-laws` of proofs/Laws proves them.
use Rattle.std.specs.Prelude.{◌≤◌, ◌≡◌, Bool, true, false, ℤ, pos, negsuc, nat_abs, Float}
use Rattle.std.specs.Float.{binary64}
use Rattle.std.specs.Float.Ieee.{round, eq}
use Rattle.units.specs.Units.{in_units, OnUnits}

abbrev pub negative : ℤ → Bool
negative (pos n) = false
negative (negsuc n) = true

-- k of 1/1024 as a value of f64
abbrev pub from_units : ℤ → Float
from_units k = round binary64 (negative k) (nat_abs k) 1024

pub record UnitsLaws : Type 0 where
  -- every whole number in range comes from a value on whole units
  pub back : (k : ℤ) → nat_abs k ≤ 32768 → (OnUnits (from_units k)) × (in_units (from_units k) ≡ k)
  -- and a value on whole units is the one that its whole number gives. (-0 is equal to 0.)
  pub there : (x : Float) → OnUnits x → eq (from_units (in_units x)) x ≡ true
