-- The numbers of the original's text, as f64 has them, by their bit patterns. Definitions only.
use Rattle.std.specs.Float.Ieee as Ieee
use Rattle.std.specs.Prelude.{Float}
use Rattle.std.specs.Float.{binary64}
use Rattle.std.specs.Float.Ieee.{of_bits}

-- a triangle whose shape is below 0.4 is weak
abbrev pub weak_below : Float
weak_below = of_bits binary64 0x3fd9_9999_9999_999a

-- a candidate is shorter than 0.36 of the mean
abbrev pub short_part : Float
short_part = of_bits binary64 0x3fd7_0a3d_70a3_d70a

-- the bounds of the clamp: 0.05 and 0.3
abbrev pub floor_low : Float
floor_low = of_bits binary64 0x3fa9_9999_9999_999a

abbrev pub floor_high : Float
floor_high = of_bits binary64 0x3fd3_3333_3333_3333

-- a flip gains more than 0.01, or leaves at least 0.5
abbrev pub gain_least : Float
gain_least = of_bits binary64 0x3f84_7ae1_47ae_147b

abbrev pub shape_enough : Float
shape_enough = of_bits binary64 0x3fe0_0000_0000_0000
