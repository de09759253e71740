-- 2·√3 as an f64, so that no root need be taken for it.
use mathlib.Core.Path.{◌≡◌, refl}
use lib.Ieee.{binary64, of_bits, mul}
use Rattle.float.specs.Point.{times}
use Rattle.float.specs.Root.{root}
use Rattle.field.specs.Number.{two, three}

pub factor_is : of_bits binary64 0x400b_b67a_e858_4caa ≡ times two (root binary64 three)
unfolding of_bits mul root
factor_is = refl
