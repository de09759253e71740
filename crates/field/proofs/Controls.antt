-- Controls on the definitions: closed cases, so antt computes each one. The bits are those that the Rust computes. Assumes nothing.
use mathlib.Core.Path.{◌≡◌, refl}
use Prim.Native.Nat.{ℕ}
use mathlib.Core.Bool.{true, false}
use mathlib.Core.List.{List, [], ◌∷◌}
use lib.Ieee.{Float, nan, inf, binary64, of_bits, of_int, add, sub, mul, div, neg, lt, le, eq}
use Rattle.float.specs.declared.Point.{Point}
use Rattle.float.specs.Root.{root}
use Rattle.float.specs.Order.{greater}
use Rattle.field.specs.Number.{plus_zero, one, minus_one, two, three, limit, least, half}
use Rattle.field.specs.Sheet.{power, gradient, slope_x, slope_y, slope_z, on_top, normal}
use Rattle.field.specs.Shape.{shape}
use Rattle.field.specs.Valid.{levels_ok, bounded, place, side_ok, sheet_ok}

abbrev bits : ℕ → Float
bits b = of_bits binary64 b

abbrev point : Float → Float → Float → Point
point a b c = record { x = a; y = b; z = c }

-- 2·x²·y - z³, at (3, 5, 2): the slopes 2·2·3·5, 2·9 and -3·4
abbrev qs : List Float
qs = two ∷ minus_one ∷ []

abbrev ns : List ℕ
ns = 2 ∷ 1 ∷ 0 ∷ 0 ∷ 0 ∷ 3 ∷ []

abbrev p : Point
p = point three (bits 0x4014_0000_0000_0000) two

cube : power three 3 ≡ bits 0x403b_0000_0000_0000
unfolding power mul of_bits
cube = refl

slopes_there : gradient qs ns p ≡ point (bits 0x404e_0000_0000_0000) (bits 0x4032_0000_0000_0000) (bits 0xc028_0000_0000_0000)
unfolding slope_x slope_y slope_z power on_top mul add neg of_bits of_int
slopes_there = refl

-- the walls' directions: label 2 is the lower x, and 5 the upper y
lower-x : normal qs ns p 2 ≡ point minus_one plus_zero plus_zero
unfolding normal
lower-x = refl

upper-y : normal qs ns p 5 ≡ point plus_zero one plus_zero
unfolding normal
upper-y = refl

-- half a unit square on the upper z: 2·√3 / 4, and on the lower one its negative
square : shape qs ns (point plus_zero plus_zero plus_zero) (point one plus_zero plus_zero) (point plus_zero one plus_zero) 7 ≡ bits 0x3feb_b67a_e858_4caa
unfolding shape normal root greater mul add sub div neg of_bits
square = refl

turned : shape qs ns (point plus_zero plus_zero plus_zero) (point one plus_zero plus_zero) (point plus_zero one plus_zero) 6 ≡ bits 0xbfeb_b67a_e858_4caa
unfolding shape normal root greater mul add sub div neg of_bits
turned = refl

-- ---- sides: 2^-20 is enough, and 2^-20 - 2^-200, which f64 rounds to it, is not

enough : side_ok plus_zero least ≡ true
unfolding side_ok bounded place le neg of_bits
enough = refl

short : side_ok (bits 0x3370_0000_0000_0000) least ≡ false
unfolding side_ok bounded place le neg of_bits
short = refl

short-rounded : sub binary64 least (bits 0x3370_0000_0000_0000) ≡ least
unfolding sub of_bits
short-rounded = refl

across : side_ok (neg half) half ≡ true
unfolding side_ok bounded place le neg of_bits
across = refl

widest : side_ok (neg limit) limit ≡ true
unfolding side_ok bounded place le neg of_bits
widest = refl

beyond : side_ok plus_zero (bits 0x4130_0000_0000_0001) ≡ false
unfolding side_ok bounded place le neg of_bits
beyond = refl

backward : side_ok one plus_zero ≡ false
unfolding side_ok bounded place le neg of_bits
backward = refl

no_number : side_ok nan one ≡ false
unfolding side_ok bounded place le neg of_bits
no_number = refl

-- ---- levels

open_below : levels_ok (inf true) plus_zero ≡ true
unfolding levels_ok lt eq of_bits
open_below = refl

level_equal : levels_ok plus_zero plus_zero ≡ false
unfolding levels_ok lt eq of_bits
level_equal = refl

open_above : levels_ok plus_zero (inf false) ≡ false
unfolding levels_ok lt eq of_bits
open_above = refl

-- ---- a whole sheet

taken : sheet_ok qs ns (plus_zero ∷ one ∷ []) (plus_zero ∷ plus_zero ∷ plus_zero ∷ one ∷ one ∷ least ∷ []) ≡ true
unfolding sheet_ok lt le eq neg of_bits
taken = refl

power_of_four : sheet_ok qs (2 ∷ 1 ∷ 0 ∷ 0 ∷ 0 ∷ 4 ∷ []) (plus_zero ∷ one ∷ []) (plus_zero ∷ plus_zero ∷ plus_zero ∷ one ∷ one ∷ least ∷ []) ≡ false
unfolding sheet_ok lt le eq neg of_bits
power_of_four = refl
