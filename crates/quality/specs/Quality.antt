-- One triangle, by the points of its corners: its quality and its share of the volume, each operation rounded as IEEE 754 has it, in the order that is written. Definitions only.
use Rattle.std.specs.Prelude.{ℕ, Bool, not, ◌||◌, cond, pos, Float, Option, None, Some}
use Rattle.std.specs.Float.{binary64}
use Rattle.std.specs.Float.Ieee.{of_int, div, le}
use Rattle.float.specs.Root.{root}
use Rattle.float.specs.Order.{lesser, is_finite}
use Rattle.float.specs.Point.{plus, times, difference, dotted, crossed}
use Rattle.float.specs.declared.Point.{Point}

-- the whole number n as an f64
abbrev pub number : ℕ → Float
number n = of_int binary64 (pos n)

abbrev pub over : Float → Float → Float
over a b = div binary64 a b

-- 2 * sqrt 3
abbrev pub scale : Float
scale = times (number 2) (root binary64 (number 3))

abbrev pub normal : Point → Point → Point → Point
normal a b c = crossed (difference b a) (difference c a)

-- the sum of the squared sides: (ab + bc) + ca
abbrev pub squares : Point → Point → Point → Float
squares a b c =
    plus
    (plus (dotted (difference b a) (difference b a)) (dotted (difference c b) (difference c b)))
    (dotted (difference a c) (difference a c))

-- (s * |normal|) / squares
unfoldable pub rated : Float → Point → Point → Point → Float
rated s a b c = over (times s (root binary64 (dotted (normal a b c) (normal a b c)))) (squares a b c)

-- the quality of a triangle
abbrev pub quality : Point → Point → Point → Float
quality a b c = rated scale a b c

-- the signed volume between the triangle and the origin
unfoldable pub wedge : Point → Point → Point → Float
wedge a b c = over (dotted a (crossed b c)) (number 6)

-- a quality that is refused: not finite, or not above zero
abbrev pub degenerate : Float → Bool
degenerate q = not (is_finite q) || le q (number 0)

-- the least quality so far with one more, or none where the one more is refused
unfoldable pub least_with : Float → Float → Option Float
least_with minimum q = cond (degenerate q) None (Some (lesser minimum q))
