-- The shape of a triangle against the normal of its surface: 1 for a triangle with equal sides that faces along the normal, and less the flatter it is. Definitions only.
use Rattle.std.specs.Prelude.{ℕ, List, Float}
use Rattle.std.specs.Float.Ieee as Ieee
use Rattle.std.specs.Float.{binary64}
use Rattle.float.specs.declared.Point.{Point}
use Rattle.float.specs.Point.{plus, times, difference, dotted, crossed}
use Rattle.float.specs.Root.{root}
use Rattle.float.specs.Order.{greater}
use Rattle.field.specs.Number.{two, three, tiny}
use Rattle.field.specs.Sheet.{normal}

-- ((a + b) + c) / 3
abbrev pub third : Float → Float → Float → Float
third a b c = Ieee.div binary64 (plus (plus a b) c) three

abbrev pub middle : Point → Point → Point → Point
middle a b c = record { x = third a.x b.x c.x; y = third a.y b.y c.y; z = third a.z b.z c.z }

-- ((2·√3)·((e × d)·n)) / max((e·e + d·d) + o·o, 1e-300), for the sides e, d and o and the normal n
abbrev pub formed : Point → Point → Point → Point → Float
formed e d o n =
    Ieee.div binary64
    (times (times two (root binary64 three)) (dotted (crossed e d) n))
    (greater (plus (plus (dotted e e) (dotted d d)) (dotted o o)) tiny)

unfoldable pub shape : List Float → List ℕ → Point → Point → Point → ℕ → Float
unfolding root greater normal
shape qs ns a b c label = formed (difference b a) (difference c a) (difference c b) (normal qs ns (middle a b c) label)
