-- Points of space over f64, each operation rounded as IEEE 754 has it, in the order that is written. Definitions only.
use Rattle.std.specs.Float.Ieee as Ieee
use Rattle.std.specs.Prelude.{ℕ, ◌+◌, ◌*◌, List, get_or, Float}
use Rattle.std.specs.Float.{binary64, nan}
use Rattle.float.specs.Root.{root}
use Rattle.float.specs.declared.Point.{Point}

-- the point of number i in a list, three coordinates each. (What stands past the end of the list is never read.)
abbrev pub point_at : List Float → ℕ → Point
point_at points i = record { x = get_or points (i * 3) nan; y = get_or points (i * 3 + 1) nan; z = get_or points (i * 3 + 2) nan }

abbrev pub plus : Float → Float → Float
plus a b = Ieee.add binary64 a b

abbrev pub less : Float → Float → Float
less a b = Ieee.sub binary64 a b

abbrev pub times : Float → Float → Float
times a b = Ieee.mul binary64 a b

abbrev pub difference : Point → Point → Point
difference p q = record { x = less p.x q.x; y = less p.y q.y; z = less p.z q.z }

-- (xx + yy) + zz
abbrev pub dotted : Point → Point → Float
dotted p q = plus (plus (times p.x q.x) (times p.y q.y)) (times p.z q.z)

abbrev pub crossed : Point → Point → Point
crossed p q = record {
  x = less (times p.y q.z) (times p.z q.y);
  y = less (times p.z q.x) (times p.x q.z);
  z = less (times p.x q.y) (times p.y q.x);
}

abbrev pub normed : Point → Float
normed p = root binary64 (dotted p p)
