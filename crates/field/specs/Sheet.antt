-- A field sheet: up to 64 terms q * x^i * y^j * z^k, their sum, its slopes and its normals, each operation rounded as IEEE 754 has it, in the order that is written.
-- A sheet is two lists: the coefficients, and the powers, three to a term. Definitions only.
use Rattle.std.specs.Prelude.{ℕ, zero, suc, ◌+◌, ◌-◌, ◌*◌, ◌/◌, ◌%◌, min, cond, List, eqb, length, get_or, Float}
use Rattle.std.specs.Float.Ieee as Ieee
use Rattle.std.specs.Float.{nan, binary64}
use Rattle.float.specs.declared.Point.{Point}
use Rattle.float.specs.Point.{plus, times, normed}
use Rattle.float.specs.Order.{greater}
use Rattle.field.specs.Number.{plus_zero, one, minus_one, tiny, counted}

-- a power: 1, v, v·v, (v·v)·v (and for more than 3, which no valid sheet has, the last)
unfoldable pub power : Float → ℕ → Float
power v zero = one
power v (suc zero) = v
power v (suc (suc zero)) = times v v
power v (suc (suc (suc n))) = times (times v v) v

-- ((q·x^i)·y^j)·z^k
abbrev pub monomial : Float → ℕ → ℕ → ℕ → Point → Float
monomial q i j k p = times (times (times q (power p.x i)) (power p.y j)) (power p.z k)

-- q·n, for a power n
abbrev pub scaled : Float → ℕ → Float
scaled q n = times q (counted n)

-- the sum s with the term v on top, unless the power n that v came down from is 0
unfoldable pub on_top : ℕ → Float → Float → Float
on_top zero s v = s
on_top (suc n) s v = plus s v

-- ---- term t of a sheet: its coefficient, and its powers of x, y and z. (What stands past the end of a list is never read.)

abbrev pub coefficient : List Float → ℕ → Float
coefficient qs t = get_or qs t nan

abbrev pub power_x : List ℕ → ℕ → ℕ
power_x ns t = get_or ns (t * 3) 0

abbrev pub power_y : List ℕ → ℕ → ℕ
power_y ns t = get_or ns (t * 3 + 1) 0

abbrev pub power_z : List ℕ → ℕ → ℕ
power_z ns t = get_or ns (t * 3 + 2) 0

-- how many terms the lists have: those with a coefficient and three powers
abbrev pub terms : List Float → List ℕ → ℕ
terms qs ns = min (length qs) (length ns / 3)

-- ---- sums over the first terms, from +0 and in order

-- ((q·i)·x^(i-1))·y^j·z^k, for the terms with i above 0
unfoldable pub slope_x : ℕ → List Float → List ℕ → Point → Float
unfolding power on_top
slope_x zero qs ns p = plus_zero
slope_x (suc t) qs ns p =
    on_top (power_x ns t) (slope_x t qs ns p)
    (monomial (scaled (coefficient qs t) (power_x ns t)) (power_x ns t - 1) (power_y ns t) (power_z ns t) p)

-- ((q·j)·x^i)·y^(j-1)·z^k, for the terms with j above 0
unfoldable pub slope_y : ℕ → List Float → List ℕ → Point → Float
unfolding power on_top
slope_y zero qs ns p = plus_zero
slope_y (suc t) qs ns p =
    on_top (power_y ns t) (slope_y t qs ns p)
    (monomial (scaled (coefficient qs t) (power_y ns t)) (power_x ns t) (power_y ns t - 1) (power_z ns t) p)

-- ((q·k)·x^i)·y^j·z^(k-1), for the terms with k above 0
unfoldable pub slope_z : ℕ → List Float → List ℕ → Point → Float
unfolding power on_top
slope_z zero qs ns p = plus_zero
slope_z (suc t) qs ns p =
    on_top (power_z ns t) (slope_z t qs ns p)
    (monomial (scaled (coefficient qs t) (power_z ns t)) (power_x ns t) (power_y ns t) (power_z ns t - 1) p)

-- ((q·x^i)·y^j)·z^k, for every term
unfoldable pub value_sum : ℕ → List Float → List ℕ → Point → Float
unfolding power
value_sum zero qs ns p = plus_zero
value_sum (suc t) qs ns p = plus (value_sum t qs ns p) (monomial (coefficient qs t) (power_x ns t) (power_y ns t) (power_z ns t) p)

-- ---- the sheet at a point

abbrev pub value : List Float → List ℕ → Point → Float
value qs ns p = value_sum (terms qs ns) qs ns p

abbrev pub gradient : List Float → List ℕ → Point → Point
gradient qs ns p = record {
  x = slope_x (terms qs ns) qs ns p;
  y = slope_y (terms qs ns) qs ns p;
  z = slope_z (terms qs ns) qs ns p;
}

-- ---- normals

abbrev pub stretched : Point → Float → Point
stretched a s = record { x = times a.x s; y = times a.y s; z = times a.z s }

-- a times 1 / max(|a|, 1e-300)
abbrev pub unit : Point → Point
unit a = stretched a (Ieee.div binary64 one (greater (normed a) tiny))

-- the outward direction of a wall of the box: of label 2 + 2·axis the lower wall's, of label 3 + 2·axis the upper one's. (No coordinate of another label's.)
abbrev pub side : ℕ → Float
side label = cond (eqb (label % 2) 0) minus_one one

abbrev pub along : ℕ → ℕ → Float
along axis label = cond (eqb ((label - 2) / 2) axis) (side label) plus_zero

abbrev pub wall : ℕ → Point
wall label = record { x = along 0 label; y = along 1 label; z = along 2 label }

-- label 0 is the upper level and 1 the lower; from 2 on they are the walls
unfoldable pub normal : List Float → List ℕ → Point → ℕ → Point
unfolding power on_top slope_x slope_y slope_z
normal qs ns p zero = stretched (unit (gradient qs ns p)) one
normal qs ns p (suc zero) = stretched (unit (gradient qs ns p)) minus_one
normal qs ns p (suc (suc n)) = wall (suc (suc n))
