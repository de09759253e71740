-- Where a level cuts the edge between two points (document 02, F-7), round by round as the Rust's `solve` has it. Definitions only.
-- A residual is a field value less the level. The residuals at the two ends are those of the nodes' values; the search takes at most 52 further field values, one a round.
-- The search is defined for any residual, as a function of the parameter t: 0 at the first node, 1 at the second.
use Rattle.std.specs.Prelude.{ℕ, zero, suc, ◌+◌, ◌%◌, Bool, not, ◌||◌, ◌&&◌, cond, List, leb, eqb, Float, Some, None}
use Rattle.std.specs.Float.Ieee as Ieee
use Rattle.std.specs.Float.{nan, inf, fin, binary64, float_with_sign}
use Rattle.std.specs.Float.Ieee.{of_bits}
use Rattle.float.specs.declared.Point.{Point}
use Rattle.float.specs.Point.{plus, less, times}
use Rattle.float.specs.Order.{greater, is_finite}
use Rattle.field.specs.Number.{plus_zero, one, minus_one}
use Rattle.field.specs.Sheet.{value_sum, value}
use Rattle.lattice.specs.Values.{least_normal, magnitude, tolerance}
use Rattle.solve.specs.declared.bracket.Bracket.{Bracket}
use Rattle.solve.specs.declared.Cut.{Cut}
use Rattle.solve.specs.declared.Cut.TheVariants.{First, Second, At}
use Rattle.solve.specs.declared.Solved.{Solved}

-- ---- numbers

abbrev pub one_half : Float
one_half = of_bits binary64 0x3fe0_0000_0000_0000

-- Rust's f64::signum: 1 or -1 by the sign, zeros included, and NaN of NaN
unfoldable pub signum : Float → Float
signum nan = nan
signum (inf s) = cond s minus_one one
signum (fin s m e) = cond s minus_one one

abbrev pub same_sign : Float → Float → Bool
same_sign x y = Ieee.eq (signum x) (signum y)

-- the greatest of |va|, |vb|, |level| and 2^-1022
unfoldable pub edge_scale : Float → Float → Float → Float
unfolding float_with_sign greater
edge_scale va vb level = greater (greater (greater (magnitude va) (magnitude vb)) (magnitude level)) least_normal

-- ---- the point of a parameter, and the field's residual there

-- a·(1 - t) + b·t
abbrev pub blended : Float → Float → Float → Float
blended a b t = plus (times a (less one t)) (times b t)

abbrev pub point_between : Point → Point → Float → Point
point_between a b t = record { x = blended a.x b.x t; y = blended a.y b.y t; z = blended a.z b.z t }

unfoldable pub residual : List Float → List ℕ → Point → Point → Float → Float → Float
unfolding value_sum
residual qs ns a b level t = less (value qs ns (point_between a b t)) level

-- ---- one round: its parameter, and the half that it leaves

-- lo - flo·(hi - lo)/(fhi - flo)
abbrev pub secant : Bracket → Float
secant k = less k.lo (Ieee.div binary64 (times k.flo (less k.hi k.lo)) (less k.fhi k.flo))

-- (lo + hi)·0.5
abbrev pub midway : Bracket → Float
midway k = times (plus k.lo k.hi) one_half

-- the round number, from 0, is 12 or more, leaves remainder 3 by four, or the secant is not finite or not strictly inside
unfoldable pub halves? : ℕ → Bracket → Bool
unfolding is_finite
halves? round k = leb 12 round || (eqb (round % 4) 3 || (not (is_finite (secant k)) || (Ieee.le (secant k) k.lo || Ieee.le k.hi (secant k))))

unfoldable pub parameter : ℕ → Bracket → Float
unfolding halves?
parameter round k = cond (halves? round k) (midway k) (secant k)

-- a residual v at t that has the first node's sign moves the lower end, and another the upper end
unfoldable pub narrowed : Bracket → Float → Float → Float → Bracket
unfolding signum
narrowed k va t v =
    cond (same_sign v va)
    (record { lo = t; hi = k.hi; flo = v; fhi = k.fhi })
    (record { lo = k.lo; hi = t; flo = k.flo; fhi = v })

-- ---- the rounds: how many are left, and the number of the next, which is also how many field values were taken.
-- A residual that is not finite ends the search, and so does one within the limit; after the last round the midpoint is taken.

abbrev pub ending : Cut → ℕ → Solved
ending cut taken = record { cut = Some cut; taken = taken }

abbrev pub failing : ℕ → Solved
failing taken = record { cut = None; taken = taken }

unfoldable pub from_round : (residual : Float → Float) (limit va : Float) → ℕ → ℕ → Bracket → Solved
unfolding float_with_sign parameter narrowed is_finite
from_round residual limit va zero round k = ending (At (midway k)) round
from_round residual limit va (suc left) round k =
    let t = parameter round k in
    let v = residual t in
    cond (is_finite v)
    (cond (Ieee.le (magnitude v) limit) (ending (At t) (round + 1)) (from_round residual limit va left (round + 1) (narrowed k va t v)))
    (failing (round + 1))

abbrev pub first_bracket : Float → Float → Bracket
first_bracket va vb = record { lo = plus_zero; hi = one; flo = va; fhi = vb }

-- ---- an edge, by the residuals at its nodes: a node on the level is its own cut

unfoldable pub solve : (residual : Float → Float) (level va vb : Float) → Solved
unfolding from_round edge_scale is_finite
solve residual level va vb =
    cond (is_finite va && is_finite vb)
    (cond (Ieee.eq va plus_zero) (ending First 0)
    (cond (Ieee.eq vb plus_zero) (ending Second 0)
    (from_round residual (tolerance (edge_scale va vb level)) va 52 0 (first_bracket va vb))))
    (failing 0)
