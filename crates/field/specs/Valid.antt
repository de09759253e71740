-- Which sheets are taken: the conditions on the terms, the levels and the box. Definitions only.
use Rattle.std.specs.Prelude.{ℕ, ◌+◌, ◌-◌, ◌*◌, ◌^◌, Bool, true, false, ◌&&◌, ◌||◌, List, leb, eqb, length, get_or, Float}
use Rattle.std.specs.Float.Ieee as Ieee
use Rattle.std.specs.Float.{nan, inf, fin, binary64}
use Rattle.std.specs.List.{list_all}
use Rattle.float.specs.Order.{is_finite}
use Rattle.float.specs.Root.{quanta}
use Rattle.field.specs.Number.{limit}

-- p holds of each
abbrev pub every : {A : Type 0} → (A → Bool) → List A → Bool
every p xs = list_all p xs

-- a power is 0 to 3
abbrev pub is_power : ℕ → Bool
is_power n = leb n 3

-- the lower finite or -infinity, the upper finite and greater
unfoldable pub levels_ok : Float → Float → Bool
unfolding is_finite
levels_ok lower upper = (is_finite lower || Ieee.eq lower (inf true)) && is_finite upper && Ieee.lt lower upper

-- within ±2^20
unfoldable pub bounded : Float → Bool
bounded x = Ieee.le (Ieee.neg limit) x && Ieee.le x limit

-- How far a value within ±2^20 lies above -2^20, in units of 2^-1074, the least f64 above 0: exactly, since each value is a whole number of them. -2^20 is 2^1094 of them below 0.
unfoldable pub place : Float → ℕ
place nan = 0
place (inf s) = 0
place (fin false m e) = 2 ^ 1094 + quanta binary64 (fin false m e)
place (fin true m e) = 2 ^ 1094 - quanta binary64 (fin true m e)

-- A side of the box, from its lower bound to its upper one: both are within ±2^20, and it is 2^-20 or more (2^1054 units), by the exact difference and not by a rounded one.
unfoldable pub side_ok : Float → Float → Bool
unfolding bounded place
side_ok lower upper = bounded lower && bounded upper && leb (place lower + 2 ^ 1054) (place upper)

-- up to 64 terms, three powers to each, the coefficients finite, the powers 0 to 3
unfoldable pub terms_ok : List Float → List ℕ → Bool
unfolding is_finite
terms_ok qs ns = leb (length qs) 64 && (eqb (length ns) (length qs * 3) && (every is_finite qs && every is_power ns))

-- the box, by its lower x, y, z and then its upper x, y, z
unfoldable pub box_ok : List Float → Bool
unfolding side_ok
box_ok bounds = side_ok (get_or bounds 0 nan) (get_or bounds 3 nan) && (side_ok (get_or bounds 1 nan) (get_or bounds 4 nan) && side_ok (get_or bounds 2 nan) (get_or bounds 5 nan))

-- question 13 (document 01, "Field sheet"): the terms, the levels and the box
unfoldable pub sheet_ok : List Float → List ℕ → List Float → List Float → Bool
unfolding terms_ok levels_ok box_ok
sheet_ok qs ns levels bounds = terms_ok qs ns && (levels_ok (get_or levels 0 nan) (get_or levels 1 nan) && box_ok bounds)
