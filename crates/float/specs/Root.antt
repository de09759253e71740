-- The square root of IEEE 754 over the values of `lib.Ieee`: the value of the format that is nearest the exact root, ties to even. Definitions only.
-- There are no real numbers here. In units of the format's smallest value, 2 ^ -low, a value that fits is a whole number a, and its exact root is √(a * 2 ^ low) units.
-- So the root of the whole number n = a * 2 ^ low is rounded, just as `lib.Ieee.round` rounds a fraction: it keeps the `prec` leading digits of √n's whole part.
use Prim.Native.Nat.{ℕ, zero, suc, ◌+◌, ◌-◌, ◌*◌, ◌/◌, ◌^◌, compare}
use Rattle.std.specs.Prelude.{true, false, cond, leb}
use lib.Ieee.{Float, nan, inf, fin, Format, prec, low, up, down, size, nearest, units}

-- The greatest whole number from r up to r + 2 ^ k - 1 whose square is at most n, where r is one such: each binary digit, from the highest, is set where the square allows it.
unfoldable pub raise : ℕ → ℕ → ℕ → ℕ
raise zero r n = r
raise (suc k) r n = raise k (r + cond (leb ((r + 2 ^ k) * (r + 2 ^ k)) n) (2 ^ k) 0) n

-- √n, cut to a whole number
unfoldable pub isqrt : ℕ → ℕ
unfolding raise size
isqrt n = raise (size n) 0 n

-- The multiple of 2 ^ k nearest to √n is q or q + 1 of them, for the q with q ^ 2 ≤ n / 4 ^ k < (q + 1) ^ 2:
-- by how √n compares with the midpoint q + 1 / 2, that is 4 * n with (2 * q + 1) ^ 2 * 4 ^ k, and at a tie the even one (`lib.Ieee.nearest`).
unfoldable pub nearest_root : ℕ → ℕ → ℕ
unfolding isqrt
nearest_root n k =
    let q = isqrt (n / (2 ^ k * 2 ^ k)) in
    nearest q (compare (4 * n) ((2 * q + 1) * (2 * q + 1) * (2 ^ k * 2 ^ k)))

-- √n units of the format f's smallest value, rounded to f. Of its whole part f keeps the `prec` leading digits and drops k.
unfoldable pub root_units : Format → ℕ → Float
unfolding isqrt nearest_root size units
root_units f n = let k = size (isqrt n) - prec f in units f false (nearest_root n k) k

-- a finite value's size in units of the format's smallest value: a whole number, and exact, for each value that fits
abbrev pub quanta : Format → Float → ℕ
quanta f nan = 0
quanta f (inf s) = 0
quanta f (fin s m e) = m * up e * 2 ^ low f / down e

-- The root: of a NaN or of a number below zero it is NaN, a zero keeps its sign, and the root of infinity is infinity.
unfoldable pub root : Format → Float → Float
unfolding root_units
root f nan = nan
root f (inf true) = nan
root f (inf false) = inf false
root f (fin s zero e) = fin s zero e
root f (fin true (suc m) e) = nan
root f (fin false (suc m) e) = root_units f (quanta f (fin false (suc m) e) * 2 ^ low f)
