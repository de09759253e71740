-- What IEEE 754 asks of squareRoot, in its own terms and with nothing that computes a root: the exact root of x lies nearer to the result than to any other value of the format.
-- So the result is the value nearest the exact root, and no tie is left to break: `Nearer` is strict. Definitions only; `root` of `Root` is shown to meet them in `proofs/Nearest.antt`.
-- Each finite value that fits is a whole number of the format's smallest value, its `quanta`. With x = a of those, its exact root is √n of them, for n = a * 2 ^ low.
use Rattle.std.specs.Prelude.{◌≡◌, Bool, true, false, ℕ, zero, suc, ◌+◌, ◌-◌, ◌*◌, ◌^◌, ◌<◌, ℤ, T, Float}
use Rattle.std.specs.Float.{nan, inf, fin, Format}
use Rattle.std.specs.Float.Ieee.{low, fits}
use Rattle.std.specs.Float.Ieee.Positive.{positive}
use Rattle.float.specs.Root.{quanta}

-- √n is nearer to r than to y, or to -y where the sign s says so. With y above r that says that √n is below their midpoint, √n < (r + y) / 2, and with y below r that it is above it.
-- With -y it says |r - √n| < √n + y, that is r - y < 2 * √n.
abbrev pub Nearer : ℕ → ℕ → Bool → ℕ → Type 0
Nearer n r false y = (r < y → 4 * n < (r + y) * (r + y)) × (y < r → (r + y) * (r + y) < 4 * n)
Nearer n r true y = (r - y) * (r - y) < 4 * n

-- r is the value of the format f nearest to √x, for an x that is finite and above zero
pub record NearestRoot (f : Format) (x r : Float) : Type 0 where
  pub held : T (fits f r)
  pub above : T (positive r)
  pub nearer : (s : Bool) (m : ℕ) (e : ℤ) → T (fits f (fin s m e)) → Nearer (quanta f x * 2 ^ low f) (quanta f r) s (quanta f (fin s m e))

-- r is the square root of x in the format f
abbrev pub IsRoot : Format → Float → Float → Type 0
IsRoot f nan r = r ≡ nan
IsRoot f (inf true) r = r ≡ nan
IsRoot f (inf false) r = r ≡ inf false
IsRoot f (fin s zero e) r = r ≡ fin s zero e
IsRoot f (fin true (suc m) e) r = r ≡ nan
IsRoot f (fin false (suc m) e) r = NearestRoot f (fin false (suc m) e) r
