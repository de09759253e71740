-- Whole numbers as unsigned integers: the cast of a sum that is a positive whole number is that number. Assumes nothing.
use mathlib.Core.Path.{◌≡◌, sym, subst, subst₂}
use mathlib.Core.Bool.{Bool, false}
use Prim.Native.Nat.{ℕ, ◌^◌, ◌≤◌, ◌<◌}
use native.Mathlib.Nat.{le_of_lt, lt_of_lt_of_le}
use lib.Dec.{T, lit≤, le→leb}
use lib.IntN.{pos}
use lib.Ieee.{Float, binary64, of_int, round, add, in_float, in_unsigned, to_unsigned}
use lib.Ieee.Back.{round_whole, unsigned_back, whole_unique}
use lib.Ieee.Exact.{HasValue}
use lib.Ieee.Fits.{add-fits, of_int-fits}
use Rattle.rounding.specs.Fraction.{Is}
use Rattle.rounding.proofs.Rounded.{not_negative}

fits_float : (n : ℕ) → n ≤ 2 ^ 53 → T (in_float binary64 (pos n))
unfolding in_float
fits_float n h = le→leb n (2 ^ 53) h

pub unsigned : (x y : Float) (n : ℕ) → 0 < n → n < 4503599627370496 → Is (add binary64 x y) (pos n) 1 → T (in_unsigned binary64 64 (add binary64 x y)) × (to_unsigned 64 (add binary64 x y) ≡ n)
unfolding of_int
unsigned x y n h l v =
    let q = not_negative v.sign v.size n h v.same in
    let small : n ≤ 2 ^ 53 = le_of_lt (lt_of_lt_of_le l (lit≤ {m = 4503599627370496} {n = 2 ^ 53} tt)) in
    let e : add binary64 x y ≡ round binary64 false n 1 =
    whole_unique binary64 (add binary64 x y) (round binary64 false n 1) false n (add-fits binary64 x y) (of_int-fits binary64 (pos n))
    (subst₂ (λ (s : Bool) (a : ℕ). HasValue (add binary64 x y) s a 1) q.0 q.1 v.value) (round_whole binary64 false n small) in
    subst (λ (f : Float). T (in_unsigned binary64 64 f) × (to_unsigned 64 f ≡ n)) (sym e) (unsigned_back binary64 64 n (fits_float n small) (lt_of_lt_of_le l (lit≤ {m = 4503599627370496} {n = 2 ^ 64} tt)))
