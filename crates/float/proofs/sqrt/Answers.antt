-- `float::sqrt` meets its contract: each way out is one range of the bit pattern (`Read`). Assumes nothing.
use mathlib.Core.Path.{◌≡◌, refl, sym, ap, ◌∙◌, subst}
use Prim.Native.Nat.{ℕ, ◌+◌, ◌-◌, ◌*◌, ◌%◌, ◌^◌, ◌≤◌, ◌<◌}
use native.Mathlib.Nat.{pos_of_ne-zero}
use native.Mathlib.Omega.{arith}
use mathlib.Core.Bool.{true, false≢true}
use lib.Dec.{T}
use lib.Count.{count_leading_zeros}
use lib.Ieee.{Float, nan, inf, fin, binary64, fits, div, is_nan, to_bits, of_bits}
use lib.Ieee.Bits.{of_bits-to_bits, to_bits-lt}
use Rattle.float.specs.Root.{root, root_units}
use Rattle.float.proofs.Read.{root-plus-zero, root-minus-zero, root-minus, root_top, root-low, root_mid, shifted, shifted_back}
use Rattle.float.proofs.sqrt.Goals as goal

-- x fits, so it is what its bits are read as
module _ (x : Float) (held : T (fits binary64 x)) where
  width : to_bits binary64 x < 2 ^ 64
  width = to_bits-lt binary64 x held

  -- a fact of the root of what the bits are read as is one of the root of x
  of-x : {v : Float} → root binary64 (of_bits binary64 (to_bits binary64 x)) ≡ v → v ≡ root binary64 x
  of-x h = sym h ∙ ap (root binary64) (of_bits-to_bits binary64 x held)

  same-x : root binary64 (of_bits binary64 (to_bits binary64 x)) ≡ of_bits binary64 (to_bits binary64 x) → x ≡ root binary64 x
  same-x h = sym (of_bits-to_bits binary64 x held) ∙ of-x h

-- 0.0 / 0.0
zero_by_zero : div binary64 (of_bits binary64 0) (of_bits binary64 0) ≡ nan
unfolding div of_bits
zero_by_zero = refl

of_nan : (x : Float) → is_nan x ≡ true → x ≡ root binary64 x
unfolding is_nan root
of_nan nan e = refl
of_nan (inf s) e = absurd (false≢true e)
of_nan (fin s m k) e = absurd (false≢true e)

pub returns-then-is_nan : goal.returns-then-is_nan
returns-then-is_nan c = of_nan c.args.x (sym c.is_nan.ensures.value ∙ c.if-is_nan.true)

pub returns-then-b : goal.returns-then-b
returns-then-b c = same-x c.args.x (subst T (sym c.well_formed.0.1) tt) (root-minus-zero (to_bits binary64 c.args.x) c.if-b.true)

pub returns-then-b-ge9223372036854775808 : goal.returns-then-b-ge9223372036854775808
returns-then-b-ge9223372036854775808 c =
    let held = subst T (sym c.well_formed.0.1) tt in
    zero_by_zero ∙ of-x c.args.x held (root-minus (to_bits binary64 c.args.x) c.if-b-ge9223372036854775808.true (width c.args.x held) c.if-b.false)

pub returns-then-b-eq0 : goal.returns-then-b-eq0
returns-then-b-eq0 c = same-x c.args.x (subst T (sym c.well_formed.0.1) tt) (root-plus-zero (to_bits binary64 c.args.x) c.if-b-eq0.true)

pub returns-then-b-ge9218868437227405312 : goal.returns-then-b-ge9218868437227405312
returns-then-b-ge9218868437227405312 c =
    same-x c.args.x (subst T (sym c.well_formed.0.1) tt) (root_top (to_bits binary64 c.args.x) c.if-b-ge9218868437227405312.true c.if-b-ge9223372036854775808.false)

pub overflow_sub-b : goal.overflow_sub-b
overflow_sub-b c = omega (arith, (shifted (to_bits binary64 c.args.x) (pos_of_ne-zero c.if-b-eq0.false) c.if-b-lt4503599627370496.true).ge)

pub scaled-requires : goal.scaled-requires
scaled-requires c =
    let b = to_bits binary64 c.args.x in
    let h = shifted b (pos_of_ne-zero c.if-b-eq0.false) c.if-b-lt4503599627370496.true in
    let width = subst (λ (k : ℕ). (2 ^ 52 ≤ b * 2 ^ k % 2 ^ 64) × (b * 2 ^ k % 2 ^ 64 < 2 ^ 53)) (sym c.from-shift.ensures) (subst (λ (n : ℕ). (2 ^ 52 ≤ n) × (n < 2 ^ 53)) (sym h.whole) (h.lo, h.hi)) in
    (width.0, width.1, omega arith)

pub returns-then-b-lt4503599627370496 : goal.returns-then-b-lt4503599627370496
returns-then-b-lt4503599627370496 c =
    let n = to_bits binary64 c.args.x in
    let zeros = count_leading_zeros 64 n in
    let h = shifted n (pos_of_ne-zero c.if-b-eq0.false) c.if-b-lt4503599627370496.true in
    let root-is = c.scaled.ensures ∙ ap (λ (k : ℕ). root_units binary64 (n * 2 ^ k % 2 ^ 64 * 2 ^ (54 - k + 1020))) c.from-shift.ensures ∙ ap (root_units binary64) (shifted_back n zeros h) in
    of-x c.args.x (subst T (sym c.well_formed.0.1) tt) (root-low n (pos_of_ne-zero c.if-b-eq0.false) c.if-b-lt4503599627370496.true ∙ sym root-is)

pub returns : goal.returns
returns c =
    of-x c.args.x (subst T (sym c.well_formed.0.1) tt) (root_mid (to_bits binary64 c.args.x) c.if-b-lt4503599627370496.false c.if-b-ge9218868437227405312.false ∙ sym c.scaled-2.ensures)
