-- A rounded difference is zero only where the two values are equal: both are whole numbers of 2^-1074, so their difference is none or at least one of them. Assumes nothing.
use mathlib.Core.Path.{◌≡◌, refl, sym, ap, ◌∙◌}
use mathlib.Core.Bool.{Bool, true, false, cond, false≢true}
use Prim.Native.Nat.{ℕ, zero, suc, ◌+◌, ◌-◌, ◌*◌, ◌^◌, ◌≤◌, ◌<◌}
use native.Mathlib.Nat.{mul-pos, mul_comm, mul-div_cancel, mul-le-mul_right}
use native.Mathlib.Omega.{arith}
use lib.IntN.{ℤ, pos, ◌+ℤ◌, ◌-ℤ◌, +ℤ_idl, -ℤ-+ℤ_cancel}
use lib.Dec.{T, ltb}
use lib.Pow.{pow_pos}
use lib.Ieee.{Float, nan, inf, fin, Format, binary64, prec, emax, low, up, down, size, odd, units, round, eq, fits, of_bits}
use lib.Ieee.Digits.{size_reaches}
use lib.Ieee.Exact.{odd_sign}
use lib.Ieee.Fits.{round_is, two, two-le_pos}
use lib.Ieee.Nearest.{closest, closest_mono}
use lib.Ieee.Order.{kept, drop}
use Rattle.float.specs.Point.{less}
use Rattle.float.specs.Order.{is_finite}
use Rattle.float.specs.Root.{quanta}
use Rattle.field.specs.Number.{plus_zero}
use Rattle.rounding.specs.Fraction.{signed, Is}
use Rattle.rounding.proofs.Compared.{eq-values, same_level}
use Rattle.rounding.proofs.Rounded.{exact-quanta, sub-rounds}
use Rattle.solve.proofs.Residuals.{zero-size}

-- ---- what is rounded is zero only if it is zero

some-units : (f : Format) (s : Bool) (q k : ℕ) → 0 < q → eq (units f s q k) plus_zero ≡ true → ⊥
unfolding units eq of_bits
some-units f s q k h = go (ltb (q * 2 ^ k) (2 ^ (low f + suc (emax f))))
  where
    none : (n : ℕ) → 0 < n → n ≡ 0 → ⊥
    none n h e = omega arith

    go : (b : Bool) → eq (cond b (odd (suc (prec f)) s q k (low f)) (inf s)) plus_zero ≡ true → ⊥
    go true z = none (q * 2 ^ k) (mul-pos h (pow_pos k)) (zero-size (odd (suc (prec f)) s q k (low f)) s (q * 2 ^ k) (2 ^ low f) (pow_pos (low f)) (odd_sign (suc (prec f)) s q k (low f)) z)
    go false z = false≢true z

-- q of the smallest values, of which k digits are dropped
dropped : (q p k : ℕ) → 0 < q → 0 < p → k ≡ size q - p → 2 ^ k ≤ q
dropped q p zero h P e = h
dropped q p (suc k) h P e = size_reaches q (suc k) (fewer (size q) e)
  where
    fewer : (z : ℕ) → suc k ≡ z - p → suc k < z
    fewer z e = omega arith

zero-none : (f : Format) (s : Bool) (q : ℕ) → eq (round f s q (2 ^ low f)) plus_zero ≡ true → q ≡ 0
zero-none f s zero z = refl
zero-none f s (suc q) z =
    let c = 2 ^ low f in
    let n = suc q * c in
    let k = drop (prec f) n c in
    let C = pow_pos (low f) in
    let few : 2 ^ k ≤ suc q = dropped (suc q) (prec f) k (omega arith) (two-le_pos (prec f) (two f)) (ap (λ (x : ℕ). size x - prec f) (mul-div_cancel (suc q) C)) in
    let some : 0 < closest n (c * 2 ^ k) = closest_mono 1 1 n (c * 2 ^ k) (pow_pos 0) (mul-pos C (pow_pos k)) (once (2 ^ k) (suc q) c (mul-le-mul_right c few)) in
    absurd (some-units f s (kept (prec f) n c) k some (ap (λ (x : Float). eq x plus_zero) (sym (round_is f s (suc q) c)) ∙ z))
  where
    once : (u q c : ℕ) → u * c ≤ q * c → 1 * (c * u) ≤ q * c * 1
    once u q c h = omega (arith, h, mul_comm c u)

-- ---- a residual of zero is that of a value on the level

pub in_least : (s : Bool) (m : ℕ) (e : ℤ) → T (fits binary64 (fin s m e)) → Is (fin s m e) (signed s (quanta binary64 (fin s m e))) (2 ^ 1074)
in_least s m e h = exact-quanta binary64 {z = signed s (m * up e)} {c = down e} h (record { sign = s; size = m * up e; value = (refl, refl); same = refl })

no_difference : {a b : ℤ} (s : Bool) (n : ℕ) → n ≡ 0 → signed s n ≡ a -ℤ b → a ≡ b
no_difference {a} {b} s n z e = sym (-ℤ-+ℤ_cancel a b) ∙ ap (λ (i : ℤ). i +ℤ b) (sym e ∙ ap (signed s) z ∙ go s) ∙ +ℤ_idl b
  where
    go : (s : Bool) → signed s 0 ≡ pos 0
    go false = refl
    go true = refl

same-value : {x l : Float} {a b : ℤ} → Is x a (2 ^ 1074) → Is l b (2 ^ 1074) → eq (less x l) plus_zero ≡ true → eq x l ≡ true
same-value {x} {l} {a} {b} p q z =
    let r = sub-rounds binary64 (pow_pos 1074) p q in
    let n : r.size ≡ 0 = zero-none binary64 r.sign r.size (ap (λ (y : Float). eq y plus_zero) (sym r.value) ∙ z) in
    eq-values x l p.sign q.sign p.size q.size (2 ^ 1074) (pow_pos 1074) p.value q.value
    ∙ same_level p.sign q.sign p.size q.size (p.same ∙ no_difference r.sign r.size n r.same ∙ sym q.same)

pub on_level : (x l : Float) → T (fits binary64 x) → T (fits binary64 l) → is_finite x ≡ true → is_finite l ≡ true → eq (less x l) plus_zero ≡ true → eq x l ≡ true
unfolding is_finite
on_level nan l h k p q z = absurd (false≢true p)
on_level (inf s) l h k p q z = absurd (false≢true p)
on_level (fin s m e) nan h k p q z = absurd (false≢true q)
on_level (fin s m e) (inf t) h k p q z = absurd (false≢true q)
on_level (fin s m e) (fin t n d) h k p q z = same-value (in_least s m e h) (in_least t n d k) z
