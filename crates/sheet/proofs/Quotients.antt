-- The quotient of two whole numbers as floats is their fraction, rounded once: so equal fractions are the same float. Assumes nothing.
use mathlib.Core.Path.{◌≡◌, sym, ap, ◌∙◌, subst}
use mathlib.Core.Bool.{Bool, true, false, cond}
use Prim.Native.Nat.{ℕ, suc, ◌+◌, ◌*◌, ◌^◌, ◌≤◌, ◌<◌}
use native.Mathlib.Nat.{mul-one, mul_assoc, mul_comm, mul-pos, mul-lt-mul_of_pos_right, lt_of_lt_of_le}
use native.Mathlib.Omega.{arith}
use lib.Dec.{eqb}
use lib.Pow.{pow-add, pow_pos, pow_mono}
use lib.IntN.{ℤ, pos, negsuc, nat_abs}
use lib.Ieee.{Float, nan, inf, fin, binary64, emax, low, up, down, unlike, round, div, of_int}
use lib.Ieee.Exact.{HasValue, round_exact}
use lib.Ieee.Scale.{round_same}
use borrow.Author.Tests.{ne_eqb}
use Rattle.sheet.specs.Sheet.{place}
use Rattle.sheet.specs.Conversion.{Equal}

-- a whole number below 2 ^ 53 is a float
whole-exact : (s : Bool) (n : ℕ) → n < 2 ^ 53 → HasValue (round binary64 s n 1) s n 1
whole-exact s n h =
    round_exact binary64 s n 1 n (low binary64) (omega arith) h
    (lt_of_lt_of_le (mul-lt-mul_of_pos_right h (pow_pos (low binary64))) (room))
    (sym (mul-one (n * 2 ^ low binary64)))
  where
    room : 2 ^ 53 * 2 ^ low binary64 ≤ 2 ^ (low binary64 + suc (emax binary64))
    room = subst (λ (k : ℕ). k ≤ 2 ^ (low binary64 + suc (emax binary64))) (pow-add 2 53 (low binary64)) (pow_mono {i = 53 + low binary64} {j = low binary64 + suc (emax binary64)} (omega arith))

some-digits : (n d b : ℕ) → n * d * 1 ≡ b → 0 < b → n ≡ 0 → ⊥
some-digits n d b e h z = let f : 0 * d * 1 ≡ b = subst (λ (k : ℕ). k * d * 1 ≡ b) z e in omega arith

cross : (m n ue de ud dd a b : ℕ) → m * ue * 1 ≡ a * de → n * ud * 1 ≡ b * dd → m * ue * dd * b ≡ a * (n * ud * de)
cross m n ue de ud dd a b p q =
    ap (λ (k : ℕ). k * dd * b) (sym (mul-one (m * ue)) ∙ p)
    ∙ mul_assoc (a * de) dd b
    ∙ ap (λ (k : ℕ). a * de * k) (mul_comm dd b ∙ sym q ∙ mul-one (n * ud))
    ∙ mul_assoc a de (n * ud)
    ∙ ap (λ (k : ℕ). a * k) (mul_comm de (n * ud))

up_pos : (e : ℤ) → 0 < up e
up_pos (pos k) = pow_pos k
up_pos (negsuc k) = omega arith

down_pos : (e : ℤ) → 0 < down e
down_pos (pos k) = omega arith
down_pos (negsuc k) = pow_pos (suc k)

-- a / b, from floats that are a and b
div_value : (x y : Float) (s t : Bool) (a b : ℕ) → 0 < b → HasValue x s a 1 → HasValue y t b 1 → div binary64 x y ≡ round binary64 (unlike s t) a b
unfolding div
div_value nan y s t a b h v w = absurd v
div_value (inf s') y s t a b h v w = absurd v
div_value (fin s' m e) nan s t a b h v w = absurd w
div_value (fin s' m e) (inf t') s t a b h v w = absurd w
div_value (fin s' m e) (fin t' n d) s t a b h v w =
    let some : n ≡ 0 → ⊥ = some-digits n (up d) (b * down d) w.1 (mul-pos h (down_pos d)) in
    let N : 0 < n = (omega (arith, some)) in
    ap (λ (k : Bool). cond k (cond (eqb m 0) nan (inf (unlike s' t'))) (round binary64 (unlike s' t') (m * up e * down d) (n * up d * down e))) (ne_eqb n 0 some)
    ∙ ap (λ (k : Bool). round binary64 (unlike k t') (m * up e * down d) (n * up d * down e)) v.0
    ∙ ap (λ (k : Bool). round binary64 (unlike s k) (m * up e * down d) (n * up d * down e)) w.0
    ∙ round_same binary64 (unlike s t) (m * up e * down d) (n * up d * down e) a b (mul-pos (mul-pos N (up_pos d)) (down_pos e)) h (cross m n (up e) (down e) (up d) (down d) a b v.1 w.1)

above : (a u : ℕ) → 0 < u → u < 2 ^ 53 → a < 2 ^ 53 → place u (pos a) ≡ round binary64 false a u
unfolding of_int
above a u p hu ha = div_value (round binary64 false a 1) (round binary64 false u 1) false false a u p (whole-exact false a ha) (whole-exact false u hu)

below : (a u : ℕ) → 0 < u → u < 2 ^ 53 → suc a < 2 ^ 53 → place u (negsuc a) ≡ round binary64 true (suc a) u
unfolding of_int
below a u p hu ha = div_value (round binary64 true (suc a) 1) (round binary64 false u 1) true false (suc a) u p (whole-exact true (suc a) ha) (whole-exact false u hu)

pub equal_place : (u v : ℕ) → 0 < u → 0 < v → u < 2 ^ 53 → v < 2 ^ 53 → (z w : ℤ) → nat_abs z < 2 ^ 53 → nat_abs w < 2 ^ 53 → Equal u z v w → place u z ≡ place v w
equal_place u v p q hu hv (pos a) (pos b) ha hb e = above a u p hu ha ∙ round_same binary64 false a u b v p q e ∙ sym (above b v q hv hb)
equal_place u v p q hu hv (pos a) (negsuc b) ha hb e = absurd e
equal_place u v p q hu hv (negsuc a) (pos b) ha hb e = absurd e
equal_place u v p q hu hv (negsuc a) (negsuc b) ha hb e = below a u p hu ha ∙ round_same binary64 true (suc a) u (suc b) v p q e ∙ sym (below b v q hv hb)
