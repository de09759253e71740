-- Residuals that end no search are finite and not zero: what is zero is within any limit. So their signs say on which side of the level they lie. Assumes nothing.
use mathlib.Core.Path.{◌≡◌, refl, sym, ap, ap₂, ◌∙◌}
use mathlib.Core.Logic.{inl, inr}
use mathlib.Core.Bool.{Bool, true, false, not, cond, beq, true≢false, false≢true}
use Prim.Native.Nat.{ℕ, zero, suc, ◌+◌, ◌*◌, ◌≤◌, ◌<◌}
use native.Mathlib.Nat.{zero-mul}
use native.Mathlib.Omega.{arith}
use lib.IntN.{ℤ, negsuc, nat_abs}
use borrow.Author.Tests.{lt-ltb}
use lib.Ieee.{Float, nan, inf, fin, binary64, up, down, mul, neg, lt, le, eq, is_nan, of_bits}
use lib.Ieee.Bits.{is_true}
use lib.Ieee.Exact.{HasValue}
use lib.Ieee.Fits.{down_pos}
use lib.Ieee.Order.{le_of_values}
use Rattle.float.specs.Point.{times}
use Rattle.float.specs.Order.{is_finite, greater}
use Rattle.field.specs.Number.{plus_zero, one}
use Rattle.rounding.proofs.Compared.{lt_values, eq-values, level_same}
use Rattle.rounding.proofs.Exactness.{size-signed}
use Rattle.std.specs.Float.{float_with_sign}
use Rattle.lattice.specs.Values.{sixty_four, epsilon, least_normal, magnitude, tolerance}
use Rattle.solve.specs.Solve.{signum, same_sign, edge_scale}
use Rattle.solve.specs.Laws.{Opposite}
use Rattle.solve.proofs.Signs.{signum-round, zero-value, zero_is, sign_test}

-- ---- signs of finite values

-- a minus sign, or no number
unfoldable pub minus? : Float → Bool
minus? nan = true
minus? (inf s) = s
minus? (fin s m e) = s

by_sign : (x y : Float) → is_finite x ≡ true → is_finite y ≡ true → same_sign x y ≡ beq (minus? x) (minus? y)
unfolding is_finite signum minus?
by_sign nan y p q = absurd (false≢true p)
by_sign (inf s) y p q = absurd (false≢true p)
by_sign (fin s m e) nan p q = absurd (false≢true q)
by_sign (fin s m e) (inf t) p q = absurd (false≢true q)
by_sign (fin s m e) (fin t n d) p q = sign_test s t

module _ (x y : Float) (p : is_finite x ≡ true) (q : is_finite y ≡ true) where
  pub same_sign_lem : same_sign x y ≡ true → minus? x ≡ minus? y
  same_sign_lem h = go (minus? x) (minus? y) (sym (by_sign x y p q) ∙ h)
    where
      go : (s t : Bool) → beq s t ≡ true → s ≡ t
      go false false h = refl
      go false true h = absurd (false≢true h)
      go true false h = absurd (false≢true h)
      go true true h = refl

  pub other_sign : same_sign x y ≡ false → (minus? x ≡ not (minus? y)) × (minus? y ≡ not (minus? x))
  other_sign h = go (minus? x) (minus? y) (sym (by_sign x y p q) ∙ h)
    where
      go : (s t : Bool) → beq s t ≡ false → (s ≡ not t) × (t ≡ not s)
      go false false h = absurd (true≢false h)
      go false true h = (refl, refl)
      go true false h = (refl, refl)
      go true true h = absurd (true≢false h)

-- ---- values that are not zero

pub record Nonzero (x : Float) : Type 0 where
  pub finite : is_finite x ≡ true
  pub other : eq x plus_zero ≡ false

-- 0 is the only size of what is level with zero
pub zero-size : (x : Float) (s : Bool) (a c : ℕ) → 0 < c → HasValue x s a c → eq x plus_zero ≡ true → a ≡ 0
zero-size x s a c C p z = sym (size-signed s a) ∙ ap nat_abs (level_same s false a 0 (sym (eq-values x plus_zero s false a 0 c C p (zero-value c)) ∙ z))

some_size : (s : Bool) (m : ℕ) (e : ℤ) (a : ℕ) → m * up e ≡ a → eq (fin s m e) plus_zero ≡ false → 0 < a
some_size s m e zero p h = absurd (true≢false (sym (zero_is (fin s m e) s (down e) (down_pos e) (refl, ap (λ (i : ℕ). i * down e) p)) ∙ h))
some_size s m e (suc a) p h = omega arith

below-zero : (x : Float) → Nonzero x → minus? x ≡ true → lt x plus_zero ≡ true
unfolding minus? is_finite
below-zero nan p s = absurd (false≢true p.finite)
below-zero (inf t) p s = absurd (false≢true p.finite)
below-zero (fin false m e) p s = absurd (false≢true s)
below-zero (fin true m e) p s =
    lt_values (fin true m e) plus_zero true false (m * up e) 0 (down e) (down_pos e) (refl, refl) (zero-value (down e))
    ∙ lt-ltb 0 (m * up e + 0) (let h = some_size true m e (m * up e) refl p.other in omega arith)

above_zero : (x : Float) → Nonzero x → minus? x ≡ false → lt plus_zero x ≡ true
unfolding minus? is_finite
above_zero nan p s = absurd (true≢false s)
above_zero (inf t) p s = absurd (false≢true p.finite)
above_zero (fin true m e) p s = absurd (true≢false s)
above_zero (fin false m e) p s =
    lt_values plus_zero (fin false m e) false false 0 (m * up e) (down e) (down_pos e) (zero-value (down e)) (refl, refl)
    ∙ lt-ltb 0 (m * up e) (some_size false m e (m * up e) refl p.other)

pub opposite : (x y : Float) (s : Bool) → Nonzero x → Nonzero y → minus? x ≡ s → minus? y ≡ not s → Opposite x y
opposite x y true p q h k = inl (below-zero x p h, above_zero y q k)
opposite x y false p q h k = inr (above_zero x p h, below-zero y q k)

-- ---- the limit has no minus sign and is a number

least-is : least_normal ≡ fin false 1 (negsuc 1021)
unfolding of_bits
least-is = refl

factor_is : times sixty_four epsilon ≡ fin false 1 (negsuc 45)
unfolding of_bits mul
factor_is = refl

greater-plus : (x : Float) → minus? (greater x (fin false 1 (negsuc 1021))) ≡ false
unfolding greater minus? is_nan lt
greater-plus nan = refl
greater-plus (inf true) = refl
greater-plus (inf false) = refl
greater-plus (fin true m e) =
    ap (λ (b : Bool). minus? (cond b (fin false 1 (negsuc 1021)) (fin true m e)))
    (lt-ltb 0 (m * up e * down (negsuc 1021) + 1 * 1 * down e) (more (m * up e * down (negsuc 1021)) (down e) (down_pos e)))
  where
    more : (a b : ℕ) → 0 < b → 0 < a + 1 * 1 * b
    more a b h = omega arith
greater-plus (fin false m e) = go (lt (fin false m e) (fin false 1 (negsuc 1021)))
  where
    go : (b : Bool) → minus? (cond b (fin false 1 (negsuc 1021)) (fin false m e)) ≡ false
    go true = refl
    go false = refl

-- what has signum 1 is such a value
pub signum-plus : (x : Float) → signum x ≡ one → minus? x ≡ false
unfolding signum minus? neg of_bits
signum-plus nan s = ap minus? s
signum-plus (inf true) s = ap minus? s
signum-plus (inf false) s = refl
signum-plus (fin true m e) s = ap minus? s
signum-plus (fin false m e) s = refl

product_plus : (y : Float) → minus? y ≡ false → minus? (mul binary64 (fin false 1 (negsuc 45)) y) ≡ false
unfolding minus? mul
product_plus nan s = absurd (true≢false s)
product_plus (inf true) s = absurd (true≢false s)
product_plus (inf false) s = refl
product_plus (fin true m e) s = absurd (true≢false s)
product_plus (fin false m e) s = signum-plus (mul binary64 (fin false 1 (negsuc 45)) (fin false m e)) (signum-round binary64 false (1 * 1 * (m * up e)) (down (negsuc 45) * down e))

pub limit-plus : (va vb level : Float) → minus? (tolerance (edge_scale va vb level)) ≡ false
unfolding edge_scale
limit-plus va vb level =
    let x = greater (greater (magnitude va) (magnitude vb)) (magnitude level) in
    ap₂ (λ (c d : Float). minus? (times c (greater x d))) factor_is least-is ∙ product_plus (greater x (fin false 1 (negsuc 1021))) (greater-plus x)

-- ---- so a zero is within it

zero-meets : (x limit : Float) → is_finite x ≡ true → eq x plus_zero ≡ true → minus? limit ≡ false → le (magnitude x) limit ≡ true
unfolding is_finite float_with_sign minus? le
zero-meets nan limit p z s = absurd (false≢true p)
zero-meets (inf t) limit p z s = absurd (false≢true p)
zero-meets (fin t m e) nan p z s = absurd (true≢false s)
zero-meets (fin t m e) (inf true) p z s = absurd (true≢false s)
zero-meets (fin t m e) (inf false) p z s = refl
zero-meets (fin t m e) (fin true n d) p z s = absurd (true≢false s)
zero-meets (fin t m e) (fin false n d) p z s =
    is_true (le (fin false m e) (fin false n d)) (le_of_values (fin false m e) (fin false n d) (m * up e) (down e) (n * up d) (down d) (down_pos e) (down_pos d) (refl, refl) (refl, refl)
    (few (m * up e) (down d) (n * up d * down e) (zero-size (fin t m e) t (m * up e) (down e) (down_pos e) (refl, refl) z)))
  where
    few : (a b c : ℕ) → a ≡ 0 → a * b ≤ c
    few a b c h = let k = ap (λ (i : ℕ). i * b) h ∙ zero-mul b in omega arith

-- what misses the limit is not zero
pub not_zero : (x limit : Float) → is_finite x ≡ true → minus? limit ≡ false → le (magnitude x) limit ≡ false → Nonzero x
not_zero x limit p s h = record { finite = p; other = go (eq x plus_zero) refl }
  where
    go : (b : Bool) → eq x plus_zero ≡ b → b ≡ false
    go true e = absurd (false≢true (sym h ∙ zero-meets x limit p e s))
    go false e = refl
