-- Why the quick test is right: a value whose square is below d is at most the root of d, and a product and a quotient keep that order. Assumes nothing.
use mathlib.Core.Path.{◌≡◌, refl, sym, ap, ap₂}
use mathlib.Core.Bool.{Bool, true, false, ◌&&◌, ◌||◌, cond, false≢true}
use Prim.Native.Nat.{ℕ, ◌*◌, ◌^◌, ◌<◌, zero-le}
use native.Mathlib.Nat.{le_of_lt, le_refl, lt_of_le_of_lt, mul-pos, zero-mul}
use native.Mathlib.Omega.{arith}
use lib.Dec.{T, ltb, eqb, lt→ltb}
use lib.Pow.{pow_pos}
use borrow.Author.Tests.{ltb-true, le-ltb, ne_eqb}
use lib.Ieee.{Float, nan, inf, fin, binary64, up, down, of_int, of_bits, mul, div, lt, le, fits}
use lib.Ieee.Positive.{positive, cross→le, le→cross, first_pos, mul_mono, le_trans_positive, between}
use Rattle.float.specs.Root.{root}
use Rattle.float.specs.Order.{lesser, is_finite}
use Rattle.float.specs.Point.{times}
use Rattle.quality.specs.Quality.{over, scale, degenerate}
use Rattle.quality.specs.Quick.{tiny, huge, sized_of, quality_by, Passes}
use Rattle.quality.proofs.Order.{num_pos, root_positive, below_root, root_le, div_mono}

-- ---- a value from 2 ^ -500 to 2 ^ 500

pub record Sized (x : Float) : Type 0 where
  pub above : T (positive x)
  pub low : T (le tiny x)
  pub high : T (le x huge)

both_l : (p q : Bool) → (p && q) ≡ true → p ≡ true
both_l true q e = refl
both_l false q e = e

both_r : (p q : Bool) → (p && q) ≡ true → q ≡ true
both_r true q e = e
both_r false q e = absurd (false≢true e)

pub sized-is : (x : Float) → sized_of x ≡ true → Sized x
unfolding lt
sized-is nan e = absurd (false≢true e)
sized-is (inf true) e = absurd (false≢true e)
sized-is (inf false) e = absurd (false≢true e)
sized-is (fin true m e') e = absurd (false≢true e)
sized-is (fin false m e') e =
    let a = ltb-true (1 * down e') (m * up e' * 2 ^ 500) (both_l _ _ e) in
    let b = ltb-true (m * up e' * 1) (2 ^ 500 * down e') (both_r (ltb (1 * down e') (m * up e' * 2 ^ 500)) _ e) in
    let z : 0 < m * up e' * 2 ^ 500 = lt_of_le_of_lt zero-le a in
    let p : T (positive (fin false m e')) = lt→ltb 0 m (first_pos m (up e') (first_pos (m * up e') (2 ^ 500) z)) in
    record { above = p; low = cross→le tiny (fin false m e') tt p (le_of_lt a); high = cross→le (fin false m e') huge p tt (le_of_lt b) }

pub sized_yes : (x : Float) → lt (of_bits binary64 0x20b0_0000_0000_0000) x ≡ true → lt x (of_bits binary64 0x5f30_0000_0000_0000) ≡ sized_of x
unfolding of_bits
sized_yes x e = sym (ap (λ (b : Bool). b && lt x huge) e)

pub sized_no : (x : Float) → lt (of_bits binary64 0x20b0_0000_0000_0000) x ≡ false → false ≡ sized_of x
unfolding of_bits
sized_no x e = sym (ap (λ (b : Bool). b && lt x huge) e)

-- ---- closed cases, which antt computes

huge-fits : T (fits binary64 huge)
unfolding fits
huge-fits = tt

scale-above : T (positive scale)
unfolding mul root of_int
scale-above = tt

product_low : T (positive (times scale tiny))
unfolding mul root of_int
product_low = tt

product_high : T (positive (times scale huge))
unfolding mul root of_int
product_high = tt

product_root : T (positive (times scale (root binary64 huge)))
unfolding mul root of_int
product_root = tt

quotient_low : T (positive (over (times scale tiny) huge))
unfolding div mul root of_int
quotient_low = tt

quotient_high : T (positive (over (times scale huge) tiny))
unfolding div mul root of_int
quotient_high = tt

quotient_root : T (positive (over (times scale (root binary64 huge)) tiny))
unfolding div mul root of_int
quotient_root = tt

-- ---- what a positive quality is, and what a minimum below it becomes

not_low : (a b : ℕ) (t : Bool) → 0 < a → b ≡ 0 → (ltb a b || (eqb a b && t)) ≡ false
not_low a b t A B = ap₂ (λ (p q : Bool). p || (q && t)) (le-ltb a b (omega arith)) (ne_eqb a b (λ e. absurd (omega arith)))

kept_of : (q : Float) → T (positive q) → degenerate q ≡ false
unfolding is_finite le of_int
kept_of nan p = absurd p
kept_of (inf s) p = absurd p
kept_of (fin true m e) p = absurd p
kept_of (fin false m e) p =
    not_low (m * up e * 1) (0 * down e) _ (mul-pos (num_pos (fin false m e) p) (pow_pos 0)) (zero-mul (down e))

same_of : (m q : Float) → T (positive m) → T (positive q) → T (le m q) → lesser m q ≡ m
unfolding lesser
same_of nan q p r l = absurd p
same_of (inf s) q p r l = absurd p
same_of (fin true m e) q p r l = absurd p
same_of (fin false m e) nan p r l = absurd r
same_of (fin false m e) (inf t) p r l = absurd r
same_of (fin false m e) (fin true n d) p r l = absurd r
same_of (fin false m e) (fin false n d) p r l =
    ap (λ (b : Bool). cond b (fin false n d) (fin false m e)) (le-ltb (n * up d * down e) (m * up e * down d) (le→cross (fin false m e) (fin false n d) p r l))

itself : (x : Float) → T (positive x) → T (le x x)
itself x h = cross→le x x h h (le_refl _)

grown : (x y : Float) → T (positive x) → T (positive y) → T (le x y) → T (le (times scale x) (times scale y))
grown x y p q l = mul_mono binary64 scale scale x y scale-above scale-above p q (itself scale scale-above) l

-- ---- THE LAW: s * s < d and m ≤ (scale * s) / sum show that the quality is at least m

module _ (m d sum s : Float) (M : Sized m) (D : Sized d) (S : Sized sum) (R : Sized s) (d-fits : T (fits binary64 d)) (s-fits : T (fits binary64 s)) where
  pub passes : lt (mul binary64 s s) d ≡ true → T (le m (over (times scale s) sum)) → Passes m d sum
  passes t l =
      let r = root binary64 d in
      let rp = root_positive binary64 d D.above d-fits in
      let sr = below_root binary64 s d R.above s-fits D.above d-fits t in
      let rh = root_le binary64 d huge D.above d-fits tt huge-fits D.high in
      let hp = root_positive binary64 huge tt huge-fits in
      let k1 = grown tiny s tt R.above R.low in
      let k2 = grown s huge R.above tt R.high in
      let k3 = grown s r R.above rp sr in
      let k4 = grown r (root binary64 huge) rp hp rh in
      let sp = between (times scale tiny) (times scale s) (times scale huge) product_low product_high k1 k2 in
      let xp = between (times scale s) (times scale r) (times scale (root binary64 huge)) sp product_root k3 k4 in
      let k5 = le_trans_positive (times scale tiny) (times scale s) (times scale r) product_low sp xp k1 k3 in
      let qs = between (over (times scale tiny) huge) (over (times scale s) sum) (over (times scale huge) tiny) quotient_low quotient_high
      (div_mono binary64 (times scale tiny) (times scale s) huge sum product_low sp tt S.above k1 S.high)
      (div_mono binary64 (times scale s) (times scale huge) sum tiny sp product_high S.above tt k2 S.low) in
      let qp = between (over (times scale tiny) huge) (quality_by d sum) (over (times scale (root binary64 huge)) tiny) quotient_low quotient_root
      (div_mono binary64 (times scale tiny) (times scale r) huge sum product_low xp tt S.above k5 S.high)
      (div_mono binary64 (times scale r) (times scale (root binary64 huge)) sum tiny xp product_root S.above tt k4 S.low) in
      let up = div_mono binary64 (times scale s) (times scale r) sum sum sp xp S.above S.above k3 (itself sum S.above) in
      record { kept = kept_of (quality_by d sum) qp; same = same_of m (quality_by d sum) M.above qp (le_trans_positive m (over (times scale s) sum) (quality_by d sum) M.above qs qp l up) }
