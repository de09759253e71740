-- A round's parameter lies between the ends of its bracket: the secant by its tests, the midpoint since rounding keeps the order.
-- Parameters are counted in units of 2^-1074, the least f64 above 0, of which each is a whole number. Assumes nothing.
use mathlib.Core.Path.{◌≡◌, refl, sym, ap, ◌∙◌, subst}
use mathlib.Core.Bool.{Bool, true, false, cond, true≢false, false≢true}
use Prim.Native.Nat.{ℕ, zero, suc, ◌+◌, ◌*◌, ◌^◌, ◌≤◌, ◌<◌, ◌%◌, zero-le}
use native.Mathlib.Nat.{mul-pos, mul_assoc, mul-one, add-mul, zero-mul, mul-le-mul_right, le_trans, le_of_lt, lt_of_le_of_lt}
use native.Mathlib.Omega.{arith}
use lib.IntN.{ℤ, pos, nat_abs, pos-ne-negsuc}
use lib.Signed.{lt_z}
use lib.Dec.{T, leb, eqb, lit<}
use lib.Pow.{pow_pos, pow-add}
use borrow.Author.Tests.{leb-true, leb-false, le-leb, not-false}
use lib.Ieee as Ieee
use lib.Ieee.{Float, nan, inf, fin, binary64, round, le, lt, eq, fits, of_bits}
use lib.Ieee.Bits.{is_true}
use lib.Ieee.Fits.{round-fits, sub-fits}
use lib.Ieee.Order.{round_mono}
use Rattle.float.specs.Root.{quanta}
use Rattle.float.specs.Point.{plus, less, times}
use Rattle.float.specs.Order.{is_finite}
use Rattle.float.proofs.Nearest.{Quanta, in_quanta}
use Rattle.surface.proofs.Bools.{or_none}
use Rattle.field.specs.Number.{plus_zero, one}
use Rattle.rounding.specs.Fraction.{signed, Is, Rounds}
use Rattle.rounding.proofs.Quantum.{rounds}
use Rattle.rounding.proofs.Compared.{le_numbers, lt_integers}
use Rattle.rounding.proofs.Rounded.{add_rounds, mul-rounds}
use Rattle.solve.specs.declared.bracket.Bracket.{Bracket}
use Rattle.solve.specs.Solve.{one_half, secant, midway, halves?, parameter}
use Rattle.solve.proofs.Signs.{signum-round, zero-value}
use Rattle.solve.proofs.Residuals.{minus?, signum-plus}
use Rattle.solve.proofs.Zeros.{in_least}

-- x is a times 2^-1074, and a has at most 53 digits before its last zeros
pub record Share (x : Float) (a : ℕ) : Type 0 where
  pub is : Is x (pos a) (2 ^ 1074)
  pub short : Quanta binary64 a

pub share_le : {x y : Float} {a b : ℕ} → Share x a → Share y b → a ≤ b → le x y ≡ true
share_le {x} {y} {a} {b} p q h = le_numbers (pow_pos 1074) p.is q.is ∙ le-leb a b h

no_quanta : Quanta binary64 0
no_quanta = record { m = 0; j = 0; short = pow_pos 53; is = refl; inside = pow_pos 2098 }

-- ---- a value that lies between two others

pub record Found (x : Float) (a b : ℕ) : Type 0 where
  pub c : ℕ
  pub share : Share x c
  pub from : a ≤ c
  pub to : c ≤ b

share_of : (s : Bool) (m : ℕ) (e : ℤ) → T (fits binary64 (fin s m e)) → signed s (quanta binary64 (fin s m e)) ≡ pos (quanta binary64 (fin s m e)) → Share (fin s m e) (quanta binary64 (fin s m e))
share_of s m e f u = record { is = subst (λ (n : ℤ). Is (fin s m e) n (2 ^ 1074)) u (in_least s m e f); short = in_quanta binary64 s m e f }

squeezed : (x z y : Float) (a b : ℕ) → Is x (pos a) (2 ^ 1074) → Is y (pos b) (2 ^ 1074) → T (fits binary64 z) → minus? z ≡ false → le x z ≡ true → le z y ≡ true → Found z a b
unfolding minus? le lt eq
squeezed x nan y a b p q f s h k = absurd (true≢false s)
squeezed x (inf true) y a b p q f s h k = absurd (true≢false s)
squeezed x (inf false) nan a b p q f s h k = absurd (false≢true k)
squeezed x (inf false) (inf t) a b p q f s h k = absurd q.value
squeezed x (inf false) (fin t n d) a b p q f s h k = absurd (false≢true k)
squeezed x (fin true m e) y a b p q f s h k = absurd (true≢false s)
squeezed x (fin false m e) y a b p q f s h k =
    let c = quanta binary64 (fin false m e) in
    let g = share_of false m e f refl in
    record {
      c = c;
      share = g;
      from = leb-true a c (sym (le_numbers (pow_pos 1074) p g.is) ∙ h);
      to = leb-true c b (sym (le_numbers (pow_pos 1074) g.is q) ∙ k);
    }

-- n / d, rounded, stays between what it was between
round-between : {x : Float} (n d a b : ℕ) → 0 < d → Rounds binary64 x (pos n) d → Quanta binary64 a → Quanta binary64 b → a * d ≤ n * 2 ^ 1074 → n * 2 ^ 1074 ≤ b * d → Found x a b
round-between n d a b D r p q h k = subst (λ (y : Float). Found y a b) (sym r.value) (go r.sign r.size r.same)
  where
    end : {c : ℕ} → Quanta binary64 c → Is (round binary64 false c (2 ^ 1074)) (pos c) (2 ^ 1074)
    end {c} g = record { sign = false; size = c; value = rounds binary64 false c (2 ^ 1074) c (pow_pos 1074) refl g; same = refl }

    none : (a d l : ℕ) → 0 < d → a * d ≤ 0 * l → a ≤ 0
    none zero d l D h = zero-le
    none (suc a) d l D h = let z = zero-mul l in let s : 0 < suc a * d = mul-pos (omega arith) D in absurd (omega arith)

    go : (s : Bool) (m : ℕ) → signed s m ≡ pos n → Found (round binary64 s m d) a b
    go false m e =
        let z = round binary64 false m d in
        let lower = round_mono binary64 a (2 ^ 1074) m d (pow_pos 1074) D (subst (λ (i : ℕ). a * d ≤ i * 2 ^ 1074) (sym (ap nat_abs e)) h) in
        let upper = round_mono binary64 m d b (2 ^ 1074) D (pow_pos 1074) (subst (λ (i : ℕ). i * 2 ^ 1074 ≤ b * d) (sym (ap nat_abs e)) k) in
        squeezed (round binary64 false a (2 ^ 1074)) z (round binary64 false b (2 ^ 1074)) a b (end p) (end q)
        (round-fits binary64 false m d) (signum-plus z (signum-round binary64 false m d)) (is_true _ lower) (is_true _ upper)
    go true zero e = record {
      c = 0;
      share = record { is = record { sign = true; size = 0; value = rounds binary64 true 0 d 0 D (zero-mul (2 ^ 1074) ∙ sym (zero-mul d)) no_quanta; same = refl }; short = no_quanta };
      from = none a d (2 ^ 1074) D (subst (λ (i : ℕ). a * d ≤ i * 2 ^ 1074) (sym (ap nat_abs e)) h);
      to = zero-le;
    }
    go true (suc m) e = absurd (pos-ne-negsuc n m (sym e))

-- ---- the midpoint

half_is : Is one_half (pos 1) 2
unfolding of_bits
half_is = record { sign = false; size = 1; value = (refl, refl); same = refl }

-- twice a number of at most 53 digits
doubled : {a : ℕ} → Quanta binary64 a → a ≤ 2 ^ 1074 → Quanta binary64 (a + a)
doubled {a} q h =
    let e : a + a ≡ q.m * 2 ^ (q.j + 1) = twice a ∙ ap (λ (z : ℕ). z * 2) q.is ∙ mul_assoc q.m (2 ^ q.j) 2 ∙ ap (λ (z : ℕ). q.m * z) (sym (pow-add 2 q.j 1)) in
    record { m = q.m; j = q.j + 1; short = q.short; is = e; inside = subst (λ (z : ℕ). z < 2 ^ 2098) e (lt_of_le_of_lt (most a (2 ^ 1074) h) (lit< tt)) }
  where
    twice : (a : ℕ) → a + a ≡ a * 2
    twice a = omega arith

    most : (a b : ℕ) → a ≤ b → a + a ≤ b + b
    most a b h = omega arith

module _ (k : Bracket) (a b : ℕ) (p : Share k.lo a) (q : Share k.hi b) (h : a ≤ b) (u : b ≤ 2 ^ 1074) where
  sum-found : Found (plus k.lo k.hi) (a + a) (b + b)
  sum-found =
      round-between (a + b) (2 ^ 1074) (a + a) (b + b) (pow_pos 1074) (add_rounds binary64 (pow_pos 1074) p.is q.is) (doubled p.short (le_trans h u)) (doubled q.short u)
      (mul-le-mul_right (2 ^ 1074) (left a b h)) (mul-le-mul_right (2 ^ 1074) (right a b h))
    where
      left : (a b : ℕ) → a ≤ b → a + a ≤ a + b
      left a b h = omega arith

      right : (a b : ℕ) → a ≤ b → a + b ≤ b + b
      right a b h = omega arith

  pub midway-found : Found (midway k) a b
  midway-found =
      round-between (sum-found.c * 1) (2 ^ 1074 * 2) a b (mul-pos (pow_pos 1074) (pow_pos 1)) (mul-rounds binary64 (pow_pos 1074) (pow_pos 1) sum-found.share.is half_is) p.short q.short
      (lower a sum-found.c (2 ^ 1074) sum-found.from) (upper b sum-found.c (2 ^ 1074) sum-found.to)
    where
      twice : (a l : ℕ) → (a + a) * l ≡ a * (l * 2)
      twice a l = let e = add-mul a a l in let g = mul_assoc a l 2 in omega arith

      lower : (a g l : ℕ) → a + a ≤ g → a * (l * 2) ≤ g * 1 * l
      lower a g l h = let e = twice a l in let m = mul-le-mul_right l h in omega (arith, m, mul-one g)

      upper : (b g l : ℕ) → g ≤ b + b → g * 1 * l ≤ b * (l * 2)
      upper b g l h = let e = twice b l in let m = mul-le-mul_right l h in omega (arith, m, mul-one g)

-- ---- the secant

unsigned : (s : Bool) (n a : ℕ) → lt_z (signed s n) (pos a) ≡ false → signed s n ≡ pos n
unsigned false n a h = refl
unsigned true zero a h = refl
unsigned true (suc n) a h = absurd (true≢false h)

strictly_inside : (x z y : Float) (a b : ℕ) → Is x (pos a) (2 ^ 1074) → Is y (pos b) (2 ^ 1074) → T (fits binary64 z) → is_finite z ≡ true → le z x ≡ false → le y z ≡ false → Found z a b
unfolding is_finite le
strictly_inside x nan y a b p q f i h k = absurd (false≢true i)
strictly_inside x (inf t) y a b p q f i h k = absurd (false≢true i)
strictly_inside x (fin s m e) y a b p q f i h k =
    let c = quanta binary64 (fin s m e) in
    let g = share_of s m e f (unsigned s c a (sym (lt_integers (pow_pos 1074) (in_least s m e f) p) ∙ (or_none _ _ h).0)) in
    record {
      c = c;
      share = g;
      from = le_of_lt (leb-false c a (sym (le_numbers (pow_pos 1074) g.is p) ∙ h));
      to = le_of_lt (leb-false b c (sym (le_numbers (pow_pos 1074) q g.is) ∙ k));
    }

-- ---- a round's parameter

module _ (round : ℕ) (k : Bracket) (a b : ℕ) (p : Share k.lo a) (q : Share k.hi b) (h : a ≤ b) (u : b ≤ 2 ^ 1074) where
  by_halves : (t : Bool) → halves? round k ≡ t → Found (cond t (midway k) (secant k)) a b
  unfolding halves?
  by_halves true e = midway-found k a b p q h u
  by_halves false e =
      let s = secant k in
      let n = or_none _ _ (or_none (eqb (round % 4) 3) _ (or_none (leb 12 round) _ e).1).1 in
      let m = or_none _ _ n.1 in
      strictly_inside k.lo s k.hi a b p.is q.is (sub-fits binary64 k.lo (Ieee.div binary64 (times k.flo (less k.hi k.lo)) (less k.fhi k.flo)))
      (not-false (is_finite s) n.0) m.0 m.1

  pub parameter-found : Found (parameter round k) a b
  unfolding parameter
  parameter-found = by_halves (halves? round k) refl

-- ---- 0 and 1

pub zero_share : Share plus_zero 0
zero_share = record { is = record { sign = false; size = 0; value = zero-value (2 ^ 1074); same = refl }; short = no_quanta }

pub one_share : Share one (2 ^ 1074)
unfolding of_bits
one_share = record { is = record { sign = false; size = 2 ^ 1074; value = (refl, refl); same = refl }; short = record { m = 1; j = 1074; short = lit< tt; is = refl; inside = lit< tt } }
