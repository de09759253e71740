-- Comparisons of f64 values go by the fractions that they are, over one denominator. Assumes nothing.
use mathlib.Core.Path.{◌≡◌, refl, sym, ap, ap₂, ◌∙◌}
use mathlib.Core.Bool.{Bool, true, false, ◌&&◌, ◌||◌, beq, false≢true}
use Prim.Native.Nat.{ℕ, zero, suc, ◌+◌, ◌*◌, ◌≤◌, ◌<◌}
use native.Mathlib.Nat.{mul-pos, eq_of_mul-eq-mul_right, mul-lt-mul_of_pos_right, lt_of_mul-lt-mul_right, lt_of_not-le, not-le_of_lt, le_of_suc-le-suc, zero-mul, add-mul, le_of_lt, le_of_eq}
use native.Mathlib.Omega.{arith}
use lib.Dec.{eqb, leb, ltb}
use borrow.Author.Tests.{eqb-true, eqb-false, eq-eqb, ne_eqb, leb-true, leb-false, ltb-true, ltb-false, le-leb, lt-leb, lt-ltb, le-ltb}
use lib.IntN.{ℤ, pos, neg_ℤ, nat_abs, pos-ne-negsuc}
use lib.Signed.{lt_z}
use lib.Ieee.{Float, nan, inf, fin, up, down, lt, eq, le, below, level}
use lib.Ieee.Exact.{HasValue}
use lib.Ieee.Fits.{down_pos}
use Rattle.rounding.proofs.Quantum.{over_first, over-second}
use Rattle.rounding.specs.Fraction.{signed, Is}

-- ---- over one denominator

-- a comparison that goes by the signs and the sizes of two numbers, and does not depend on their unit
over-one : (g : Bool → ℕ → Bool → ℕ → Bool) → ((s t : Bool) (a b k : ℕ) → 0 < k → g s (a * k) t (b * k) ≡ g s a t b)
    → (u v : Bool) (m n : ℕ) (e d : ℤ) (s t : Bool) (a b c : ℕ) → 0 < c → HasValue (fin u m e) s a c → HasValue (fin v n d) t b c → g u (m * up e * down d) v (n * up d * down e) ≡ g s a t b
over-one g scale u v m n e d s t a b c h p q =
    let x = m * up e * down d in
    let y = n * up d * down e in
    ap₂ (λ (i j : Bool). g i x j y) p.0 q.0
    ∙ sym (scale s t x y c h)
    ∙ ap₂ (λ (i j : ℕ). g s i t j) (over_first (m * up e) a c (down e) (down d) p.1) (over-second (n * up d) b c (down d) (down e) q.1)
    ∙ scale s t a b (down e * down d) (mul-pos (down_pos e) (down_pos d))

-- ---- less

pub ltb_same : {a b c d : ℕ} → (a < b → c < d) → (c < d → a < b) → ltb a b ≡ ltb c d
ltb_same {a} {b} {c} {d} p q = go (ltb a b) (ltb-true a b) (ltb-false a b) refl
  where
    go : (t : Bool) → (ltb a b ≡ true → a < b) → (ltb a b ≡ false → b ≤ a) → ltb a b ≡ t → ltb a b ≡ ltb c d
    go true x y e = e ∙ sym (lt-ltb c d (p (x e)))
    go false x y e = e ∙ sym (le-ltb c d (le_of_suc-le-suc (lt_of_not-le (λ (h : suc c ≤ d). not-le_of_lt (q h) (y e)))))

ltb_scale : (a b k : ℕ) → 0 < k → ltb (a * k) (b * k) ≡ ltb a b
ltb_scale a b k h = ltb_same (λ (l : a * k < b * k). lt_of_mul-lt-mul_right k l) (λ (l : a < b). mul-lt-mul_of_pos_right l h)

below-scale : (s t : Bool) (a b k : ℕ) → 0 < k → below s (a * k) t (b * k) ≡ below s a t b
below-scale false false a b k h = ltb_scale a b k h
below-scale false true a b k h = refl
below-scale true false a b k h = ap (λ (x : ℕ). ltb x (a * k + b * k)) (sym (zero-mul k)) ∙ ap (ltb (0 * k)) (sym (add-mul a b k)) ∙ ltb_scale 0 (a + b) k h
below-scale true true a b k h = ltb_scale b a k h

pub lt_values : (x y : Float) (s t : Bool) (a b c : ℕ) → 0 < c → HasValue x s a c → HasValue y t b c → lt x y ≡ below s a t b
unfolding lt
lt_values nan y s t a b c h p q = absurd p
lt_values (inf u) y s t a b c h p q = absurd p
lt_values (fin u m e) nan s t a b c h p q = absurd q
lt_values (fin u m e) (inf v) s t a b c h p q = absurd q
lt_values (fin u m e) (fin v n d) s t a b c h p q = over-one below below-scale u v m n e d s t a b c h p q

-- ---- equality

eqb_same : {a b c d : ℕ} → (a ≡ b → c ≡ d) → (c ≡ d → a ≡ b) → eqb a b ≡ eqb c d
eqb_same {a} {b} {c} {d} p q = go (eqb a b) refl
  where
    go : (t : Bool) → eqb a b ≡ t → eqb a b ≡ eqb c d
    go true e = e ∙ sym (eq-eqb c d (p (eqb-true a b e)))
    go false e = e ∙ sym (ne_eqb c d (λ h. eqb-false a b e (q h)))

eqb_scale : (a b k : ℕ) → 0 < k → eqb (a * k) (b * k) ≡ eqb a b
eqb_scale a b k h = eqb_same (λ (e : a * k ≡ b * k). eq_of_mul-eq-mul_right k h a b e) (λ (e : a ≡ b). ap (λ (x : ℕ). x * k) e)

level_scale : (s t : Bool) (a b k : ℕ) → 0 < k → level s (a * k) t (b * k) ≡ level s a t b
level_scale s t a b k h =
    ap₂ (λ (x y : Bool). x && (beq s t || y)) (eqb_scale a b k h) (ap (eqb (a * k)) (sym (zero-mul k)) ∙ eqb_scale a 0 k h)

pub eq-values : (x y : Float) (s t : Bool) (a b c : ℕ) → 0 < c → HasValue x s a c → HasValue y t b c → eq x y ≡ level s a t b
unfolding eq
eq-values nan y s t a b c h p q = absurd p
eq-values (inf u) y s t a b c h p q = absurd p
eq-values (fin u m e) nan s t a b c h p q = absurd q
eq-values (fin u m e) (inf v) s t a b c h p q = absurd q
eq-values (fin u m e) (fin v n d) s t a b c h p q = over-one level level_scale u v m n e d s t a b c h p q

-- values are level if and only if they are the same number
pub level_same : (s t : Bool) (a b : ℕ) → level s a t b ≡ true → signed s a ≡ signed t b
level_same s t a b e = go (eqb a b) refl s t (eqb a 0) refl e
  where
    go : (i : Bool) → eqb a b ≡ i → (s t : Bool) → (z : Bool) → eqb a 0 ≡ z → (i && (beq s t || z)) ≡ true → signed s a ≡ signed t b
    go false p s t z q e = absurd (false≢true e)
    go true p false false z q e = ap pos (eqb-true a b p)
    go true p true true z q e = ap (λ (n : ℕ). neg_ℤ (pos n)) (eqb-true a b p)
    go true p false true true q e = ap pos (eqb-true a 0 q) ∙ ap (λ (n : ℕ). neg_ℤ (pos n)) (sym (eqb-true a 0 q) ∙ eqb-true a b p)
    go true p false true false q e = absurd (false≢true e)
    go true p true false true q e = ap (λ (n : ℕ). neg_ℤ (pos n)) (eqb-true a 0 q) ∙ ap pos (sym (eqb-true a 0 q) ∙ eqb-true a b p)
    go true p true false false q e = absurd (false≢true e)

pub same_level : (s t : Bool) (a b : ℕ) → signed s a ≡ signed t b → level s a t b ≡ true
same_level false false a b e = let p : a ≡ b = ap nat_abs e in ap (λ (i : Bool). i && true) (eq-eqb a b p)
same_level true true zero zero e = refl
same_level true true zero (suc b) e = let p : 0 ≡ suc b = ap nat_abs e in absurd (omega arith)
same_level true true (suc a) zero e = let p : suc a ≡ 0 = ap nat_abs e in absurd (omega arith)
same_level true true (suc a) (suc b) e = let p : suc a ≡ suc b = ap nat_abs e in ap (λ (i : Bool). i && true) (eq-eqb (suc a) (suc b) p)
same_level false true zero zero e = refl
same_level false true zero (suc b) e = let p : 0 ≡ suc b = ap nat_abs e in absurd (omega arith)
same_level false true (suc a) zero e = let p : suc a ≡ 0 = ap nat_abs e in absurd (omega arith)
same_level false true (suc a) (suc b) e = absurd (pos-ne-negsuc (suc a) b e)
same_level true false zero zero e = refl
same_level true false zero (suc b) e = let p : 0 ≡ suc b = ap nat_abs e in absurd (omega arith)
same_level true false (suc a) zero e = let p : suc a ≡ 0 = ap nat_abs e in absurd (omega arith)
same_level true false (suc a) (suc b) e = absurd (pos-ne-negsuc (suc b) a (sym e))

-- ---- order: between -b and b

pub le_values : (x y : Float) (s t : Bool) (a b c : ℕ) → 0 < c → HasValue x s a c → HasValue y t b c → le x y ≡ (below s a t b || level s a t b)
unfolding le
le_values x y s t a b c h p q = ap₂ (λ (i j : Bool). i || j) (lt_values x y s t a b c h p q) (eq-values x y s t a b c h p q)

at_most : (a b : ℕ) {j : Bool} → (j ≡ true → a ≡ b) → (ltb a b || (j && true)) ≡ true → a ≤ b
at_most a b {j} f e = go (ltb a b) refl j f e
  where
    go : (i : Bool) → ltb a b ≡ i → (j : Bool) → (j ≡ true → a ≡ b) → (i || (j && true)) ≡ true → a ≤ b
    go true p j f e = le_of_lt (ltb-true a b p)
    go false p true f e = le_of_eq (f refl)
    go false p false f e = absurd (false≢true e)

most-at : (a b : ℕ) {j : Bool} → (a ≡ b → j ≡ true) → a ≤ b → (ltb a b || (j && true)) ≡ true
most-at a b {j} f h = go (ltb a b) refl
  where
    equal : b ≤ a → a ≡ b
    equal l = omega arith

    go : (i : Bool) → ltb a b ≡ i → (i || (j && true)) ≡ true
    go true p = refl
    go false p = ap (λ (j : Bool). j && true) (f (equal (ltb-false a b p)))

pub between : (s : Bool) (a b : ℕ) → (below true b s a || level true b s a) ≡ true → (below s a false b || level s a false b) ≡ true → a ≤ b
between false a b p q = at_most a b (eqb-true a b) q
between true a b p q = at_most a b (λ e. sym (eqb-true b a e)) p

pub from-below : (s : Bool) (a b : ℕ) → 0 < b → a ≤ b → (below true b s a || level true b s a) ≡ true
from-below false a b h l = ap (λ (i : Bool). i || level true b false a) (lt-ltb 0 (b + a) (omega arith))
from-below true a b h l = most-at a b (λ e. eq-eqb b a (sym e)) l

pub from-above : (s : Bool) (a b : ℕ) → 0 < b → a ≤ b → (below s a false b || level s a false b) ≡ true
from-above false a b h l = most-at a b (eq-eqb a b) l
from-above true a b h l = ap (λ (i : Bool). i || level true a false b) (lt-ltb 0 (a + b) (omega arith))

-- ---- order: numbers that are not below 0

less_or_same : (m n : ℕ) → (ltb m n || (eqb m n && true)) ≡ leb m n
less_or_same m n = go (leb m n) refl
  where
    go : (b : Bool) → leb m n ≡ b → (ltb m n || (eqb m n && true)) ≡ leb m n
    go true e = most-at m n (eq-eqb m n) (leb-true m n e) ∙ sym e
    go false e =
        let h = leb-false m n e in
        let p = le-ltb m n (omega arith) in
        let q = ne_eqb m n (λ d. omega arith) in
        (λ i. p i || (q i && true)) ∙ sym e

-- a zero may have either sign
zero-first : (n : ℕ) → (below true 0 false n || level true 0 false n) ≡ true
zero-first zero = refl
zero-first (suc n) = ap (λ (t : Bool). t || level true 0 false (suc n)) (lt-ltb 0 (0 + suc n) (omega arith))

zero-second : (m : ℕ) → (below false m true 0 || level false m true 0) ≡ leb m 0
zero-second zero = refl
zero-second (suc m) = let e = ne_eqb (suc m) 0 (λ h. omega arith) in (λ i. e i && e i) ∙ sym (lt-leb (suc m) 0 (omega arith))

pub le_numbers : {x y : Float} {a b c : ℕ} → 0 < c → Is x (pos a) c → Is y (pos b) c → le x y ≡ leb a b
le_numbers {x} {y} {a} {b} {c} h p q = le_values x y p.sign q.sign p.size q.size c h p.value q.value ∙ go p.sign q.sign p.size q.size p.same q.same
  where
    none : (n k : ℕ) → signed true n ≡ pos k → (n ≡ 0) × (k ≡ 0)
    none zero k e = (refl, sym (ap nat_abs e))
    none (suc n) k e = absurd (pos-ne-negsuc k n (sym e))

    go : (s t : Bool) (m n : ℕ) → signed s m ≡ pos a → signed t n ≡ pos b → (below s m t n || level s m t n) ≡ leb a b
    go false false m n e f = less_or_same m n ∙ (λ i. leb (nat_abs (e i)) (nat_abs (f i)))
    go true false m n e f = let z = none m a e in (λ i. below true (z.0 i) false n || level true (z.0 i) false n) ∙ zero-first n ∙ sym (ap (λ (k : ℕ). leb k b) z.1 ∙ le-leb 0 b (omega arith))
    go false true m n e f =
        let z = none n b f in
        (λ i. below false m true (z.0 i) || level false m true (z.0 i)) ∙ zero-second m ∙ (λ i. leb (nat_abs (e i)) (sym z.1 i))
    go true true m n e f =
        let y = none m a e in
        let z = none n b f in
        (λ i. below true (y.0 i) true (z.0 i) || level true (y.0 i) true (z.0 i)) ∙ (λ i. leb (sym y.1 i) (sym z.1 i))

-- ---- order: any whole numbers of one unit

pub lt_integers : {x y : Float} {a b : ℤ} {c : ℕ} → 0 < c → Is x a c → Is y b c → lt x y ≡ lt_z a b
lt_integers {x} {y} {a} {b} {c} h p q =
    lt_values x y p.sign q.sign p.size q.size c h p.value q.value ∙ go p.sign q.sign p.size q.size ∙ (λ i. lt_z (p.same i) (q.same i))
  where
    go : (s t : Bool) (m n : ℕ) → below s m t n ≡ lt_z (signed s m) (signed t n)
    go false false m n = refl
    go false true m zero = sym (le-ltb m 0 (omega arith))
    go false true m (suc n) = refl
    go true false zero n = ltb_same (λ (l : 0 < 0 + n). omega arith) (λ (l : 0 < n). omega arith)
    go true false (suc m) n = lt-ltb 0 (suc m + n) (omega arith)
    go true true zero zero = refl
    go true true zero (suc n) = le-ltb (suc n) 0 (omega arith)
    go true true (suc m) zero = lt-ltb 0 (suc m) (omega arith)
    go true true (suc m) (suc n) = ltb_same (λ (l : suc n < suc m). omega arith) (λ (l : n < m). omega arith)
