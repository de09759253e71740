-- Sums, differences, products and quotients of values that are given as fractions: each is the exact fraction, rounded. Assumes nothing.
use mathlib.Core.Path.{◌≡◌, refl, sym, ap, ap₂, ◌∙◌, subst, subst₂}
use mathlib.Core.Bool.{Bool, true, false, not, ◌&&◌, cond, beq}
use Prim.Native.Nat.{ℕ, zero, suc, ◌+◌, ◌-◌, ◌*◌, ◌/◌, ◌^◌, ◌≤◌, ◌<◌}
use native.Mathlib.Nat.{mul_assoc, mul_comm, mul_left_comm, mul-one, mul-pos, add-mul, lt_of_mul-lt-mul_right, mul-lt-mul_of_pos_right, mul-mul-mul_comm, mul-div_cancel, zero-mul, lt_irrefl, le_of_lt}
use native.Mathlib.Omega.{arith}
use lib.Dec.{T, eqb, ltb, ltb→lt, nltb→le}
use lib.IntN.{ℤ, pos, neg_ℤ, nat_abs, pos-ne-negsuc, ◌+ℤ◌, ◌-ℤ◌, ◌*ℤ◌, +ℤ_comm, neg_ℤ-+ℤ, neg_ℤ-neg_ℤ, *ℤ_comm, +ℤ_invl}
use lib.Ieee.{Float, nan, inf, fin, Format, unlike, up, down, round, sum, add, sub, mul, div, neg, low, fits}
use borrow.Author.Tests.{ne_eqb}
use lib.Ieee.Exact.{HasValue}
use lib.Ieee.Fits.{down_pos}
use lib.Ieee.Scale.{round_same}
use Rattle.float.specs.Root.{quanta}
use Rattle.float.proofs.Nearest.{quanta-exact}
use Rattle.integers.proofs.Ring.{neg-mul, difference_of, negative_of}
use Rattle.rounding.specs.Fraction.{signed, Is, wholes, signed_quanta, Rounds}
use Rattle.rounding.proofs.Quantum.{over_first, over-second, minus-scale}
use Rattle.rounding.proofs.Compared.{ltb_same}

-- ---- sums

sum-rounds : (f : Format) (s t : Bool) (a b c : ℕ) → Rounds f (sum f s a t b c) (signed s a +ℤ signed t b) c
unfolding sum
sum-rounds f false false a b c = record { sign = false; size = a + b; value = refl; same = refl }
sum-rounds f true true a b c = record { sign = true; size = a + b; value = refl; same = neg_ℤ-+ℤ (pos a) (pos b) }
sum-rounds f false true a b c = go (ltb a b) (ltb→lt a b) (nltb→le a b)
  where
    go : (k : Bool) → (T k → a < b) → (T (not k) → b ≤ a) → Rounds f (cond k (round f true (b - a) c) (round f false (a - b) c)) (pos a -ℤ pos b) c
    go true h l = record { sign = true; size = b - a; value = refl; same = negative_of a b (le_of_lt (h tt)) }
    go false h l = record { sign = false; size = a - b; value = refl; same = difference_of a b (l tt) }
sum-rounds f true false a b c = go (ltb a b) (ltb→lt a b) (nltb→le a b) (ltb b a) (nltb→le b a)
  where
    go : (k : Bool) → (T k → a < b) → (T (not k) → b ≤ a) → (j : Bool) → (T (not j) → a ≤ b) → Rounds f (cond k (round f false (b - a) c) (round f j (a - b) c)) (neg_ℤ (pos a) +ℤ pos b) c
    go true h l j g = record { sign = false; size = b - a; value = refl; same = difference_of b a (le_of_lt (h tt)) ∙ +ℤ_comm (pos b) (neg_ℤ (pos a)) }
    go false h l true g = record { sign = true; size = a - b; value = refl; same = negative_of b a (l tt) ∙ +ℤ_comm (pos b) (neg_ℤ (pos a)) }
    go false h l false g = record { sign = false; size = a - b; value = refl; same = none (l tt) (g tt) }
      where
        equal : b ≤ a → a ≤ b → a ≡ b
        equal p q = omega arith

        none : b ≤ a → a ≤ b → pos (a - b) ≡ neg_ℤ (pos a) +ℤ pos b
        none p q = ap pos (zero-difference (equal p q)) ∙ sym (ap (λ (n : ℕ). neg_ℤ (pos a) +ℤ pos n) (sym (equal p q)) ∙ +ℤ_invl (pos a))
          where
            zero-difference : a ≡ b → a - b ≡ 0
            zero-difference e = omega arith

-- the same fractions over another denominator
sum_same : (f : Format) (s t : Bool) (x y k a b c : ℕ) → 0 < k → 0 < c → x * c ≡ a * k → y * c ≡ b * k → sum f s x t y k ≡ sum f s a t b c
unfolding sum
sum_same f s t x y k a b c K C p q =
    ap₂ (λ (m n : Float). cond (beq s t) m n) (round_same f s (x + y) k (a + b) c K C both)
    (ap₂ (λ (m n : Float). cond (ltb x y) m n) (round_same f t (y - x) k (b - a) c K C (minus-scale y x c b a k q p)) (round_same f (s && ltb y x) (x - y) k (a - b) c K C (minus-scale x y c a b k p q))
    ∙ ap₂ (λ (i j : Bool). cond i (round f t (b - a) c) (round f (s && j) (a - b) c)) (order x y a b p q) (order y x b a q p))
  where
    both : (x + y) * c ≡ (a + b) * k
    both = add-mul x y c ∙ ap₂ (λ (m n : ℕ). m + n) p q ∙ sym (add-mul a b k)

    order : (x y a b : ℕ) → x * c ≡ a * k → y * c ≡ b * k → ltb x y ≡ ltb a b
    order x y a b p q =
        ltb_same
        (λ (l : x < y). lt_of_mul-lt-mul_right k (subst₂ (λ (m n : ℕ). m < n) p q (mul-lt-mul_of_pos_right l C)))
        (λ (l : a < b). lt_of_mul-lt-mul_right c (subst₂ (λ (m n : ℕ). m < n) (sym p) (sym q) (mul-lt-mul_of_pos_right l K)))

add_at : (f : Format) (x y : Float) (s t : Bool) (a b c : ℕ) → 0 < c → HasValue x s a c → HasValue y t b c → add f x y ≡ sum f s a t b c
unfolding add
add_at f nan y s t a b c C p q = absurd p
add_at f (inf u) y s t a b c C p q = absurd p
add_at f (fin u m e) nan s t a b c C p q = absurd q
add_at f (fin u m e) (inf v) s t a b c C p q = absurd q
add_at f (fin u m e) (fin v n d) s t a b c C p q =
    ap₂ (λ (i j : Bool). sum f i (m * up e * down d) j (n * up d * down e) (down e * down d)) p.0 q.0
    ∙ sum_same f s t (m * up e * down d) (n * up d * down e) (down e * down d) a b c (mul-pos (down_pos e) (down_pos d)) C (over_first (m * up e) a c (down e) (down d) p.1) (over-second (n * up d) b c (down d) (down e) q.1)

pub add_rounds : (f : Format) {x y : Float} {a b : ℤ} {c : ℕ} → 0 < c → Is x a c → Is y b c → Rounds f (add f x y) (a +ℤ b) c
add_rounds f {x} {y} {a} {b} {c} C p q =
    let r = sum-rounds f p.sign q.sign p.size q.size c in
    record { sign = r.sign; size = r.size; value = add_at f x y p.sign q.sign p.size q.size c C p.value q.value ∙ r.value; same = r.same ∙ ap₂ (λ (m n : ℤ). m +ℤ n) p.same q.same }

-- ---- differences

neg_value : (x : Float) (s : Bool) (a c : ℕ) → HasValue x s a c → HasValue (neg x) (not s) a c
unfolding neg
neg_value nan s a c p = p
neg_value (inf t) s a c p = p
neg_value (fin t m e) s a c p = (ap not p.0, p.1)

neg-signed : (s : Bool) (a : ℕ) → signed (not s) a ≡ neg_ℤ (signed s a)
neg-signed false a = refl
neg-signed true a = sym (neg_ℤ-neg_ℤ (pos a))

pub neg_is : {x : Float} {a : ℤ} {c : ℕ} → Is x a c → Is (neg x) (neg_ℤ a) c
neg_is {x} {a} {c} p = record { sign = not p.sign; size = p.size; value = neg_value x p.sign p.size c p.value; same = neg-signed p.sign p.size ∙ ap neg_ℤ p.same }

pub sub-rounds : (f : Format) {x y : Float} {a b : ℤ} {c : ℕ} → 0 < c → Is x a c → Is y b c → Rounds f (sub f x y) (a -ℤ b) c
unfolding sub
sub-rounds f C p q = add_rounds f C p (neg_is q)

-- ---- products

pub mul_at : (f : Format) (x y : Float) (s t : Bool) (a c b d : ℕ) → 0 < c → 0 < d → HasValue x s a c → HasValue y t b d → mul f x y ≡ round f (unlike s t) (a * b) (c * d)
unfolding mul
mul_at f nan y s t a c b d C D p q = absurd p
mul_at f (inf u) y s t a c b d C D p q = absurd p
mul_at f (fin u m e) nan s t a c b d C D p q = absurd q
mul_at f (fin u m e) (inf v) s t a c b d C D p q = absurd q
mul_at f (fin u m e) (fin v n k) s t a c b d C D p q =
    ap₂ (λ (i j : Bool). round f (unlike i j) (m * up e * (n * up k)) (down e * down k)) p.0 q.0
    ∙ round_same f (unlike s t) (m * up e * (n * up k)) (down e * down k) (a * b) (c * d) (mul-pos (down_pos e) (down_pos k)) (mul-pos C D)
    (mul-mul-mul_comm (m * up e) (n * up k) c d ∙ ap₂ (λ (i j : ℕ). i * j) p.1 q.1 ∙ mul-mul-mul_comm a (down e) b (down k))

mul-signed : (s t : Bool) (a b : ℕ) → signed (unlike s t) (a * b) ≡ signed s a *ℤ signed t b
mul-signed false false a b = refl
mul-signed true false a b = sym (neg-mul (pos a) (pos b))
mul-signed false true a b = ap (λ (n : ℕ). neg_ℤ (pos n)) (mul_comm a b) ∙ sym (neg-mul (pos b) (pos a)) ∙ *ℤ_comm (neg_ℤ (pos b)) (pos a)
mul-signed true true a b = sym (neg-mul (pos a) (neg_ℤ (pos b)) ∙ ap neg_ℤ (*ℤ_comm (pos a) (neg_ℤ (pos b)) ∙ neg-mul (pos b) (pos a)) ∙ neg_ℤ-neg_ℤ (pos (b * a)) ∙ ap pos (mul_comm b a))

pub mul-rounds : (f : Format) {x y : Float} {a b : ℤ} {c d : ℕ} → 0 < c → 0 < d → Is x a c → Is y b d → Rounds f (mul f x y) (a *ℤ b) (c * d)
mul-rounds f {x} {y} {a} {b} {c} {d} C D p q = record {
  sign = unlike p.sign q.sign;
  size = p.size * q.size;
  value = mul_at f x y p.sign q.sign p.size c q.size d C D p.value q.value;
  same = mul-signed p.sign q.sign p.size q.size ∙ ap₂ (λ (m n : ℤ). m *ℤ n) p.same q.same;
}

-- ---- quotients by a whole number

pub unlike_false : (s : Bool) → unlike s false ≡ s
unlike_false false = refl
unlike_false true = refl

-- a value above 0 has a significand above 0
not_zero : (m u d n : ℕ) → 0 < n * d → m * u * 1 ≡ n * d → m ≡ 0 → ⊥
not_zero m u d n h e z = lt_irrefl 0 (subst (λ (k : ℕ). 0 < k) (sym e ∙ ap (λ (k : ℕ). k * u * 1) z ∙ ap (λ (k : ℕ). k * 1) (zero-mul u)) h)

quotient : (x y a c n d e : ℕ) → x * c ≡ a * e → y * 1 ≡ n * d → x * d * (n * c) ≡ a * (y * e)
quotient x y a c n d e p q =
    let l : x * d * (n * c) ≡ x * c * (n * d) = simp (mul_assoc, mul_comm, mul_left_comm) in
    let r : a * e * y ≡ a * (y * e) = simp (mul_assoc, mul_comm, mul_left_comm) in
    l ∙ ap₂ (λ (i j : ℕ). i * j) p (sym q ∙ mul-one y) ∙ r

div-at : (f : Format) (x y : Float) (s : Bool) (a c n : ℕ) → 0 < c → 0 < n → HasValue x s a c → HasValue y false n 1 → div f x y ≡ round f s a (n * c)
unfolding div
div-at f nan y s a c n C N p q = absurd p
div-at f (inf u) y s a c n C N p q = absurd p
div-at f (fin u m e) nan s a c n C N p q = absurd q
div-at f (fin u m e) (inf v) s a c n C N p q = absurd q
div-at f (fin u m e) (fin v l d) s a c n C N p q =
    let D : 0 < l * up d = subst (λ (k : ℕ). 0 < k) (sym q.1 ∙ mul-one (l * up d)) (mul-pos N (down_pos d)) in
    ap (λ (b : Bool). cond b (cond (eqb m 0) nan (inf (unlike u v))) (round f (unlike u v) (m * up e * down d) (l * up d * down e))) (ne_eqb l 0 (not_zero l (up d) (down d) n (mul-pos N (down_pos d)) q.1))
    ∙ ap₂ (λ (i j : Bool). round f (unlike i j) (m * up e * down d) (l * up d * down e)) p.0 q.0
    ∙ ap (λ (i : Bool). round f i (m * up e * down d) (l * up d * down e)) (unlike_false s)
    ∙ round_same f s (m * up e * down d) (l * up d * down e) a (n * c) (mul-pos D (down_pos e)) (mul-pos N C) (quotient (m * up e) (l * up d) a c n (down d) (down e) p.1 q.1)

pub not_negative : (s : Bool) (a n : ℕ) → 0 < n → signed s a ≡ pos n → (s ≡ false) × (a ≡ n)
not_negative false a n h e = (refl, ap nat_abs e)
not_negative true zero n h e = let z : 0 ≡ n = ap nat_abs e in absurd (omega arith)
not_negative true (suc a) n h e = absurd (pos-ne-negsuc n a (sym e))

pub div-rounds : (f : Format) {x y : Float} {a : ℤ} {c n : ℕ} → 0 < c → 0 < n → Is x a c → Is y (pos n) 1 → Rounds f (div f x y) a (n * c)
div-rounds f {x} {y} {a} {c} {n} C N p q =
    let e = not_negative q.sign q.size n N q.same in
    let v : HasValue y false n 1 = subst₂ (λ (s : Bool) (b : ℕ). HasValue y s b 1) e.0 e.1 q.value in
    record { sign = p.sign; size = p.size; value = div-at f x y p.sign p.size c n C N p.value v; same = p.same }

-- ---- whole numbers of a unit

-- the number that a value is, of a unit of which it is a whole number
pub is-wholes : {x : Float} {z : ℤ} {c : ℕ} → Is x z c → wholes c x ≡ z
is-wholes {x} {z} {c} p = of x p.value ∙ p.same
  where
    of : (x : Float) → HasValue x p.sign p.size c → wholes c x ≡ signed p.sign p.size
    of nan v = absurd v
    of (inf u) v = absurd v
    of (fin u m e) v = ap₂ signed v.0 (ap (λ (n : ℕ). n / down e) v.1 ∙ mul-div_cancel p.size (down_pos e))

pub exact-quanta : (f : Format) {x : Float} {z : ℤ} {c : ℕ} → T (fits f x) → Is x z c → Is x (signed_quanta f x) (2 ^ low f)
exact-quanta f {x} {z} {c} h p = of x h p.value
  where
    of : (x : Float) → T (fits f x) → HasValue x p.sign p.size c → Is x (signed_quanta f x) (2 ^ low f)
    of nan h v = absurd v
    of (inf u) h v = absurd v
    of (fin u m e) h v = record { sign = u; size = quanta f (fin u m e); value = (refl, quanta-exact f u m e h); same = refl }
