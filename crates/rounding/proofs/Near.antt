-- How far a rounded fraction is from the exact one: at most one part in 2 ^ prec, for a fraction in the range of normal values. In quanta both are whole numbers over one denominator. Assumes nothing.
use mathlib.Core.Path.{◌≡◌, refl, sym, ap, ap₂, ◌∙◌, subst, subst₂}
use mathlib.Core.Bool.{Bool, true, false, not}
use mathlib.Core.List.{[], ◌∷◌}
use Prim.Native.Nat.{ℕ, zero, suc, ◌+◌, ◌-◌, ◌*◌, ◌/◌, ◌%◌, ◌^◌, ◌≤◌, ◌<◌, zero-le, compare, Ordering, suc-le-suc}
use native.Mathlib.Nat.{le_trans, le_of_eq, le_of_lt, add-le-add, mul-one, one-mul, zero-mul, mul_assoc, mul_comm, mul_left_comm, mul_right_comm, add-mul, le_of_mul-le-mul_right, mul-sub, mul-pos, mul-le-mul_right, mul-lt-mul_of_pos_right, lt_of_mul-lt-mul_right, div-add-mod', mod-lt, div-mul-le_self, le_refl}
use native.Mathlib.Omega.{arith}
use lib.Dec.{T, is_le, compare_is_eq, leb, leb→le, nleb→lt, eqb→eq, lit<}
use lib.IntN.{ℤ, pos, neg_ℤ, nat_abs, ◌+ℤ◌, ◌-ℤ◌, ◌*ℤ◌, neg_ℤ-+ℤ, +ℤ_invr, zero-*ℤ}
use lib.Pow.{pow-add, pow_pos, pow_mono}
use lib.Ieee.{Float, Format, binary32, binary64, prec, emax, low, size, nearest, round, add}
use lib.Ieee.Digits.{size_reaches}
use lib.Ieee.Fits.{round_is}
use lib.Ieee.Exact.{HasValue, units_val}
use lib.Ieee.Nearest.{closest}
use Rattle.integers.proofs.Ring.{neg-mul, difference_of, negative_of}
use Rattle.integers.proofs.Size.{size-neg, size_product}
use Rattle.integers.proofs.Polynomial.{at, minus, times, identity, vanishes}
use Rattle.rounding.specs.Fraction.{signed, Is, signed_quanta, Rounds, Near}
use Rattle.rounding.proofs.Quantum.{rounds}
use Rattle.rounding.proofs.Rounded.{add_rounds, is-wholes}
use Rattle.rounding.proofs.Exactness.{size_of, exact}

-- ---- a / b to the nearest whole number is off by at most a half

-- a and b differ by at most u / 2
abbrev HalfApart : ℕ → ℕ → ℕ → Type 0
HalfApart a b u = (2 * a ≤ 2 * b + u) × (2 * b ≤ 2 * a + u)

off-by : (q r b : ℕ) (o : Ordering) → (T (is_le o) → r * 2 ≤ b) → (T (not (is_le o)) → b < r * 2) → (T (compare_is_eq o) → r * 2 ≡ b) → r < b
    → HalfApart (nearest q o * b) (q * b + r) b
off-by q r b Ordering.lt h k e l = let g = h tt in omega arith
off-by q r b Ordering.eq h k e l = let g = e tt in go (q % 2) (omega arith)
  where
    go : (t : ℕ) → t ≤ 1 → HalfApart ((q + t) * b) (q * b + r) b
    go zero m = let g = e tt in omega arith
    go (suc zero) m = let g = e tt in omega arith
    go (suc (suc t)) m = absurd (omega arith)
off-by q r b Ordering.gt h k e l = let g = k tt in omega arith

closest-near : (a b : ℕ) → 0 < b → HalfApart (closest a b * b) a b
closest-near a b B =
    subst (λ (x : ℕ). HalfApart (closest a b * b) x b) (div-add-mod' a b)
    (off-by (a / b) (a % b) b (compare (a % b * 2) b) (leb→le (a % b * 2) b) (nleb→lt (a % b * 2) b) (eqb→eq (a % b * 2) b) (mod-lt a B))

-- ---- `round`: of n / den quanta it drops k digits and keeps the closest number of 2 ^ k quanta

-- 2 ^ k is at most the fraction's 2 ^ p'th part, where it has p + k digits
last-digit : (p n den k : ℕ) → (0 < k → 2 ^ (p + k) ≤ n / den) → 2 ^ p * den ≤ n → 2 ^ p * (den * 2 ^ k) ≤ n
last-digit p n den zero f normal = le_trans (le_of_eq (ap (λ (x : ℕ). 2 ^ p * x) (mul-one den))) normal
last-digit p n den (suc k) f normal =
    le_trans (le_of_eq (sym (ap (λ (x : ℕ). x * den) (pow-add 2 p (suc k)) ∙ mul_assoc (2 ^ p) (2 ^ suc k) den ∙ ap (λ (x : ℕ). 2 ^ p * x) (mul_comm (2 ^ suc k) den))))
    (le_trans (mul-le-mul_right den (f (omega arith))) (div-mul-le_self n den))

dropped : (z p k : ℕ) → 0 < p → k ≡ z - p → 0 < k → p - 1 + k < z
dropped z p k h e l = omega arith

-- a and b differ by at most n / p
record PartApart (a b n p : ℕ) : Type 0 where
  above : a * p ≤ b * p + n
  below : b * p ≤ a * p + n

close : (a b u n h : ℕ) → HalfApart a b u → h * u ≤ n → PartApart a b n (2 * h)
close a b u n h w l = record { above = one a b w.0; below = one b a w.1 }
  where
    one : (a b : ℕ) → 2 * a ≤ 2 * b + u → a * (2 * h) ≤ b * (2 * h) + n
    one a b k =
        let x : a * (2 * h) ≡ 2 * a * h = simp (mul_assoc, mul_comm, mul_left_comm) in
        let y : 2 * b * h ≡ b * (2 * h) = simp (mul_assoc, mul_comm, mul_left_comm) in
        le_trans (le_of_eq x) (le_trans (mul-le-mul_right h k) (le_trans (le_of_eq (add-mul (2 * b) u h)) (add-le-add (le_of_eq y) (le_trans (le_of_eq (mul_comm u h)) l))))

digits-some : (f : Format) → 0 < prec f
digits-some binary32 = lit< tt
digits-some binary64 = lit< tt

twice : (f : Format) → 2 * 2 ^ (prec f - 1) ≡ 2 ^ prec f
twice binary32 = refl
twice binary64 = refl

module _ (f : Format) (num den : ℕ) (positive : 0 < den) (normal : 2 ^ (prec f - 1) * den ≤ num * 2 ^ low f) where
  abbrev n : ℕ
  n = num * 2 ^ low f

  abbrev k : ℕ
  k = size (n / den) - prec f

  -- the number of quanta that is kept
  abbrev grid : ℕ
  grid = closest n (den * 2 ^ k) * 2 ^ k

  half-off : HalfApart (grid * den) n (den * 2 ^ k)
  half-off =
      subst (λ (x : ℕ). HalfApart x n (den * 2 ^ k)) (ap (λ (x : ℕ). closest n (den * 2 ^ k) * x) (mul_comm den (2 ^ k)) ∙ sym (mul_assoc (closest n (den * 2 ^ k)) (2 ^ k) den))
      (closest-near n (den * 2 ^ k) (mul-pos positive (pow_pos k)))

  last-small : 2 ^ (prec f - 1) * (den * 2 ^ k) ≤ n
  last-small = last-digit (prec f - 1) n den k (λ l. size_reaches (n / den) (prec f - 1 + k) (dropped (size (n / den)) (prec f) k (digits-some f) refl l)) normal

  grid-close : PartApart (grid * den) n n (2 ^ prec f)
  grid-close = subst (λ (p : ℕ). PartApart (grid * den) n n p) (twice f) (close (grid * den) n (den * 2 ^ k) n (2 ^ (prec f - 1)) half-off last-small)

  inside : (bound : ℕ) → n < bound * den → grid < 2 * bound
  inside bound h = lt_of_mul-lt-mul_right den (under (grid * den) n (den * 2 ^ k) (bound * den) (2 * bound * den) half-off.0 part h (mul_assoc 2 bound den))
    where
      part : den * 2 ^ k ≤ n
      part = le_trans (le_of_eq (sym (one-mul (den * 2 ^ k)))) (le_trans (mul-le-mul_right (den * 2 ^ k) (pow_pos (prec f - 1))) last-small)

      under : (g m u b c : ℕ) → 2 * g ≤ 2 * m + u → u ≤ m → m < b → c ≡ 2 * b → g < c
      under g m u b c t v l e = omega arith

  grid-value : (s : Bool) → n < 2 ^ (low f + emax f) * den → HasValue (round f s num den) s grid (2 ^ low f)
  grid-value s h =
      subst (λ (x : Float). HasValue x s grid (2 ^ low f)) (sym (round_is f s num den))
      (units_val f s (closest n (den * 2 ^ k)) k (subst (λ (b : ℕ). grid < b) (next (low f) (emax f)) (inside (2 ^ (low f + emax f)) h)))
    where
      next : (l e : ℕ) → 2 * 2 ^ (l + e) ≡ 2 ^ (l + suc e)
      next l e = sym (pow-add 2 1 (l + e)) ∙ ap (λ (i : ℕ). 2 ^ i) (omega arith)

-- 0 is rounded to itself
zero-kept : (f : Format) (s : Bool) (c : ℕ) → 0 < c → HasValue (round f s 0 c) s 0 (2 ^ low f)
zero-kept f s c C = rounds f s 0 c 0 C (zero-mul (2 ^ low f) ∙ sym (zero-mul c)) (record { m = 0; j = 0; short = pow_pos (prec f); is = refl; inside = pow_pos (low f + suc (emax f)) })

-- ---- the same of signed numbers

signed-zero : (s : Bool) → signed s 0 ≡ pos 0
signed-zero false = refl
signed-zero true = refl

gap : (a b n p : ℕ) → PartApart a b n p → nat_abs (pos a -ℤ pos b) * p ≤ n
gap a b n p c = go (leb b a) (leb→le b a) (nleb→lt b a)
  where
    less : (a b : ℕ) → a * p ≤ b * p + n → (a - b) * p ≤ n
    less a b h = le_trans (le_of_eq (mul_comm (a - b) p ∙ mul-sub p a b ∙ ap₂ (λ (x y : ℕ). x - y) (mul_comm p a) (mul_comm p b))) (take (a * p) (b * p) h)
      where
        take : (x y : ℕ) → x ≤ y + n → x - y ≤ n
        take x y h = omega arith

    go : (t : Bool) → (T t → b ≤ a) → (T (not t) → a < b) → nat_abs (pos a -ℤ pos b) * p ≤ n
    go true h l = subst (λ (z : ℤ). nat_abs z * p ≤ n) (difference_of a b (h tt)) (less a b c.above)
    go false h l = subst (λ (z : ℤ). nat_abs z * p ≤ n) (negative_of a b (le_of_lt (l tt))) (subst (λ (m : ℕ). m * p ≤ n) (sym (size-neg (pos (b - a)))) (less b a c.below))

gap_signed : (s : Bool) (a b n p : ℕ) → PartApart a b n p → nat_abs (signed s a -ℤ signed s b) * p ≤ n
gap_signed false a b n p c = gap a b n p c
gap_signed true a b n p c = subst (λ (m : ℕ). m * p ≤ n) (sym (size-neg (pos a -ℤ pos b)) ∙ ap nat_abs (neg_ℤ-+ℤ (pos a) (neg_ℤ (pos b)))) (gap a b n p c)

pub signed-times : (s : Bool) (a c : ℕ) → signed s (a * c) ≡ signed s a *ℤ pos c
signed-times false a c = refl
signed-times true a c = sym (neg-mul (pos a) (pos c))

module _ (f : Format) {x : Float} {z : ℤ} {c : ℕ} where
  -- x is a whole number of quanta
  counted : (n : ℤ) → Is x n (2 ^ low f) → nat_abs (n *ℤ pos c -ℤ z *ℤ pos (2 ^ low f)) * 2 ^ prec f ≤ nat_abs z * 2 ^ low f → Near f x z c
  counted n is e =
      let same : n ≡ signed_quanta f x = sym (is-wholes is) in
      record {
        is = subst (λ (y : ℤ). Is x y (2 ^ low f)) same is;
        error = subst (λ (y : ℤ). nat_abs (y *ℤ pos c -ℤ z *ℤ pos (2 ^ low f)) * 2 ^ prec f ≤ nat_abs z * 2 ^ low f) same e;
      }

  -- and that is the fraction
  no_error : (n : ℤ) → Is x n (2 ^ low f) → n *ℤ pos c ≡ z *ℤ pos (2 ^ low f) → Near f x z c
  no_error n is e =
      let l = z *ℤ pos (2 ^ low f) in
      counted n is (le_trans (le_of_eq (ap (λ (k : ℤ). nat_abs k * 2 ^ prec f) (ap (λ (k : ℤ). k -ℤ l) e ∙ +ℤ_invr l) ∙ zero-mul (2 ^ prec f))) zero-le)

module _ (f : Format) {x : Float} {z : ℤ} {c : ℕ} (r : Rounds f x z c) (C : 0 < c) where
  near-zero : r.size ≡ 0 → Near f x z c
  near-zero e =
      let none : z ≡ pos 0 = sym r.same ∙ ap (signed r.sign) e ∙ signed-zero r.sign in
      let value = subst (λ (y : Float). HasValue y r.sign 0 (2 ^ low f)) (sym (r.value ∙ ap (λ (n : ℕ). round f r.sign n c) e)) (zero-kept f r.sign c C) in
      no_error f (pos 0) (record { sign = r.sign; size = 0; value = value; same = signed-zero r.sign })
      (zero-*ℤ (pos c) ∙ sym (ap (λ (y : ℤ). y *ℤ pos (2 ^ low f)) none ∙ zero-*ℤ (pos (2 ^ low f))))

  near-normal : 2 ^ (prec f - 1) * c ≤ r.size * 2 ^ low f → r.size * 2 ^ low f < 2 ^ (low f + emax f) * c → Near f x z c
  near-normal normal small =
      let s = r.sign in
      let m = r.size in
      let g = grid f m c C normal in
      counted f (signed s g)
      (record { sign = s; size = g; value = subst (λ (y : Float). HasValue y s g (2 ^ low f)) (sym r.value) (grid-value f m c C normal s small); same = refl })
      (subst₂ (λ (u : ℤ) (v : ℕ). nat_abs u * 2 ^ prec f ≤ v)
      (ap₂ (λ (u v : ℤ). u -ℤ v) (signed-times s g c) (signed-times s m (2 ^ low f) ∙ ap (λ (u : ℤ). u *ℤ pos (2 ^ low f)) r.same))
      (ap (λ (a : ℕ). a * 2 ^ low f) (size_of r))
      (gap_signed s (g * c) (m * 2 ^ low f) (m * 2 ^ low f) (2 ^ prec f) (grid-close f m c C normal)))

  pub near : (0 < nat_abs z → 2 ^ (prec f - 1) * c ≤ nat_abs z * 2 ^ low f) → nat_abs z * 2 ^ low f < 2 ^ (low f + emax f) * c → Near f x z c
  near normal small = go r.size refl
    where
      go : (m : ℕ) → r.size ≡ m → Near f x z c
      go zero e = near-zero e
      go (suc m) e =
          let same : nat_abs z ≡ r.size = sym (size_of r) in
          near-normal
          (subst (λ (a : ℕ). 2 ^ (prec f - 1) * c ≤ a * 2 ^ low f) same (normal (subst (λ (a : ℕ). 0 < a) (sym e ∙ size_of r) (suc-le-suc zero-le))))
          (subst (λ (a : ℕ). a * 2 ^ low f < 2 ^ (low f + emax f) * c) same small)

-- ---- sums, which are exact below the normal values

half_prec : (f : Format) → prec f - 1 ≤ prec f
half_prec f = omega arith

pub add-near : (f : Format) {x y : Float} {a b : ℤ} → Is x a (2 ^ low f) → Is y b (2 ^ low f) → nat_abs (a +ℤ b) < 2 ^ (low f + emax f) → Near f (add f x y) (a +ℤ b) (2 ^ low f)
add-near f {x} {y} {a} {b} p q small = go (leb (2 ^ prec f) (nat_abs z)) (leb→le (2 ^ prec f) (nat_abs z)) (nleb→lt (2 ^ prec f) (nat_abs z))
  where
    z : ℤ
    z = a +ℤ b

    r : Rounds f (add f x y) z (2 ^ low f)
    r = add_rounds f (pow_pos (low f)) p q

    go : (t : Bool) → (T t → 2 ^ prec f ≤ nat_abs z) → (T (not t) → nat_abs z < 2 ^ prec f) → Near f (add f x y) z (2 ^ low f)
    go true h l =
        near f r (pow_pos (low f)) (λ some. mul-le-mul_right (2 ^ low f) (le_trans (pow_mono (half_prec f)) (h tt))) (mul-lt-mul_of_pos_right small (pow_pos (low f)))
    go false h l = no_error f z (exact f (low f) r (l tt) (le_refl (low f))) refl

-- ---- the error in quanta

pub scale_out : (e p b g : ℕ) → 0 < g → e * g * p ≤ b * g → e * p ≤ b
scale_out e p b g G h = le_of_mul-le-mul_right (le_trans (le_of_eq (mul_right_comm e p g)) h) G

factor : (n z l : ℤ) → n *ℤ l -ℤ z *ℤ l ≡ (n -ℤ z) *ℤ l
unfolding vanishes
factor n z l = identity (minus (times (at 0) (at 2)) (times (at 1) (at 2))) (times (minus (at 0) (at 1)) (at 2)) (n ∷ z ∷ l ∷ []) refl

pub quanta-error : (f : Format) {x : Float} {z : ℤ} → Near f x z (2 ^ low f) → nat_abs (signed_quanta f x -ℤ z) * 2 ^ prec f ≤ nat_abs z
quanta-error f {x} {z} r =
    let n = signed_quanta f x in
    let l = 2 ^ low f in
    scale_out (nat_abs (n -ℤ z)) (2 ^ prec f) (nat_abs z) l (pow_pos (low f))
    (subst (λ (a : ℕ). a * 2 ^ prec f ≤ nat_abs z * l) (ap nat_abs (factor n z (pos l)) ∙ size_product (n -ℤ z) (pos l)) r.error)
