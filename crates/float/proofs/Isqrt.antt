-- Laws of `isqrt` and `nearest_root`: what the first cuts off, that it is the only such number, and which number the second picks. Assumes nothing.
use mathlib.Core.Path.{◌≡◌, refl, sym, ap, ◌∙◌, subst}
use mathlib.Core.Bool.{Bool, true, false, not, cond}
use Prim.Native.Nat.{ℕ, zero, suc, ◌+◌, ◌-◌, ◌*◌, ◌/◌, ◌^◌, ◌≤◌, ◌<◌, compare, Ordering}
use native.Mathlib.Nat.{add-zero, zero-add, add_assoc, mul_assoc, mul-one, mul-le-mul, mul-le-mul_left, mul-lt-mul_of_pos_right, lt_of_lt_of_le, lt_of_le_of_lt, lt_of_not-le, not-le_of_lt, le_of_suc-le-suc, le_antisymm, le-mul_of_pos_right, two-pow-succ, mul-div_cancel, mul-pos}
use native.Mathlib.Omega.{arith}
use lib.Dec.{T, leb, is_le, compare_is_eq, leb→le, nleb→lt, eqb→eq}
use lib.Pow.{pow_pos}
use lib.Ieee.{size, nearest}
use lib.Ieee.Digits.{size-lt}
use Rattle.float.specs.Root.{raise, isqrt, nearest_root}
use Rattle.float.specs.Digits.{Rooted}
use Rattle.float.proofs.Digit.{sq_add-one}

-- ---- squares

pub sq_le : {a b : ℕ} → a ≤ b → a * a ≤ b * b
sq_le h = mul-le-mul h h

pub sq_lt : {a b : ℕ} → a < b → a * a < b * b
sq_lt {a} {b} h = lt_of_le_of_lt (mul-le-mul_left a (below h)) (mul-lt-mul_of_pos_right h (above h))
  where
    below : a < b → a ≤ b
    below h = omega arith

    above : a < b → 0 < b
    above h = omega arith

pub sq_lt_back : (a b : ℕ) → a * a < b * b → a < b
sq_lt_back a b h = lt_of_not-le (λ (g : b ≤ a). not-le_of_lt h (sq_le g))

pub sq_le_back : (a b : ℕ) → a * a ≤ b * b → a ≤ b
sq_le_back a b h = le_of_suc-le-suc (lt_of_not-le (λ (g : suc b ≤ a). not-le_of_lt (sq_lt g) h))

-- ---- r is √n, cut to a whole number

pub record Floor (n r : ℕ) : Type 0 where
  pub low : r * r ≤ n
  pub high : n < (r + 1) * (r + 1)

floor_le : {n a b : ℕ} → Floor n a → Floor n b → a ≤ b
floor_le {n} {a} {b} x y = go (sq_lt_back a (b + 1) (lt_of_le_of_lt x.low y.high))
  where
    go : a < b + 1 → a ≤ b
    go h = omega arith

pub floor_unique : {n a b : ℕ} → Floor n a → Floor n b → a ≡ b
floor_unique x y = le_antisymm (floor_le x y) (floor_le y x)

raise-floor : (k r n : ℕ) → r * r ≤ n → n < (r + 2 ^ k) * (r + 2 ^ k) → Floor n (raise k r n)
unfolding raise
raise-floor zero r n l h = record { low = l; high = h }
raise-floor (suc k) r n l h = go (leb ((r + 2 ^ k) * (r + 2 ^ k)) n) (leb→le ((r + 2 ^ k) * (r + 2 ^ k)) n) (nleb→lt ((r + 2 ^ k) * (r + 2 ^ k)) n) (raise-floor k)
  where
    go : (b : Bool) → (T b → (r + 2 ^ k) * (r + 2 ^ k) ≤ n) → (T (not b) → n < (r + 2 ^ k) * (r + 2 ^ k))
        → ((r : ℕ) (n : ℕ) → r * r ≤ n → n < (r + 2 ^ k) * (r + 2 ^ k) → Floor n (raise k r n)) → Floor n (raise k (r + cond b (2 ^ k) 0) n)
    go true x y ih =
        ih (r + 2 ^ k) n (x tt)
        (subst (λ (a : ℕ). n < a * a) (ap (λ (a : ℕ). r + a) (two-pow-succ k) ∙ sym (add_assoc r (2 ^ k) (2 ^ k))) h)
    go false x y ih = subst (λ (a : ℕ). Floor n (raise k a n)) (sym (add-zero r)) (ih r n l (y tt))

pub isqrt-floor : (n : ℕ) → Floor n (isqrt n)
unfolding isqrt
isqrt-floor n =
    raise-floor (size n) 0 n (none n)
    (subst (λ (a : ℕ). n < a * a) (sym (zero-add (2 ^ size n))) (lt_of_lt_of_le (size-lt n) (le-mul_of_pos_right (2 ^ size n) (pow_pos (size n)))))
  where
    none : (n : ℕ) → 0 ≤ n
    none n = omega arith

-- what the digit recurrence carries, √n cut and n less its square, is that
pub rooted_floor : {n r s : ℕ} → Rooted n r s → Floor n r
rooted_floor {n} {r} {s} h = record { low = omega arith; high = omega (arith, sq_add-one r) }

-- ---- which number `nearest_root` picks

-- what `compare` says
pub compare_lt : (a b : ℕ) → a < b → compare a b ≡ Ordering.lt
compare_lt a b h = go (compare a b) (nleb→lt a b) (eqb→eq a b)
  where
    no : b < a → a < b → ⊥
    no x y = omega arith

    same : a ≡ b → a < b → ⊥
    same x y = omega arith

    go : (o : Ordering) → (T (not (is_le o)) → b < a) → (T (compare_is_eq o) → a ≡ b) → o ≡ Ordering.lt
    go Ordering.lt x y = refl
    go Ordering.eq x y = absurd (same (y tt) h)
    go Ordering.gt x y = absurd (no (x tt) h)

pub compare_gt : (a b : ℕ) → b < a → compare a b ≡ Ordering.gt
compare_gt a b h = go (compare a b) (leb→le a b)
  where
    no : a ≤ b → b < a → ⊥
    no x y = omega arith

    go : (o : Ordering) → (T (is_le o) → a ≤ b) → o ≡ Ordering.gt
    go Ordering.lt x = absurd (no (x tt) h)
    go Ordering.eq x = absurd (no (x tt) h)
    go Ordering.gt x = refl

-- `nearest_root` at the q that it cuts to
nearest-at : (n k q : ℕ) → Floor (n / (2 ^ k * 2 ^ k)) q → nearest_root n k ≡ nearest q (compare (4 * n) ((2 * q + 1) * (2 * q + 1) * (2 ^ k * 2 ^ k)))
unfolding nearest_root
nearest-at n k q h =
    ap (λ (x : ℕ). nearest x (compare (4 * n) ((2 * x + 1) * (2 * x + 1) * (2 ^ k * 2 ^ k)))) (floor_unique (isqrt-floor (n / (2 ^ k * 2 ^ k))) h)

pub nearest-low : (n k q : ℕ) → Floor (n / (2 ^ k * 2 ^ k)) q → 4 * n < (2 * q + 1) * (2 * q + 1) * (2 ^ k * 2 ^ k) → nearest_root n k ≡ q
nearest-low n k q h l = nearest-at n k q h ∙ ap (nearest q) (compare_lt (4 * n) ((2 * q + 1) * (2 * q + 1) * (2 ^ k * 2 ^ k)) l)

pub nearest-high : (n k q : ℕ) → Floor (n / (2 ^ k * 2 ^ k)) q → (2 * q + 1) * (2 * q + 1) * (2 ^ k * 2 ^ k) < 4 * n → nearest_root n k ≡ suc q
nearest-high n k q h l = nearest-at n k q h ∙ ap (nearest q) (compare_gt (4 * n) ((2 * q + 1) * (2 * q + 1) * (2 ^ k * 2 ^ k)) l)

pub sq_mid : (q : ℕ) → (2 * q + 1) * (2 * q + 1) ≡ 4 * (q * q) + 4 * q + 1
sq_mid q = omega (arith, sq_add-one (2 * q), twice q)
  where
    twice : (q : ℕ) → 2 * q * (2 * q) ≡ 4 * (q * q)
    twice q = native.Mathlib.Nat.mul-mul-mul_comm 2 q 2 q

-- ---- of N, at any number k of digits that follow: from the root r and N - r ^ 2 = s, the nearest is r where s ≤ r, and r + 1 where s is more. A tie cannot be: 4 * N is even, and (2 * r + 1) ^ 2 is odd

scaled-floor : (N k r : ℕ) → Floor N r → Floor (N * (2 ^ k * 2 ^ k) / (2 ^ k * 2 ^ k)) r
scaled-floor N k r h = subst (λ (x : ℕ). Floor x r) (sym (mul-div_cancel N (mul-pos (pow_pos k) (pow_pos k)))) h

pub picks-low : (N k r s : ℕ) → Rooted N r s → s ≤ r → nearest_root (N * (2 ^ k * 2 ^ k)) k ≡ r
picks-low N k r s h l =
    nearest-low (N * (2 ^ k * 2 ^ k)) k r (scaled-floor N k r (rooted_floor h))
    (subst (λ (x : ℕ). x < (2 * r + 1) * (2 * r + 1) * (2 ^ k * 2 ^ k)) (mul_assoc 4 N (2 ^ k * 2 ^ k)) (mul-lt-mul_of_pos_right (mid h l) (mul-pos (pow_pos k) (pow_pos k))))
  where
    mid : Rooted N r s → s ≤ r → 4 * N < (2 * r + 1) * (2 * r + 1)
    mid h l = omega (arith, sq_mid r)

pub picks-high : (N k r s : ℕ) → Rooted N r s → r < s → nearest_root (N * (2 ^ k * 2 ^ k)) k ≡ suc r
picks-high N k r s h l =
    nearest-high (N * (2 ^ k * 2 ^ k)) k r (scaled-floor N k r (rooted_floor h))
    (subst (λ (x : ℕ). (2 * r + 1) * (2 * r + 1) * (2 ^ k * 2 ^ k) < x) (mul_assoc 4 N (2 ^ k * 2 ^ k)) (mul-lt-mul_of_pos_right (mid h l) (mul-pos (pow_pos k) (pow_pos k))))
  where
    mid : Rooted N r s → r < s → (2 * r + 1) * (2 * r + 1) < 4 * N
    mid h l = omega (arith, sq_mid r)

-- ---- how large the root is

pub floor_ge : {n r : ℕ} (a : ℕ) → Floor n r → a * a ≤ n → a ≤ r
floor_ge {n} {r} a h l = go (sq_lt_back a (r + 1) (lt_of_le_of_lt l h.high))
  where
    go : a < r + 1 → a ≤ r
    go h = omega arith

pub floor_lt : {n r : ℕ} (a : ℕ) → Floor n r → n < a * a → r < a
floor_lt {n} {r} a h l = sq_lt_back r a (lt_of_le_of_lt h.low l)

-- ---- the root of any n, with what it leaves

pub isqrt_rooted : (n : ℕ) → Rooted n (isqrt n) (n - isqrt n * isqrt n)
isqrt_rooted n = go (isqrt-floor n).low (isqrt-floor n).high (sq_add-one (isqrt n))
  where
    go : isqrt n * isqrt n ≤ n → n < (isqrt n + 1) * (isqrt n + 1) → (isqrt n + 1) * (isqrt n + 1) ≡ isqrt n * isqrt n + 2 * isqrt n + 1 → Rooted n (isqrt n) (n - isqrt n * isqrt n)
    go a b c = record { whole = omega arith; small = omega arith }

abbrev pub at_zero : (N : ℕ) → N * (2 ^ 0 * 2 ^ 0) ≡ N
at_zero N = mul-one N

-- the digits dropped, 2 ^ k units each, do not change which multiple is nearest
pub nearest-scale : (N k : ℕ) → nearest_root (N * (2 ^ k * 2 ^ k)) k ≡ nearest_root N 0
nearest-scale N k = go (leb (N - isqrt N * isqrt N) (isqrt N)) (leb→le (N - isqrt N * isqrt N) (isqrt N)) (nleb→lt (N - isqrt N * isqrt N) (isqrt N))
  where
    go : (b : Bool) → (T b → N - isqrt N * isqrt N ≤ isqrt N) → (T (not b) → isqrt N < N - isqrt N * isqrt N) → nearest_root (N * (2 ^ k * 2 ^ k)) k ≡ nearest_root N 0
    go true x y =
        picks-low N k (isqrt N) (N - isqrt N * isqrt N) (isqrt_rooted N) (x tt)
        ∙ sym (ap (λ (z : ℕ). nearest_root z 0) (sym (at_zero N)) ∙ picks-low N 0 (isqrt N) (N - isqrt N * isqrt N) (isqrt_rooted N) (x tt))
    go false x y =
        picks-high N k (isqrt N) (N - isqrt N * isqrt N) (isqrt_rooted N) (y tt)
        ∙ sym (ap (λ (z : ℕ). nearest_root z 0) (sym (at_zero N)) ∙ picks-high N 0 (isqrt N) (N - isqrt N * isqrt N) (isqrt_rooted N) (y tt))
