-- `root` is what IEEE 754 asks for: `root_correct`, that it meets `IsRoot` at each value of the format, in either format, and `root_unique`, that nothing else does.
-- A value that fits is m * 2 ^ j quanta with m below 2 ^ prec. So n = m * 2 ^ (j + low) is N * 4 ^ K with √N of `prec` digits, its root is rounded to a multiple of 2 ^ K, and a tie cannot be:
-- 4 * N is even, and the square of an odd number, (2 * q + 1) ^ 2, is not. Assumes nothing.
use mathlib.Core.Path.{◌≡◌, refl, sym, ap, ◌∙◌, subst}
use mathlib.Core.Bool.{Bool, true, false, not, ◌&&◌, cond}
use Prim.Native.Nat.{ℕ, zero, suc, ◌+◌, ◌-◌, ◌*◌, ◌/◌, ◌%◌, ◌^◌, ◌≤◌, ◌<◌}
use native.Mathlib.Nat.{add-zero, add-mul, mul_assoc, mul_comm, mul-one, one-mul, zero-mul, mul_right_comm, mul-mul-mul_comm, mul-div_cancel, mul-pos, mul-le-mul_left, mul-le-mul_right, mul-lt-mul_of_pos_right, lt_of_mul-lt-mul_right, le-mul_of_pos_right, le_trans, le_of_eq, le_of_lt, le_refl, le-suc, sub-le, lt_of_lt_of_le, lt_of_le_of_lt, lt_of_not-le, not-le_of_lt, le_of_suc-le-suc, le_antisymm, lt_irrefl, lt_trans, zero-lt-suc, pow-succ', two-mul}
use native.Mathlib.Omega.{arith}
use lib.IntN.{ℤ, pos, negsuc}
use lib.Dec.{T, leb, ltb, eqb, leb→le, nleb→lt, ltb→lt, lt→ltb, lit≤}
use lib.Pow.{pow-add, pow_pos, pow_mono, pow-lt, shl_lt}
use lib.Ieee.{Float, nan, inf, fin, Format, binary32, binary64, prec, emax, low, up, down, size, odd, units, fits, hid, top, of_bits, to_bits}
use lib.Ieee.Digits.{size-lt, size-le, size_reaches, back}
use lib.Ieee.Fits.{two, down_pos, odd-fits, and_l, and_r}
use lib.Ieee.Bits.{is_true, of_bits-to_bits}
use lib.Ieee.Positive.{positive}
use Rattle.float.specs.Root.{isqrt, nearest_root, root_units, root, quanta}
use Rattle.float.specs.Digits.{Rooted}
use Rattle.float.specs.Nearest.{Nearer, NearestRoot, IsRoot}
use Rattle.float.proofs.Digit.{sq_add-one}
use Rattle.float.proofs.Isqrt.{sq_le, sq_lt, sq_mid, at_zero, isqrt-floor, isqrt_rooted, picks-low, picks-high, floor_ge, floor_lt}
use Rattle.float.proofs.Pack.{root-scaled}
use Rattle.float.proofs.Read.{odd_form}

-- ---- which number is nearest, in units of u = 2 ^ K: n is N * u ^ 2, with the root r of N and what it leaves, s

module _ (u N : ℕ) (u-pos : 0 < u) where
  uu_pos : 0 < u * u
  uu_pos = mul-pos u-pos u-pos

  four : 4 * N * (u * u) ≡ 4 * (N * (u * u))
  four = mul_assoc 4 N (u * u)

  -- √n is below the midpoint of q * u and of each greater multiple of u
  above : (q c : ℕ) → 4 * N < (2 * q + 1) * (2 * q + 1) → q * u < c * u → 4 * (N * (u * u)) < (q * u + c * u) * (q * u + c * u)
  above q c h l =
      subst (λ (x : ℕ). x < (q * u + c * u) * (q * u + c * u)) four
      (subst (λ (x : ℕ). 4 * N * (u * u) < x) (sym (mul-mul-mul_comm (q + c) u (q + c) u) ∙ ap (λ (x : ℕ). x * x) (add-mul q c u))
      (mul-lt-mul_of_pos_right (lt_of_lt_of_le h (sq_le (more q c (lt_of_mul-lt-mul_right u l)))) uu_pos))
    where
      more : (q c : ℕ) → q < c → 2 * q + 1 ≤ q + c
      more q c g = omega arith

  -- and above that of r * u and of any lesser number, where the root is cut to r
  below-low : (r s y : ℕ) → Rooted N r s → y < r * u → (r * u + y) * (r * u + y) < 4 * (N * (u * u))
  below-low r s y h l =
      lt_of_lt_of_le (sq_lt (twice (r * u) y l))
      (le_trans (le_of_eq (ap (λ (x : ℕ). x * x) (sym (add-mul r r u)) ∙ mul-mul-mul_comm (r + r) u (r + r) u))
      (le_trans (mul-le-mul_right (u * u) (square h)) (le_of_eq four)))
    where
      twice : (a b : ℕ) → b < a → a + b < a + a
      twice a b g = omega arith

      square : Rooted N r s → (r + r) * (r + r) ≤ 4 * N
      square h = omega (arith, ap (λ (x : ℕ). x * x) (sym (two-mul r)), mul-mul-mul_comm 2 r 2 r)

  -- where it is moved up to r + 1, above that of (r + 1) * u and of any number up to r * u
  below-high : (r s y : ℕ) → Rooted N r s → r < s → y ≤ r * u → (suc r * u + y) * (suc r * u + y) < 4 * (N * (u * u))
  below-high r s y h g l =
      lt_of_le_of_lt (sq_le (within y l))
      (subst (λ (x : ℕ). x < 4 * (N * (u * u))) (sym (mul-mul-mul_comm (2 * r + 1) u (2 * r + 1) u))
      (subst (λ (x : ℕ). (2 * r + 1) * (2 * r + 1) * (u * u) < x) four (mul-lt-mul_of_pos_right (mid h g) uu_pos)))
    where
      within : (y : ℕ) → y ≤ r * u → suc r * u + y ≤ (2 * r + 1) * u
      within y l = subst (λ (x : ℕ). suc r * u + y ≤ x) (sym (add-mul (suc r) r u) ∙ ap (λ (x : ℕ). x * u) (sum r)) (add r y l)
        where
          sum : (r : ℕ) → suc r + r ≡ 2 * r + 1
          sum r = omega arith

          add : (r y : ℕ) → y ≤ r * u → suc r * u + y ≤ suc r * u + r * u
          add r y l = omega arith

      mid : Rooted N r s → r < s → (2 * r + 1) * (2 * r + 1) < 4 * N
      mid h g = omega (arith, sq_mid r)

-- y is a multiple of u, if it is as large as v
abbrev Spaced : ℕ → ℕ → ℕ → Type 0
Spaced u v y = v ≤ y → (c : ℕ) × (y ≡ c * u)

module _ (u N b r s : ℕ) (u-pos : 0 < u) (h : Rooted N r s) (b-pos : 0 < b) (b_le : b ≤ r) where
  near-low : s ≤ r → (y : ℕ) → Spaced u (b * u) y → Nearer (N * (u * u)) (r * u) false y
  near-low l y sp = (
    λ g.
        let c = sp (le_trans (mul-le-mul_right u b_le) (le_of_lt g)) in
        subst (λ (z : ℕ). 4 * (N * (u * u)) < (r * u + z) * (r * u + z)) (sym c.1) (above u N u-pos r c.0 (mid h l) (subst (λ (z : ℕ). r * u < z) c.1 g)),
    λ g. below-low u N u-pos r s y h g,
  )
    where
      mid : Rooted N r s → s ≤ r → 4 * N < (2 * r + 1) * (2 * r + 1)
      mid h l = omega (arith, sq_mid r)

  near-high : r < s → (y : ℕ) → Spaced u (b * u) y → Nearer (N * (u * u)) (suc r * u) false y
  near-high l y sp = (
    λ g.
        let c = sp (le_trans (mul-le-mul_right u (le_trans b_le (le-suc r))) (le_of_lt g)) in
        subst (λ (z : ℕ). 4 * (N * (u * u)) < (suc r * u + z) * (suc r * u + z)) (sym c.1) (above u N u-pos (suc r) c.0 (mid h l) (subst (λ (z : ℕ). suc r * u < z) c.1 g)),
    λ g. below-high u N u-pos r s y h l (at_most g (leb (b * u) y) (leb→le (b * u) y) (nleb→lt (b * u) y)),
  )
    where
      mid : Rooted N r s → r < s → 4 * N < (2 * suc r + 1) * (2 * suc r + 1)
      mid h l = omega (arith, sq_mid (suc r), sq_add-one r, ap (λ (x : ℕ). x * x) (native.Mathlib.Numerals.add-one r))

      at_most : y < suc r * u → (t : Bool) → (T t → b * u ≤ y) → (T (not t) → y < b * u) → y ≤ r * u
      at_most g true a z =
          let c = sp (a tt) in
          subst (λ (x : ℕ). x ≤ r * u) (sym c.1) (mul-le-mul_right u (le_of_suc-le-suc (lt_of_mul-lt-mul_right u (subst (λ (x : ℕ). x < suc r * u) c.1 g))))
      at_most g false a z = le_trans (le_of_lt (z tt)) (mul-le-mul_right u b_le)

-- a negative value is farther off than 0
near-minus : (n r y : ℕ) → 0 < r → Nearer n r false 0 → Nearer n r true y
near-minus n r y p h = lt_of_le_of_lt (sq_le (sub-le r y)) (subst (λ (x : ℕ). x * x < 4 * n) (add-zero r) (h.1 p))

-- ---- a value that fits, in quanta

pub parts : (f : Format) (s : Bool) (m : ℕ) (e : ℤ) → T (fits f (fin s (suc m) e)) → (suc m < 2 ^ prec f) × (down e ≤ 2 ^ low f) × (suc m * up e < 2 ^ suc (emax f) * down e)
unfolding fits
parts f s m e h =
    let A = eqb (suc m % 2) 1 in
    let B = ltb (suc m) (2 ^ prec f) in
    let C = leb (down e) (2 ^ low f) in
    let D = ltb (suc m * up e) (2 ^ suc (emax f) * down e) in (
      ltb→lt (suc m) (2 ^ prec f) (and_r A B (and_l (A && B) C (and_l (A && B && C) D h))),
      leb→le (down e) (2 ^ low f) (and_r (A && B) C (and_l (A && B && C) D h)),
      ltb→lt (suc m * up e) (2 ^ suc (emax f) * down e) (and_r (A && B && C) D h),
    )

pow_le_back : (a l : ℕ) → 2 ^ a ≤ 2 ^ l → a ≤ l
pow_le_back a l h = le_of_suc-le-suc (lt_of_not-le (λ (g : suc l ≤ a). lt_irrefl (2 ^ l) (lt_of_lt_of_le (pow-lt g) h)))

pow_lt_back : (a l : ℕ) → 2 ^ a < 2 ^ l → a < l
pow_lt_back a l h = lt_of_not-le (λ (g : l ≤ a). lt_irrefl (2 ^ a) (lt_of_lt_of_le h (pow_mono g)))

-- m * 2 ^ e is m * 2 ^ j quanta, for a j
place : (l : ℕ) (e : ℤ) → down e ≤ 2 ^ l → (j : ℕ) × ((m : ℕ) → m * up e * 2 ^ l ≡ m * 2 ^ j * down e)
place l (pos a) h = (a + l, λ m. mul_assoc m (2 ^ a) (2 ^ l) ∙ ap (λ (x : ℕ). m * x) (sym (pow-add 2 a l)) ∙ sym (mul-one (m * 2 ^ (a + l))))
place l (negsuc a) h = (
  l - suc a,
  λ m.
      ap (λ (x : ℕ). x * 2 ^ l) (mul-one m)
      ∙ ap (λ (x : ℕ). m * x) (ap (λ (x : ℕ). 2 ^ x) (sym (back l (suc a) (pow_le_back (suc a) l h))) ∙ pow-add 2 (l - suc a) (suc a))
      ∙ sym (mul_assoc m (2 ^ (l - suc a)) (2 ^ suc a)),
)

pub record Quanta (f : Format) (a : ℕ) : Type 0 where
  pub m : ℕ
  pub j : ℕ
  pub short : m < 2 ^ prec f
  pub is : a ≡ m * 2 ^ j
  pub inside : m * 2 ^ j < 2 ^ (low f + suc (emax f))

nothing : (e : ℤ) (l : ℕ) → 0 * up e * 2 ^ l / down e ≡ 0 * 2 ^ 0
nothing e l = ap (λ (x : ℕ). x / down e) (ap (λ (x : ℕ). x * 2 ^ l) (zero-mul (up e)) ∙ zero-mul (2 ^ l) ∙ sym (zero-mul (down e))) ∙ mul-div_cancel 0 (down_pos e)

pub in_quanta : (f : Format) (s : Bool) (m : ℕ) (e : ℤ) → T (fits f (fin s m e)) → Quanta f (quanta f (fin s m e))
in_quanta f s zero e h = record { m = 0; j = 0; short = pow_pos (prec f); is = nothing e (low f); inside = pow_pos (low f + suc (emax f)) }
in_quanta f s (suc m) e h =
    let p = parts f s m e h in
    let z = place (low f) e p.1 in
    record {
      m = suc m;
      j = z.0;
      short = p.0;
      is = ap (λ (x : ℕ). x / down e) (z.1 (suc m)) ∙ mul-div_cancel (suc m * 2 ^ z.0) (down_pos e);
      inside =
          lt_of_mul-lt-mul_right (down e)
          (subst (λ (x : ℕ). x < 2 ^ (low f + suc (emax f)) * down e) (z.1 (suc m))
          (subst (λ (x : ℕ). suc m * up e * 2 ^ low f < x)
          (mul_right_comm (2 ^ suc (emax f)) (down e) (2 ^ low f) ∙ ap (λ (x : ℕ). x * down e) (mul_comm (2 ^ suc (emax f)) (2 ^ low f) ∙ sym (pow-add 2 (low f) (suc (emax f)))))
          (mul-lt-mul_of_pos_right p.2 (pow_pos (low f)))));
    }

-- `quanta` loses nothing: a value that fits is that many times the format's smallest
pub quanta-exact : (f : Format) (s : Bool) (m : ℕ) (e : ℤ) → T (fits f (fin s m e)) → m * up e * 2 ^ low f ≡ quanta f (fin s m e) * down e
quanta-exact f s zero e h =
    ap (λ (x : ℕ). x * 2 ^ low f) (zero-mul (up e)) ∙ zero-mul (2 ^ low f) ∙ sym (ap (λ (x : ℕ). x * down e) (nothing e (low f)) ∙ zero-mul (down e))
quanta-exact f s (suc m) e h =
    let z = place (low f) e (parts f s m e h).1 in
    z.1 (suc m) ∙ ap (λ (x : ℕ). x * down e) (sym (ap (λ (x : ℕ). x / down e) (z.1 (suc m)) ∙ mul-div_cancel (suc m * 2 ^ z.0) (down_pos e)))

quanta_pos : (f : Format) (s : Bool) (m : ℕ) (e : ℤ) → T (fits f (fin s (suc m) e)) → 0 < quanta f (fin s (suc m) e)
quanta_pos f s m e h =
    let z = place (low f) e (parts f s m e h).1 in
    subst (λ (x : ℕ). 0 < x) (sym (ap (λ (x : ℕ). x / down e) (z.1 (suc m)) ∙ mul-div_cancel (suc m * 2 ^ z.0) (down_pos e))) (mul-pos (zero-lt-suc m) (pow_pos z.0))

-- the values from 2 ^ (prec - 1 + K) quanta on are multiples of 2 ^ K quanta
spaced : (f : Format) (K a : ℕ) → Quanta f a → Spaced (2 ^ K) (2 ^ (prec f - 1) * 2 ^ K) a
spaced f K a g l =
    let le : K ≤ g.j = le_of_suc-le-suc (lt_of_not-le (λ (t : suc g.j ≤ K). not-le_of_lt (less t) l)) in
    (g.m * 2 ^ (g.j - K), g.is ∙ ap (λ (x : ℕ). g.m * x) (ap (λ (x : ℕ). 2 ^ x) (sym (back g.j K le)) ∙ pow-add 2 (g.j - K) K) ∙ sym (mul_assoc g.m (2 ^ (g.j - K)) (2 ^ K)))
  where
    sum : (p j : ℕ) → 2 ≤ p → p + j ≡ p - 1 + suc j
    sum p j h = omega arith

    less : suc g.j ≤ K → a < 2 ^ (prec f - 1) * 2 ^ K
    less t =
        subst (λ (x : ℕ). x < 2 ^ (prec f - 1) * 2 ^ K) (sym g.is)
        (lt_of_lt_of_le (shl_lt (prec f) g.j g.short)
        (le_trans (le_of_eq (ap (λ (x : ℕ). 2 ^ x) (sum (prec f) g.j (two f)))) (le_trans (pow_mono (add_le (prec f - 1) t)) (le_of_eq (pow-add 2 (prec f - 1) K)))))
      where
        add_le : (p : ℕ) → suc g.j ≤ K → p + suc g.j ≤ p + K
        add_le p t = omega arith

-- ---- n = a * 2 ^ low as N * 4 ^ K

-- m with zeros after it, so that it has p digits
widen : (p m : ℕ) → 0 < m → m < 2 ^ p → (i : ℕ) × (i < p) × (2 ^ (p - 1) ≤ m * 2 ^ i) × (m * 2 ^ i < 2 ^ p)
widen p m z h = at (size m) (size-lt m) (size-le m p h) (size_reaches m)
  where
    some : (s : ℕ) → m < 2 ^ s → 0 < s
    some zero l = absurd (none m z l)
      where
        none : (m : ℕ) → 0 < m → m < 1 → ⊥
        none m a b = omega arith
    some (suc s) l = zero-lt-suc s

    fewer : (s : ℕ) → 0 < s → s ≤ p → p - s < p
    fewer s a b = omega arith

    pred_lt : (s : ℕ) → 0 < s → s - 1 < s
    pred_lt s a = omega arith

    lower : (s : ℕ) → 0 < s → s ≤ p → s - 1 + (p - s) ≡ p - 1
    lower s a b = omega arith

    upper : (s : ℕ) → s ≤ p → s + (p - s) ≡ p
    upper s b = omega arith

    at : (s : ℕ) → m < 2 ^ s → s ≤ p → ((j : ℕ) → j < s → 2 ^ j ≤ m) → (i : ℕ) × (i < p) × (2 ^ (p - 1) ≤ m * 2 ^ i) × (m * 2 ^ i < 2 ^ p)
    at s a b c =
        let q : 0 < s = some s a in (
          p - s,
          fewer s q b,
          subst (λ (x : ℕ). x ≤ m * 2 ^ (p - s)) (sym (pow-add 2 (s - 1) (p - s)) ∙ ap (λ (x : ℕ). 2 ^ x) (lower s q b)) (mul-le-mul_right (2 ^ (p - s)) (c (s - 1) (pred_lt s q))),
          subst (λ (x : ℕ). m * 2 ^ (p - s) < 2 ^ x) (upper s b) (shl_lt s (p - s) a),
        )

-- of a format: it has more than twice as many places below 1 as digits, and the root of its largest value is well inside its range
roomy : (f : Format) → 2 * prec f ≤ low f
roomy binary32 = lit≤ tt
roomy binary64 = lit≤ tt

inner : (f : Format) (j i : ℕ) → j < low f + suc (emax f) → prec f + (j + low f - i - (prec f - 1)) / 2 < low f + suc (emax f)
inner binary32 j i h = omega arith
inner binary64 j i h = omega arith

pub record Split (f : Format) (n : ℕ) : Type 0 where
  pub N : ℕ
  pub K : ℕ
  pub is : n ≡ N * (2 ^ K * 2 ^ K)
  pub lo : 2 ^ (prec f - 1) * 2 ^ (prec f - 1) ≤ N
  pub hi : N < 2 ^ prec f * 2 ^ prec f
  pub room : prec f + K < low f + suc (emax f)

half : (d : ℕ) → d ≡ d % 2 + (d / 2 + d / 2)
half d = omega arith

split : (f : Format) (a : ℕ) → 0 < a → Quanta f a → Split f (a * 2 ^ low f)
split f a z g =
    let p = prec f in
    let m-pos : 0 < g.m = first g.m (2 ^ g.j) (subst (λ (x : ℕ). 0 < x) g.is z) in
    let w = widen p g.m m-pos g.short in
    let i = w.0 in
    let M = g.m * 2 ^ i in
    let d = g.j + low f - i - (p - 1) in
    let K = d / 2 in
    let h = d % 2 in
    let e : g.j + low f ≡ i + (h + (p - 1 + (K + K))) = sum p i g.j (low f) h K w.1 (roomy f) (half d) in
    record {
      N = M * 2 ^ h * 2 ^ (p - 1);
      K = K;
      is =
          ap (λ (x : ℕ). x * 2 ^ low f) g.is
          ∙ mul_assoc g.m (2 ^ g.j) (2 ^ low f)
          ∙ ap (λ (x : ℕ). g.m * x) (sym (pow-add 2 g.j (low f)) ∙ ap (λ (x : ℕ). 2 ^ x) e ∙ powers i h (p - 1) K)
          ∙ regroup g.m (2 ^ i) (2 ^ h) (2 ^ (p - 1)) (2 ^ K * 2 ^ K);
      lo = mul-le-mul_right (2 ^ (p - 1)) (le_trans w.2 (le-mul_of_pos_right M (pow_pos h)));
      hi =
          lt_of_lt_of_le (mul-lt-mul_of_pos_right (mul-lt-mul_of_pos_right w.3 (pow_pos h)) (pow_pos (p - 1)))
          (le_trans (le_of_eq (mul_assoc (2 ^ p) (2 ^ h) (2 ^ (p - 1))))
          (mul-le-mul_left (2 ^ p) (le_trans (mul-le-mul_right (2 ^ (p - 1)) (pow_mono {i = h} {j = 1} (bit d))) (le_of_eq (sym (pow-succ' 2 (p - 1)) ∙ ap (λ (x : ℕ). 2 ^ x) (one_more p (two f)))))));
      room = inner f g.j i (pow_lt_back g.j (low f + suc (emax f)) (lt_of_le_of_lt (le_trans (le_of_eq (sym (one-mul (2 ^ g.j)))) (mul-le-mul_right (2 ^ g.j) m-pos)) g.inside));
    }
  where
    first : (m u : ℕ) → 0 < m * u → 0 < m
    first zero u h = absurd (lt_irrefl 0 (subst (λ (x : ℕ). 0 < x) (zero-mul u) h))
    first (suc m) u h = zero-lt-suc m

    bit : (d : ℕ) → d % 2 ≤ 1
    bit d = omega arith

    one_more : (p : ℕ) → 2 ≤ p → suc (p - 1) ≡ p
    one_more p h = omega arith

    sum : (p i j l h K : ℕ) → i < p → 2 * p ≤ l → j + l - i - (p - 1) ≡ h + (K + K) → j + l ≡ i + (h + (p - 1 + (K + K)))
    sum p i j l h K a b c = omega arith

    powers : (i h q K : ℕ) → 2 ^ (i + (h + (q + (K + K)))) ≡ 2 ^ i * (2 ^ h * (2 ^ q * (2 ^ K * 2 ^ K)))
    powers i h q K =
        pow-add 2 i (h + (q + (K + K)))
        ∙ ap (λ (x : ℕ). 2 ^ i * x) (pow-add 2 h (q + (K + K)) ∙ ap (λ (x : ℕ). 2 ^ h * x) (pow-add 2 q (K + K) ∙ ap (λ (x : ℕ). 2 ^ q * x) (pow-add 2 K K)))

    regroup : (a b c d e : ℕ) → a * (b * (c * (d * e))) ≡ a * b * c * d * e
    regroup a b c d e = sym (mul_assoc a b (c * (d * e))) ∙ sym (mul_assoc (a * b) c (d * e)) ∙ sym (mul_assoc (a * b * c) d e)

-- ---- the float that `units` makes of q * 2 ^ k quanta

pub record Made (f : Format) (v : Float) (a : ℕ) : Type 0 where
  pub held : T (fits f v)
  pub above : T (positive v)
  pub size : quanta f v ≡ a

made : (f : Format) (q k : ℕ) → 0 < q → q ≤ 2 ^ prec f → prec f + k < low f + suc (emax f) → Made f (units f false q k) (q * 2 ^ k)
unfolding units
made f q k z h room =
    let l : q * 2 ^ k < 2 ^ (low f + suc (emax f)) = lt_of_le_of_lt (le_trans (mul-le-mul_right (2 ^ k) h) (le_of_eq (sym (pow-add 2 (prec f) k)))) (pow-lt room) in
    let v = odd (suc (prec f)) false q k (low f) in
    let o = odd_form (suc (prec f)) false q k (low f) z in
    subst (λ (x : Float). Made f x (q * 2 ^ k))
    (sym (ap (λ (b : Bool). cond b v (inf false)) (is_true (ltb (q * 2 ^ k) (2 ^ (low f + suc (emax f)))) (lt→ltb (q * 2 ^ k) (2 ^ (low f + suc (emax f))) l))))
    record {
      held = odd-fits f (suc (prec f)) false q k (lt_of_le_of_lt h (pow-lt (le_refl (suc (prec f))))) h l;
      above = subst (λ (x : Float). T (positive x)) (sym o.2) (lt→ltb 0 (suc o.0) (zero-lt-suc o.0));
      size = ap (quanta f) o.2 ∙ ap (λ (x : ℕ). x / down o.1) o.3 ∙ mul-div_cancel (q * 2 ^ k) (down_pos o.1);
    }

-- ---- the theorem

-- √(N * 4 ^ K) quanta, rounded, is nearer than any value that fits
rounded : (f : Format) (x : Float) (sp : Split f (quanta f x * 2 ^ low f)) → NearestRoot f x (root_units f (quanta f x * 2 ^ low f))
rounded f x sp =
    subst (λ (v : Float). NearestRoot f x v) (sym (ap (root_units f) sp.is ∙ root-scaled f sp.N sp.K sp.lo sp.hi))
    (go (leb s r) (leb→le s r) (nleb→lt s r))
  where
    N : ℕ
    N = sp.N

    u : ℕ
    u = 2 ^ sp.K

    r : ℕ
    r = isqrt sp.N

    s : ℕ
    s = sp.N - isqrt sp.N * isqrt sp.N

    b : ℕ
    b = 2 ^ (prec f - 1)

    h : Rooted N r s
    h = isqrt_rooted sp.N

    b_le : b ≤ r
    b_le = floor_ge (2 ^ (prec f - 1)) (isqrt-floor sp.N) sp.lo

    r_lt : r < 2 ^ prec f
    r_lt = floor_lt (2 ^ prec f) (isqrt-floor sp.N) sp.hi

    finish : (q : ℕ) → nearest_root (sp.N * (2 ^ 0 * 2 ^ 0)) 0 ≡ q → 0 < q → q ≤ 2 ^ prec f → ((y : ℕ) → Spaced u (b * u) y → Nearer (N * (u * u)) (q * u) false y)
        → NearestRoot f x (units f false (nearest_root sp.N 0) sp.K)
    finish q e z l near =
        let m = made f q sp.K z l sp.room in
        let at : (y : ℕ) → Spaced u (b * u) y → Nearer (quanta f x * 2 ^ low f) (quanta f (units f false q sp.K)) false y =
        λ y t. subst (λ (n : ℕ). Nearer n (quanta f (units f false q sp.K)) false y) (sym sp.is) (subst (λ (a : ℕ). Nearer (N * (u * u)) a false y) (sym m.size) (near y t)) in
        subst (λ (k : ℕ). NearestRoot f x (units f false k sp.K)) (sym e ∙ ap (λ (n : ℕ). nearest_root n 0) (at_zero sp.N))
        record { held = m.held; above = m.above; nearer = λ t n d i. by_sign t n d i q z m at }
      where
        by_sign : (t : Bool) (n : ℕ) (d : ℤ) → T (fits f (fin t n d)) → (q : ℕ) → 0 < q → Made f (units f false q sp.K) (q * u)
            → ((y : ℕ) → Spaced u (b * u) y → Nearer (quanta f x * 2 ^ low f) (quanta f (units f false q sp.K)) false y)
            → Nearer (quanta f x * 2 ^ low f) (quanta f (units f false q sp.K)) t (quanta f (fin t n d))
        by_sign false n d i q z m at = at (quanta f (fin false n d)) (spaced f sp.K (quanta f (fin false n d)) (in_quanta f false n d i))
        by_sign true n d i q z m at =
            near-minus (quanta f x * 2 ^ low f) (quanta f (units f false q sp.K)) (quanta f (fin true n d))
            (subst (λ (a : ℕ). 0 < a) (sym m.size) (mul-pos z (pow_pos sp.K)))
            (at 0 (λ l. (0, sym (zero-mul u))))

    go : (t : Bool) → (T t → s ≤ r) → (T (not t) → r < s) → NearestRoot f x (units f false (nearest_root sp.N 0) sp.K)
    go true c d =
        finish r (picks-low N 0 r s h (c tt)) (lt_of_lt_of_le (pow_pos (prec f - 1)) b_le) (le_of_lt r_lt) (near-low u N b r s (pow_pos sp.K) h (pow_pos (prec f - 1)) b_le (c tt))
    go false c d = finish (suc r) (picks-high N 0 r s h (d tt)) (zero-lt-suc r) r_lt (near-high u N b r s (pow_pos sp.K) h (pow_pos (prec f - 1)) b_le (d tt))

pub root_correct : (f : Format) (x : Float) → T (fits f x) → IsRoot f x (root f x)
unfolding root
root_correct f nan h = refl
root_correct f (inf true) h = refl
root_correct f (inf false) h = refl
root_correct f (fin true zero e) h = refl
root_correct f (fin false zero e) h = refl
root_correct f (fin true (suc m) e) h = refl
root_correct f (fin false (suc m) e) h = rounded f (fin false (suc m) e) (split f (quanta f (fin false (suc m) e)) (quanta_pos f false m e h) (in_quanta f false (suc m) e h))

-- ---- and nothing else is

-- the bits of a finite value, by its quanta
bits_by-quanta : (f : Format) (s : Bool) (m : ℕ) (e : ℤ)
    → to_bits f (fin s m e) ≡ cond s (top f) 0 + (size (quanta f (fin s m e)) - prec f) * hid f + quanta f (fin s m e) / 2 ^ (size (quanta f (fin s m e)) - prec f)
unfolding to_bits
bits_by-quanta f s m e = refl

same-quanta : (f : Format) (m n : ℕ) (e d : ℤ) → T (fits f (fin false m e)) → T (fits f (fin false n d)) → quanta f (fin false m e) ≡ quanta f (fin false n d) → fin false m e ≡ fin false n d
same-quanta f m n e d h k g =
    sym (of_bits-to_bits f (fin false m e) h)
    ∙ ap (of_bits f) (bits_by-quanta f false m e ∙ ap (λ (a : ℕ). 0 + (size a - prec f) * hid f + a / 2 ^ (size a - prec f)) g ∙ sym (bits_by-quanta f false n d))
    ∙ of_bits-to_bits f (fin false n d) k

-- of two values that are nearest, neither is the less
not_less : (n a b : ℕ) → Nearer n a false b → Nearer n b false a → a < b → ⊥
not_less n a b h k l = lt_irrefl (4 * n) (lt_trans (h.0 l) (subst (λ (x : ℕ). x * x < 4 * n) (native.Mathlib.Nat.add_comm b a) (k.1 l)))

pub nearest_unique : (f : Format) (x r v : Float) → NearestRoot f x r → NearestRoot f x v → r ≡ v
nearest_unique f x nan v h k = absurd h.above
nearest_unique f x (inf t) v h k = absurd h.above
nearest_unique f x (fin true m e) v h k = absurd h.above
nearest_unique f x (fin false m e) nan h k = absurd k.above
nearest_unique f x (fin false m e) (inf t) h k = absurd k.above
nearest_unique f x (fin false m e) (fin true n d) h k = absurd k.above
nearest_unique f x (fin false m e) (fin false n d) h k =
    let a = quanta f (fin false m e) in
    let b = quanta f (fin false n d) in
    let p : Nearer (quanta f x * 2 ^ low f) a false b = h.nearer false n d k.held in
    let q : Nearer (quanta f x * 2 ^ low f) b false a = k.nearer false m e h.held in
    same-quanta f m n e d h.held k.held
    (le_antisymm (le_of_suc-le-suc (lt_of_not-le (λ (g : suc b ≤ a). not_less (quanta f x * 2 ^ low f) b a q p g)))
    (le_of_suc-le-suc (lt_of_not-le (λ (g : suc a ≤ b). not_less (quanta f x * 2 ^ low f) a b p q g))))

pub root_unique : (f : Format) (x r v : Float) → IsRoot f x r → IsRoot f x v → r ≡ v
root_unique f nan r v h k = h ∙ sym k
root_unique f (inf true) r v h k = h ∙ sym k
root_unique f (inf false) r v h k = h ∙ sym k
root_unique f (fin true zero e) r v h k = h ∙ sym k
root_unique f (fin false zero e) r v h k = h ∙ sym k
root_unique f (fin true (suc m) e) r v h k = h ∙ sym k
root_unique f (fin false (suc m) e) r v h k = nearest_unique f (fin false (suc m) e) r v h k

-- a tie cannot be: no other value of the format is as near to the root
pub no_tie : (f : Format) (x r : Float) → NearestRoot f x r → (n : ℕ) (d : ℤ) → T (fits f (fin false n d))
    → (quanta f r + quanta f (fin false n d)) * (quanta f r + quanta f (fin false n d)) ≡ 4 * (quanta f x * 2 ^ low f) → quanta f r ≡ quanta f (fin false n d)
no_tie f x r h n d i e = at (quanta f r) (quanta f (fin false n d)) (h.nearer false n d i) e
  where
    at : (a b : ℕ) → Nearer (quanta f x * 2 ^ low f) a false b → (a + b) * (a + b) ≡ 4 * (quanta f x * 2 ^ low f) → a ≡ b
    at a b p e =
        le_antisymm (le_of_suc-le-suc (lt_of_not-le (λ (g : suc b ≤ a). lt_irrefl ((a + b) * (a + b)) (subst (λ (y : ℕ). (a + b) * (a + b) < y) (sym e) (p.1 g)))))
        (le_of_suc-le-suc (lt_of_not-le (λ (g : suc a ≤ b). lt_irrefl ((a + b) * (a + b)) (subst (λ (y : ℕ). y < (a + b) * (a + b)) (sym e) (p.0 g)))))

-- ---- two things that follow: a root that the format holds is exact, and a larger value's root is no smaller

exact : (r y : ℕ) → Nearer (r * r) r false y
exact r y = (
  λ g. subst (λ (x : ℕ). x < (r + y) * (r + y)) (square r) (sq_lt (more r y g)),
  λ g. subst (λ (x : ℕ). (r + y) * (r + y) < x) (square r) (sq_lt (more' r y g)),
)
  where
    square : (r : ℕ) → (r + r) * (r + r) ≡ 4 * (r * r)
    square r = ap (λ (x : ℕ). x * x) (sym (two-mul r)) ∙ mul-mul-mul_comm 2 r 2 r

    more : (r y : ℕ) → r < y → r + r < r + y
    more r y g = omega arith

    more' : (r y : ℕ) → y < r → r + y < r + r
    more' r y g = omega arith

exact-nearest : (f : Format) (x : Float) (a : ℕ) (d : ℤ) → T (fits f (fin false (suc a) d))
    → quanta f (fin false (suc a) d) * quanta f (fin false (suc a) d) ≡ quanta f x * 2 ^ low f → NearestRoot f x (fin false (suc a) d)
exact-nearest f x a d k e =
    record { held = k; above = lt→ltb 0 (suc a) (zero-lt-suc a); nearer = λ t n c i. subst (λ (z : ℕ). Nearer z R t (quanta f (fin t n c))) e (by_sign t (quanta f (fin t n c))) }
  where
    R : ℕ
    R = quanta f (fin false (suc a) d)

    by_sign : (t : Bool) (y : ℕ) → Nearer (R * R) R t y
    by_sign false y = exact R y
    by_sign true y = near-minus (R * R) R y (quanta_pos f false a d k) (exact R 0)

pub root-exact : (f : Format) (x r : Float) → T (fits f x) → T (positive x) → T (fits f r) → T (positive r) → quanta f r * quanta f r ≡ quanta f x * 2 ^ low f → root f x ≡ r
root-exact f (fin false zero e) r h p k q g = absurd p
root-exact f (fin false (suc m) e) (fin false zero d) h p k q g = absurd q
root-exact f (fin false (suc m) e) (fin false (suc a) d) h p k q g =
    nearest_unique f (fin false (suc m) e) (root f (fin false (suc m) e)) (fin false (suc a) d) (root_correct f (fin false (suc m) e) h) (exact-nearest f (fin false (suc m) e) a d k g)
root-exact f nan r h p k q g = elim p [ ]
root-exact f (inf _) r h p k q g = elim p [ ]
root-exact f (fin false (suc m) e) nan h p k q g = elim q [ ]
root-exact f (fin false (suc m) e) (inf _) h p k q g = elim q [ ]
root-exact f (fin false (suc m) e) (fin true _ d) h p k q g = elim q [ ]
root-exact f (fin true _ e) r h p k q g = elim p [ ]

-- the roots of n ≤ k
ordered : (n k a b : ℕ) → n ≤ k → Nearer n a false b → Nearer k b false a → a ≤ b
ordered n k a b l p q =
    le_of_suc-le-suc (lt_of_not-le (λ (g : suc b ≤ a).
    no (p.1 g) (subst (λ (x : ℕ). 4 * k < x * x) (native.Mathlib.Nat.add_comm b a) (q.0 g))))
  where
    no : (a + b) * (a + b) < 4 * n → 4 * k < (a + b) * (a + b) → ⊥
    no x y = omega arith

nearest_mono : (f : Format) (x y r v : Float) → quanta f x ≤ quanta f y → NearestRoot f x r → NearestRoot f y v → quanta f r ≤ quanta f v
nearest_mono f x y nan v l h k = absurd h.above
nearest_mono f x y (inf t) v l h k = absurd h.above
nearest_mono f x y (fin true m e) v l h k = absurd h.above
nearest_mono f x y (fin false m e) nan l h k = absurd k.above
nearest_mono f x y (fin false m e) (inf t) l h k = absurd k.above
nearest_mono f x y (fin false m e) (fin true n d) l h k = absurd k.above
nearest_mono f x y (fin false m e) (fin false n d) l h k =
    ordered (quanta f x * 2 ^ low f) (quanta f y * 2 ^ low f) (quanta f (fin false m e)) (quanta f (fin false n d)) (mul-le-mul_right (2 ^ low f) l) (h.nearer false n d k.held) (k.nearer false m e h.held)

pub root_mono : (f : Format) (x y : Float) → T (fits f x) → T (positive x) → T (fits f y) → T (positive y) → quanta f x ≤ quanta f y → quanta f (root f x) ≤ quanta f (root f y)
root_mono f (fin false zero e) y h p k q l = absurd p
root_mono f (fin false (suc m) e) (fin false zero d) h p k q l = absurd q
root_mono f (fin false (suc m) e) (fin false (suc n) d) h p k q l =
    nearest_mono f (fin false (suc m) e) (fin false (suc n) d) (root f (fin false (suc m) e)) (root f (fin false (suc n) d)) l (root_correct f (fin false (suc m) e) h) (root_correct f (fin false (suc n) d) k)
root_mono f nan y h p k q l = elim p [ ]
root_mono f (inf _) y h p k q l = elim p [ ]
root_mono f (fin false (suc m) e) nan h p k q l = elim q [ ]
root_mono f (fin false (suc m) e) (inf _) h p k q l = elim q [ ]
root_mono f (fin false (suc m) e) (fin true _ d) h p k q l = elim q [ ]
root_mono f (fin true _ e) y h p k q l = elim p [ ]
