-- Orders of values that are finite and above zero: what a rounded square says of a root, and a quotient by its parts. Assumes nothing.
use mathlib.Core.Path.{◌≡◌, refl, sym, ap, ◌∙◌, subst, subst₂}
use mathlib.Core.Bool.{Bool, true, false, not, ◌&&◌, cond, false≢true}
use Prim.Native.Nat.{ℕ, zero, suc, ◌+◌, ◌-◌, ◌*◌, ◌%◌, ◌^◌, ◌≤◌, ◌<◌}
use native.Mathlib.Nat.{mul-pos, mul_assoc, mul_comm, mul_left_comm, mul_right_comm, mul-mul-mul_comm, mul-one, one-mul, mul-le-mul, mul-lt-mul_of_pos_right, lt_of_mul-lt-mul_right, lt_of_not-le, not-le_of_lt, le_refl, le_of_eq, le_trans, le_of_suc-le-suc, le_of_mul-le-mul_right}
use native.Mathlib.Omega.{arith}
use lib.IntN.{ℤ, pos, negsuc}
use lib.Dec.{T, leb, ltb, eqb, leb→le, nleb→lt, ltb→lt}
use lib.Pow.{pow-add, pow_pos, pow-lt}
use borrow.Author.Tests.{ltb-true, ne_eqb}
use lib.Ieee.{Float, nan, inf, fin, Format, prec, emax, low, up, down, round, mul, div, lt, le, fits}
use lib.Ieee.Exact.{HasValue, round_exact}
use lib.Ieee.Fits.{up_pos, down_pos, and_l, and_r}
use lib.Ieee.Digits.{back}
use lib.Ieee.Order.{le_of_values, round_mono}
use lib.Ieee.Positive.{positive, num, den, den_pos, own_value, positive_of_value, values_of_le, le→cross, above_of_le, mul_at}
use Rattle.float.specs.Root.{root, quanta}
use Rattle.float.specs.Nearest.{NearestRoot}
use Rattle.float.proofs.Nearest.{root_correct, root_mono, quanta-exact}

pub num_pos : (x : Float) → T (positive x) → 0 < num x
num_pos nan p = absurd p
num_pos (inf s) p = absurd p
num_pos (fin true m e) p = absurd p
num_pos (fin false m e) p = mul-pos (ltb→lt 0 m p) (up_pos e)

-- ---- a value that fits is rounded to itself

parts : (f : Format) (m : ℕ) (e : ℤ) → T (fits f (fin false (suc m) e)) → (suc m < 2 ^ prec f) × (down e ≤ 2 ^ low f) × (suc m * up e < 2 ^ suc (emax f) * down e)
unfolding fits
parts f m e h =
    let A = eqb (suc m % 2) 1 in
    let B = ltb (suc m) (2 ^ prec f) in
    let C = leb (down e) (2 ^ low f) in
    let D = ltb (suc m * up e) (2 ^ suc (emax f) * down e) in (
      ltb→lt (suc m) (2 ^ prec f) (and_r A B (and_l (A && B) C (and_l (A && B && C) D h))),
      leb→le (down e) (2 ^ low f) (and_r (A && B) C (and_l (A && B && C) D h)),
      ltb→lt (suc m * up e) (2 ^ suc (emax f) * down e) (and_r (A && B && C) D h),
    )

pow_le_back : (a b : ℕ) → 2 ^ a ≤ 2 ^ b → a ≤ b
pow_le_back a b h = le_of_suc-le-suc (lt_of_not-le (λ (g : suc b ≤ a). not-le_of_lt (pow-lt g) h))

-- 2 ^ e in units of 2 ^ -l is a power of two
place : (l : ℕ) (e : ℤ) → down e ≤ 2 ^ l → (j : ℕ) × (up e * 2 ^ l ≡ 2 ^ j * down e)
place l (pos k) h = (k + l, sym (pow-add 2 k l) ∙ sym (mul-one _))
place l (negsuc k) h = (l - suc k, one-mul (2 ^ l) ∙ ap (λ (x : ℕ). 2 ^ x) (sym (back l (suc k) (pow_le_back (suc k) l h))) ∙ pow-add 2 (l - suc k) (suc k))

itself : (f : Format) (m : ℕ) (e : ℤ) → T (fits f (fin false (suc m) e)) → HasValue (round f false (suc m * up e) (down e)) false (suc m * up e) (down e)
itself f m e h =
    let p = parts f m e h in
    let z = place (low f) e p.1 in
    let is : suc m * up e * 2 ^ low f ≡ suc m * 2 ^ z.0 * down e = mul_assoc (suc m) (up e) (2 ^ low f) ∙ ap (λ (x : ℕ). suc m * x) z.1 ∙ sym (mul_assoc (suc m) (2 ^ z.0) (down e)) in
    round_exact f false (suc m * up e) (down e) (suc m) z.0 (down_pos e) p.0
    (lt_of_mul-lt-mul_right (down e)
    (subst (λ (x : ℕ). x < 2 ^ (low f + suc (emax f)) * down e) is
    (subst (λ (x : ℕ). suc m * up e * 2 ^ low f < x)
    (mul_right_comm (2 ^ suc (emax f)) (down e) (2 ^ low f) ∙ ap (λ (x : ℕ). x * down e) (mul_comm (2 ^ suc (emax f)) (2 ^ low f) ∙ sym (pow-add 2 (low f) (suc (emax f)))))
    (mul-lt-mul_of_pos_right p.2 (pow_pos (low f))))))
    is

pub rounded_itself : (f : Format) (d : Float) → T (positive d) → T (fits f d) → HasValue (round f false (num d) (den d)) false (num d) (den d)
rounded_itself f nan p h = absurd p
rounded_itself f (inf s) p h = absurd p
rounded_itself f (fin true m e) p h = absurd p
rounded_itself f (fin false zero e) p h = absurd p
rounded_itself f (fin false (suc m) e) p h = itself f m e h

-- ---- a rounded square that is below d: so is the square

clash : (D z d : Float) → T (positive D) → T (positive d) → HasValue D false (num d) (den d) → T (le D z) → lt z d ≡ true → ⊥
unfolding lt
clash D z nan P p h l t = absurd p
clash D z (inf s) P p h l t = absurd p
clash D z (fin true n k) P p h l t = absurd p
clash D nan (fin false n k) P p h l t = false≢true t
clash D (inf true) (fin false n k) P p h l t = above_of_le D (inf true) P l
clash D (inf false) (fin false n k) P p h l t = false≢true t
clash D (fin true m e) (fin false n k) P p h l t = above_of_le D (fin true m e) P l
clash D (fin false m e) (fin false n k) P p h l t =
    not-le_of_lt (ltb-true (m * up e * down k) (n * up k * down e) t)
    (values_of_le D (fin false m e) (n * up k) (down k) (m * up e) (down e) P (above_of_le D (fin false m e) P l) h (refl, refl) l)

square-below : (f : Format) (s d : Float) → T (positive s) → T (positive d) → T (fits f d) → lt (mul f s s) d ≡ true → num s * num s * den d < num d * (den s * den s)
square-below f s d p q h t =
    let D = round f false (num d) (den d) in
    let v = rounded_itself f d q h in
    lt_of_not-le (λ (g : num d * (den s * den s) ≤ num s * num s * den d).
    clash D (mul f s s) d (positive_of_value D (num d) (den d) v (num_pos d q)) q v
    (subst (λ (x : Float). T (le D x)) (sym (mul_at f s s (num s) (den s) (num s) (den s) p p (den_pos s) (den_pos s) (own_value s p) (own_value s p)))
    (round_mono f (num d) (den d) (num s * num s) (den s * den s) (den_pos d) (mul-pos (den_pos s) (den_pos s)) g))
    t)

-- ---- in quanta

quanta_of : (f : Format) (x : Float) → T (positive x) → T (fits f x) → num x * 2 ^ low f ≡ quanta f x * den x
quanta_of f nan p h = absurd p
quanta_of f (inf s) p h = absurd p
quanta_of f (fin true m e) p h = absurd p
quanta_of f (fin false m e) p h = quanta-exact f false m e h

value_of : (f : Format) (x : Float) → T (positive x) → T (fits f x) → HasValue x false (quanta f x) (2 ^ low f)
value_of f nan p h = absurd p
value_of f (inf s) p h = absurd p
value_of f (fin true m e) p h = absurd p
value_of f (fin false m e) p h = (refl, quanta-exact f false m e h)

le_of_quanta : (f : Format) (x y : Float) → T (positive x) → T (fits f x) → T (positive y) → T (fits f y) → quanta f x ≤ quanta f y → T (le x y)
le_of_quanta f x y p h q k l =
    le_of_values x y (quanta f x) (2 ^ low f) (quanta f y) (2 ^ low f) (pow_pos (low f)) (pow_pos (low f)) (value_of f x p h) (value_of f y q k) (mul-le-mul l (le_refl (2 ^ low f)))

quanta_of_le : (f : Format) (x y : Float) → T (positive x) → T (fits f x) → T (positive y) → T (fits f y) → T (le x y) → quanta f x ≤ quanta f y
quanta_of_le f x y p h q k l =
    le_of_mul-le-mul_right (values_of_le x y (quanta f x) (2 ^ low f) (quanta f y) (2 ^ low f) p q (value_of f x p h) (value_of f y q k) l) (pow_pos (low f))

squares : (L n d y n' d' g : ℕ) → 0 < L → n * L ≡ y * d → n' * L ≡ g * d' → n * n * d' < n' * (d * d) → y * y < g * L
squares L n d y n' d' g P e e' h =
    let a : n * n * d' * (L * L) ≡ n * L * (n * L) * d' = simp (mul_assoc, mul_comm, mul_left_comm) in
    let b : y * d * (y * d) * d' ≡ y * y * (d * d * d') = simp (mul_assoc, mul_comm, mul_left_comm) in
    let a' : n' * (d * d) * (L * L) ≡ n' * L * L * (d * d) = simp (mul_assoc, mul_comm, mul_left_comm) in
    let b' : g * d' * L * (d * d) ≡ g * L * (d * d * d') = simp (mul_assoc, mul_comm, mul_left_comm) in
    lt_of_mul-lt-mul_right (d * d * d')
    (subst₂ (λ (x z : ℕ). x < z) (a ∙ ap (λ (x : ℕ). x * x * d') e ∙ b) (a' ∙ ap (λ (x : ℕ). x * L * (d * d)) e' ∙ b') (mul-lt-mul_of_pos_right h (mul-pos P P)))

-- ---- a value whose square is below d is at most the root of d

under-root : (f : Format) (s d r : Float) → T (positive s) → T (fits f s) → NearestRoot f d r → quanta f s * quanta f s < quanta f d * 2 ^ low f → T (le s r)
under-root f nan d r p h nr l = absurd p
under-root f (inf t) d r p h nr l = absurd p
under-root f (fin true a b) d r p h nr l = absurd p
under-root f (fin false a b) d r p h nr l = go (leb (quanta f (fin false a b)) (quanta f r)) (leb→le (quanta f (fin false a b)) (quanta f r)) (nleb→lt (quanta f (fin false a b)) (quanta f r))
  where
    y : ℕ
    y = quanta f (fin false a b)

    twice : quanta f r < y → (quanta f r + y) * (quanta f r + y) ≤ 4 * (y * y)
    twice g = le_trans (mul-le-mul (most g) (most g)) (le_of_eq (mul-mul-mul_comm 2 y 2 y))
      where
        most : quanta f r < y → quanta f r + y ≤ 2 * y
        most g = omega arith

    no : 4 * (quanta f d * 2 ^ low f) < (quanta f r + y) * (quanta f r + y) → (quanta f r + y) * (quanta f r + y) ≤ 4 * (y * y) → ⊥
    no u v = omega arith

    go : (t : Bool) → (T t → y ≤ quanta f r) → (T (not t) → quanta f r < y) → T (le (fin false a b) r)
    go true u v = le_of_quanta f (fin false a b) r p h nr.above nr.held (u tt)
    go false u v = absurd (no ((nr.nearer false a b h).0 (v tt)) (twice (v tt)))

nearest : (f : Format) (d : Float) → T (positive d) → T (fits f d) → NearestRoot f d (root f d)
nearest f nan p h = absurd p
nearest f (inf t) p h = absurd p
nearest f (fin true m e) p h = absurd p
nearest f (fin false zero e) p h = absurd p
nearest f (fin false (suc m) e) p h = root_correct f (fin false (suc m) e) h

pub root_positive : (f : Format) (d : Float) → T (positive d) → T (fits f d) → T (positive (root f d))
root_positive f d p h = (nearest f d p h).above

pub below_root : (f : Format) (s d : Float) → T (positive s) → T (fits f s) → T (positive d) → T (fits f d) → lt (mul f s s) d ≡ true → T (le s (root f d))
below_root f s d p h q k t =
    under-root f s d (root f d) p h (nearest f d q k)
    (squares (2 ^ low f) (num s) (den s) (quanta f s) (num d) (den d) (quanta f d) (pow_pos (low f)) (quanta_of f s p h) (quanta_of f d q k) (square-below f s d p q k t))

pub root_le : (f : Format) (x y : Float) → T (positive x) → T (fits f x) → T (positive y) → T (fits f y) → T (le x y) → T (le (root f x) (root f y))
root_le f x y p h q k l =
    le_of_quanta f (root f x) (root f y) (root_positive f x p h) (nearest f x p h).held (root_positive f y q k) (nearest f y q k).held
    (root_mono f x y h p k q (quanta_of_le f x y p h q k l))

-- ---- a quotient grows with its numerator, and shrinks as its denominator grows

div_is : (f : Format) (x y : Float) → T (positive x) → T (positive y) → div f x y ≡ round f false (num x * den y) (num y * den x)
unfolding div
div_is f nan y p q = absurd p
div_is f (inf s) y p q = absurd p
div_is f (fin true m e) y p q = absurd p
div_is f (fin false m e) nan p q = absurd q
div_is f (fin false m e) (inf t) p q = absurd q
div_is f (fin false m e) (fin true n d) p q = absurd q
div_is f (fin false m e) (fin false n d) p q =
    ap (λ (b : Bool). cond b (cond (eqb m 0) nan (inf false)) (round f false (m * up e * down d) (n * up d * down e))) (ne_eqb n 0 (λ z. above_zero (ltb→lt 0 n q) z))
  where
    above_zero : 0 < n → n ≡ 0 → ⊥
    above_zero h z = omega arith

pub div_mono : (f : Format) (x x' z z' : Float) → T (positive x) → T (positive x') → T (positive z) → T (positive z') → T (le x x') → T (le z' z) → T (le (div f x z) (div f x' z'))
div_mono f x x' z z' p p' q q' h k =
    let a : num x * den x' * (num z' * den z) ≡ num x * den z * (num z' * den x') = simp (mul_assoc, mul_comm, mul_left_comm) in
    let b : num x' * den x * (num z * den z') ≡ num x' * den z' * (num z * den x) = simp (mul_assoc, mul_comm, mul_left_comm) in
    subst₂ (λ (u v : Float). T (le u v)) (sym (div_is f x z p q)) (sym (div_is f x' z' p' q'))
    (round_mono f (num x * den z) (num z * den x) (num x' * den z') (num z' * den x') (mul-pos (num_pos z q) (den_pos x)) (mul-pos (num_pos z' q') (den_pos x'))
    (subst₂ (λ (u v : ℕ). u ≤ v) a b (mul-le-mul (le→cross x x' p p' h) (le→cross z' z q' q k))))
