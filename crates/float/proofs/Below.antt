-- The order of floats: what is at most a value that is below another is below that other (`le_lt`). So a value kept within bounds and the lesser of two can be judged before all of it is known. Assumes nothing.
use Prim.Native.Nat.{ℕ, ◌+◌, ◌*◌, ◌<◌, ◌≤◌}
use native.Mathlib.Nat.{le_of_lt, le_of_eq, lt_of_lt_of_le, lt_of_le_of_lt, lt_of_mul-lt-mul_right, mul-lt-mul_of_pos_right, mul-le-mul_right, mul_right_comm, mul-pos, zero-mul, eq-zero-or-pos}
use native.Mathlib.Omega.{arith}
use mathlib.Core.Path.{◌≡◌, refl, sym, ap, ◌∙◌, subst, subst₂}
use mathlib.Core.Logic.{◌⊎◌, inl, inr}
use mathlib.Core.Bool.{Bool, true, false, ◌&&◌, ◌||◌, cond, false≢true}
use lib.Dec.{ltb, eqb}
use borrow.Author.Tests.{ltb-true, eqb-true, lt-ltb}
use lib.Ieee.{Float, nan, inf, fin, up, down, below, level, lt, le, eq, is_nan}
use lib.Ieee.Fits.{down_pos}
use lib.Ieee.Positive.{first_pos}
use Rattle.float.specs.Order.{lesser, within}

-- ---- fractions a / d, b / e, c / f

nothing : (b f : ℕ) → b ≡ 0 → b * f ≡ 0
nothing b f z = ap (λ (x : ℕ). x * f) z ∙ zero-mul f

no_more : (a e : ℕ) → 0 < e → a * e ≡ 0 → a ≡ 0
no_more a e p z = elim (eq-zero-or-pos a) [ inl q ↦ q | inr q ↦ (let l = mul-pos q p in absurd (omega arith)) ]

-- a / d is at most b / e, which is below c / f; and with the signs turned
through : (a d b e c f : ℕ) → 0 < d → a * e ≤ b * d → b * f < c * e → a * f < c * d
through a d b e c f p h k =
    lt_of_mul-lt-mul_right e
    (subst₂ (λ (x y : ℕ). x < y) (mul_right_comm a e f) (mul_right_comm c e d)
    (lt_of_le_of_lt (subst (λ (x : ℕ). a * e * f ≤ x) (mul_right_comm b d f) (mul-le-mul_right f h)) (mul-lt-mul_of_pos_right k p)))

back : (a d b e c f : ℕ) → 0 < d → b * d ≤ a * e → c * e < b * f → c * d < a * f
back a d b e c f p h k =
    lt_of_mul-lt-mul_right e
    (subst₂ (λ (x y : ℕ). x < y) (mul_right_comm c e d) (mul_right_comm a e f)
    (lt_of_lt_of_le (mul-lt-mul_of_pos_right k p) (subst (λ (x : ℕ). x ≤ a * e * f) (mul_right_comm b d f) (mul-le-mul_right f h))))

-- ---- with signs

either : (x y : Bool) → (x || y) ≡ true → (x ≡ true) ⊎ (y ≡ true)
either true y h = inl refl
either false y h = inr h

first : (x y : Bool) → (x && y) ≡ true → x ≡ true
first true y h = refl
first false y h = h

second : (x y : Bool) → (x && y) ≡ true → y ≡ true
second true y h = h
second false y h = absurd (false≢true h)

at_most : (a b : ℕ) (t : Bool) → (ltb a b || (eqb a b && t)) ≡ true → a ≤ b
at_most a b t h = elim (either (ltb a b) (eqb a b && t) h) [ inl l ↦ le_of_lt (ltb-true a b l) | inr q ↦ le_of_eq (eqb-true a b (first (eqb a b) t q)) ]

at_least : (a b : ℕ) (t : Bool) → (ltb b a || (eqb a b && t)) ≡ true → b ≤ a
at_least a b t h = elim (either (ltb b a) (eqb a b && t) h) [ inl l ↦ le_of_lt (ltb-true b a l) | inr q ↦ le_of_eq (sym (eqb-true a b (first (eqb a b) t q))) ]

signed : (s t u : Bool) (a d b e c f : ℕ) → 0 < d → 0 < e → 0 < f → (below s (a * e) t (b * d) || level s (a * e) t (b * d)) ≡ true → below t (b * f) u (c * e) ≡ true → below s (a * f) u (c * d) ≡ true
signed false false false a d b e c f D E F h k = lt-ltb (a * f) (c * d) (through a d b e c f D (at_most (a * e) (b * d) true h) (ltb-true (b * f) (c * e) k))
signed false false true a d b e c f D E F h k = k
signed false true false a d b e c f D E F h k =
    let az : a * e ≡ 0 = eqb-true (a * e) 0 (second (eqb (a * e) (b * d)) (eqb (a * e) 0) h) in
    let bz : b * d ≡ 0 = sym (eqb-true (a * e) (b * d) (first (eqb (a * e) (b * d)) (eqb (a * e) 0) h)) ∙ az in
    let a0 = nothing a f (no_more a e E az) in
    let b0 = nothing b f (no_more b d D bz) in
    let l = ltb-true 0 (b * f + c * e) k in
    let c1 : 0 < c * d = mul-pos (first_pos c e (omega arith)) D in
    lt-ltb (a * f) (c * d) (omega arith)
signed false true true a d b e c f D E F h k =
    let az : a * e ≡ 0 = eqb-true (a * e) 0 (second (eqb (a * e) (b * d)) (eqb (a * e) 0) h) in
    let bz : b * d ≡ 0 = sym (eqb-true (a * e) (b * d) (first (eqb (a * e) (b * d)) (eqb (a * e) 0) h)) ∙ az in
    let b0 = nothing b f (no_more b d D bz) in
    let l = ltb-true (c * e) (b * f) k in
    absurd (omega arith)
signed true false false a d b e c f D E F h k =
    let l = ltb-true (b * f) (c * e) k in
    let c1 : 0 < c * d = mul-pos (first_pos c e (omega arith)) D in
    lt-ltb 0 (a * f + c * d) (omega arith)
signed true false true a d b e c f D E F h k = absurd (false≢true k)
signed true true false a d b e c f D E F h k =
    let g = at_least (a * e) (b * d) true h in
    let l = ltb-true 0 (b * f + c * e) k in
    lt-ltb 0 (a * f + c * d) (elim (eq-zero-or-pos b) [
      | inl z ↦ (let b0 = nothing b f z in let c1 : 0 < c * d = mul-pos (first_pos c e (omega arith)) D in omega arith)
      | inr p ↦ (let b1 : 0 < b * d = mul-pos p D in let a1 : 0 < a * f = mul-pos (first_pos a e (omega arith)) F in omega arith)
    ])
signed true true true a d b e c f D E F h k = lt-ltb (c * d) (a * f) (back a d b e c f D (at_least (a * e) (b * d) true h) (ltb-true (c * e) (b * f) k))

-- ---- floats

pub le_lt : (x y z : Float) → le x y ≡ true → lt y z ≡ true → lt x z ≡ true
unfolding le lt eq
le_lt nan y z h k = absurd (false≢true h)
le_lt (inf s) nan z h k = absurd (false≢true k)
le_lt (inf true) (inf true) z h k = k
le_lt (inf true) (inf false) nan h k = absurd (false≢true k)
le_lt (inf true) (inf false) (inf u) h k = absurd (false≢true k)
le_lt (inf true) (inf false) (fin u n g) h k = absurd (false≢true k)
le_lt (inf true) (fin t m e) nan h k = k
le_lt (inf true) (fin t m e) (inf u) h k = k
le_lt (inf true) (fin t m e) (fin u n g) h k = refl
le_lt (inf false) (inf true) z h k = absurd (false≢true h)
le_lt (inf false) (inf false) z h k = k
le_lt (inf false) (fin t m e) z h k = absurd (false≢true h)
le_lt (fin s m e) nan z h k = absurd (false≢true k)
le_lt (fin s m e) (inf true) z h k = absurd (false≢true h)
le_lt (fin s m e) (inf false) nan h k = absurd (false≢true k)
le_lt (fin s m e) (inf false) (inf u) h k = absurd (false≢true k)
le_lt (fin s m e) (inf false) (fin u n g) h k = absurd (false≢true k)
le_lt (fin s m e) (fin t n d) nan h k = absurd (false≢true k)
le_lt (fin s m e) (fin t n d) (inf u) h k = k
le_lt (fin s m e) (fin t n d) (fin u i g) h k = signed s t u (m * up e) (down e) (n * up d) (down d) (i * up g) (down g) (down_pos e) (down_pos d) (down_pos g) h k

pub lt_le : (x y : Float) → lt x y ≡ true → le x y ≡ true
unfolding le
lt_le x y h = ap (λ (t : Bool). t || eq x y) h

-- where a value is not below the greater bound, it is not below what is kept within the bounds
pub within-below : (q own lo hi : Float) → lt hi lo ≡ false → lt hi hi ≡ false → le hi q ≡ true → lt q (within own lo hi) ≡ false
unfolding within
within-below q own lo hi l r h = go (lt own lo) (lt hi own) refl
  where
    not_below : (z : Float) → lt hi z ≡ false → (t : Bool) → lt q z ≡ t → lt q z ≡ false
    not_below z n true e = absurd (false≢true (sym n ∙ le_lt hi q z h e))
    not_below z n false e = e

    go : (t u : Bool) → lt hi own ≡ u → lt q (cond t lo (cond u hi own)) ≡ false
    go true u e = not_below lo l (lt q lo) refl
    go false true e = not_below hi r (lt q hi) refl
    go false false e = not_below own e (lt q own) refl

-- what is below the lesser of two is below the first, where that is no NaN
pub lesser_lt : (a m q : Float) → is_nan m ≡ false → lt a (lesser m q) ≡ true → lt a m ≡ true
unfolding lesser
lesser_lt a m q n h = go (lt q m) refl (subst (λ (t : Bool). lt a (cond t q (cond (lt q m) q m)) ≡ true) n h)
  where
    go : (t : Bool) → lt q m ≡ t → lt a (cond t q m) ≡ true → lt a m ≡ true
    go true e k = le_lt a q m (lt_le a q k) e
    go false e k = k

pub lesser_le : (a m q : Float) → is_nan m ≡ false → le a (lesser m q) ≡ true → le a m ≡ true
unfolding lesser
lesser_le a m q n h = go (lt q m) refl (subst (λ (t : Bool). le a (cond t q (cond (lt q m) q m)) ≡ true) n h)
  where
    go : (t : Bool) → lt q m ≡ t → le a (cond t q m) ≡ true → le a m ≡ true
    go true e k = lt_le a m (le_lt a q m k e)
    go false e k = k

-- the lesser of two is no NaN where the first is none
either_number : (t : Bool) (m q : Float) → is_nan m ≡ false → is_nan q ≡ false → is_nan (cond t q m) ≡ false
either_number true m q n k = k
either_number false m q n k = n

number_or : (m q : Float) → is_nan m ≡ false → is_nan (cond (lt q m) q m) ≡ false
unfolding is_nan lt
number_or m nan n = n
number_or m (inf s) n = either_number (lt (inf s) m) m (inf s) n refl
number_or m (fin s i e) n = either_number (lt (fin s i e) m) m (fin s i e) n refl

pub lesser-number : (m q : Float) → is_nan m ≡ false → is_nan (lesser m q) ≡ false
unfolding lesser
lesser-number m q n = subst (λ (t : Bool). is_nan (cond t q (cond (lt q m) q m)) ≡ false) (sym n) (number_or m q n)
