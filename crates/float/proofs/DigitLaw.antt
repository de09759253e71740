-- The digit law: for any number of digits to come, the recurrence gives the whole number nearest to the root of the radicand.
-- `digits_step` is the turn as the code has it, the digit being the value of a comparison. Assumes nothing.
use mathlib.Core.Path.{◌≡◌, refl, sym, ap, ◌∙◌, subst}
use mathlib.Core.Bool.{Bool, true, false, not, cond}
use Prim.Native.Nat.{ℕ, zero, suc, ◌+◌, ◌-◌, ◌*◌, ◌/◌, ◌%◌, ◌^◌, ◌≤◌, ◌<◌}
use native.Mathlib.Nat.{add-zero, mul_assoc, pow-succ', mul-one}
use native.Mathlib.Numerals.{add-one}
use native.Mathlib.Omega.{arith}
use lib.Dec.{T, leb, leb→le, nleb→lt}
use mir.Val.{bool_byte}
use Rattle.float.specs.Root.{nearest_root}
use Rattle.float.specs.Digits.{Rooted, radicand, recurrence}
use Rattle.float.proofs.Digit.{step-low, step-high}
use Rattle.float.proofs.Isqrt.{at_zero, picks-low, picks-high}

-- ---- the digits come off the top of a word, and zeros follow

feed_one : (p b : ℕ) → b < 2 ^ 64 → (4 * p + b / 2 ^ 62) * 2 ^ 64 + b * 2 ^ 2 % 2 ^ 64 ≡ (p * 2 ^ 64 + b) * 4
feed_one p b h = omega arith

feed : (p b w : ℕ) → b < 2 ^ 64 → ((4 * p + b / 2 ^ 62) * 2 ^ 64 + b * 2 ^ 2 % 2 ^ 64) * 4 ^ w ≡ (p * 2 ^ 64 + b) * 4 ^ suc w
feed p b w h =
    ap (λ (x : ℕ). x * 4 ^ w) (feed_one p b h)
    ∙ mul_assoc (p * 2 ^ 64 + b) 4 (4 ^ w)
    ∙ ap (λ (x : ℕ). (p * 2 ^ 64 + b) * x) (sym (pow-succ' 4 w))

-- with no digit left, what was taken is the whole
taken : (p b : ℕ) → b < 2 ^ 64 → p ≡ (p * 2 ^ 64 + b) / 2 ^ 64
taken p b h = omega arith

radicand_end : (l r s b : ℕ) → l ≡ 0 → b < 2 ^ 64 → r * r + s ≡ radicand l r s b
radicand_end l r s b e h =
    taken (r * r + s) b h ∙ ap (λ (x : ℕ). x / 2 ^ 64) (sym (mul-one ((r * r + s) * 2 ^ 64 + b)) ∙ ap (λ (x : ℕ). ((r * r + s) * 2 ^ 64 + b) * 4 ^ x) (sym e))

-- one digit on, with its root r' and what that leaves, s', the radicand is the same
radicand-step : (w r s b r' s' : ℕ) → b < 2 ^ 64 → r' * r' + s' ≡ 4 * (r * r + s) + b / 2 ^ 62 → radicand w r' s' (b * 2 ^ 2 % 2 ^ 64) ≡ radicand (suc w) r s b
radicand-step w r s b r' s' h e =
    ap (λ (x : ℕ). (x * 2 ^ 64 + b * 2 ^ 2 % 2 ^ 64) * 4 ^ w / 2 ^ 64) e ∙ ap (λ (x : ℕ). x / 2 ^ 64) (feed (r * r + s) b w h)

-- ---- the law

-- what is carried: √n cut to a whole number, and n less its square
abbrev carried : (r s : ℕ) → s ≤ 2 * r → Rooted (r * r + s) r s
carried r s h = record { whole = refl; small = h }

-- with no digit to come, the rounded root
rounds : (r s b : ℕ) → s ≤ 2 * r → b < 2 ^ 64 → cond (leb s r) r (r + 1) ≡ nearest_root (radicand 0 r s b) 0
rounds r s b h l = go (leb s r) (leb→le s r) (nleb→lt s r) ∙ ap (λ (n : ℕ). nearest_root n 0) (at_zero (r * r + s) ∙ radicand_end 0 r s b refl l)
  where
    go : (t : Bool) → (T t → s ≤ r) → (T (not t) → r < s) → cond t r (r + 1) ≡ nearest_root ((r * r + s) * (2 ^ 0 * 2 ^ 0)) 0
    go true x y = sym (picks-low (r * r + s) 0 r s (carried r s h) (x tt))
    go false x y = add-one r ∙ sym (picks-high (r * r + s) 0 r s (carried r s h) (y tt))

-- For every width w.
pub digit_law : (w r s b : ℕ) → s ≤ 2 * r → b < 2 ^ 64 → recurrence w r s b ≡ nearest_root (radicand w r s b) 0
unfolding recurrence
digit_law zero r s b h l = rounds r s b h l
digit_law (suc w) r s b h l = go (leb (r * 4 + 1) (s * 4 + b / 2 ^ 62)) (leb→le (r * 4 + 1) (s * 4 + b / 2 ^ 62)) (nleb→lt (r * 4 + 1) (s * 4 + b / 2 ^ 62)) (digit_law w)
  where
    short : b / 2 ^ 62 < 4
    short = omega arith

    on : {r' s' : ℕ} → Rooted (4 * (r * r + s) + b / 2 ^ 62) r' s' → ((r s b : ℕ) → s ≤ 2 * r → b < 2 ^ 64 → recurrence w r s b ≡ nearest_root (radicand w r s b) 0)
        → recurrence w r' s' (b * 2 ^ 2 % 2 ^ 64) ≡ nearest_root (radicand (suc w) r s b) 0
    on {r'} {s'} k ih = ih r' s' (b * 2 ^ 2 % 2 ^ 64) k.small (omega arith) ∙ ap (λ (n : ℕ). nearest_root n 0) (radicand-step w r s b r' s' l k.whole)

    go : (t : Bool) → (T t → r * 4 + 1 ≤ s * 4 + b / 2 ^ 62) → (T (not t) → s * 4 + b / 2 ^ 62 < r * 4 + 1)
        → ((r s b : ℕ) → s ≤ 2 * r → b < 2 ^ 64 → recurrence w r s b ≡ nearest_root (radicand w r s b) 0)
        → cond t (recurrence w (r * 2 + 1) (s * 4 + b / 2 ^ 62 - (r * 4 + 1)) (b * 2 ^ 2 % 2 ^ 64)) (recurrence w (r * 2) (s * 4 + b / 2 ^ 62) (b * 2 ^ 2 % 2 ^ 64)) ≡ nearest_root (radicand (suc w) r s b) 0
    go true x y ih = on (step-high (b / 2 ^ 62) short (carried r s h) (x tt)) ih
    go false x y ih = on (step-low (b / 2 ^ 62) (carried r s h) (y tt)) ih

-- ---- the recurrence as the code has it

pub digits_end : (l r s b : ℕ) → l ≡ 0 → cond (leb s r) r (r + 1) ≡ recurrence l r s b
unfolding recurrence
digits_end l r s b e = subst (λ (n : ℕ). cond (leb s r) r (r + 1) ≡ recurrence n r s b) (sym e) refl

digit_of_lem : (w r n : ℕ) (t : Bool) (b : ℕ) → recurrence w (r * 2 + bool_byte t) (n - (r * 4 + 1) * bool_byte t) b ≡ cond t (recurrence w (r * 2 + 1) (n - (r * 4 + 1)) b) (recurrence w (r * 2) n b)
digit_of_lem w r n true b = ap (λ (x : ℕ). recurrence w (r * 2 + 1) (n - x) b) (mul-one (r * 4 + 1))
digit_of_lem w r n false b = ap (λ (x : ℕ). recurrence w x (n - (r * 4 + 1) * 0) b) (add-zero (r * 2)) ∙ ap (λ (x : ℕ). recurrence w (r * 2) x b) none
  where
    none : n - (r * 4 + 1) * 0 ≡ n
    none = omega arith

pub digits_step : (l r s b : ℕ) → 0 < l
    → recurrence (l - 1) (r * 2 + bool_byte (leb (r * 4 + 1) (s * 4 + b / 2 ^ 62))) (s * 4 + b / 2 ^ 62 - (r * 4 + 1) * bool_byte (leb (r * 4 + 1) (s * 4 + b / 2 ^ 62))) (b * 2 ^ 2 % 2 ^ 64) ≡ recurrence l r s b
unfolding recurrence
digits_step zero r s b z = absurd (none z)
  where
    none : 0 < 0 → ⊥
    none z = omega arith
digits_step (suc w) r s b z =
    ap (λ (x : ℕ). recurrence x (r * 2 + bool_byte (leb (r * 4 + 1) (s * 4 + b / 2 ^ 62))) (s * 4 + b / 2 ^ 62 - (r * 4 + 1) * bool_byte (leb (r * 4 + 1) (s * 4 + b / 2 ^ 62))) (b * 2 ^ 2 % 2 ^ 64)) (less w)
    ∙ digit_of_lem w r (s * 4 + b / 2 ^ 62) (leb (r * 4 + 1) (s * 4 + b / 2 ^ 62)) (b * 2 ^ 2 % 2 ^ 64)
  where
    less : (w : ℕ) → suc w - 1 ≡ w
    less w = omega arith
