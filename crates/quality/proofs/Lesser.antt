-- A quality that is kept is finite and above zero, and the least of two such is one and is at most each. Assumes nothing.
use Prim.Native.Nat.{ℕ, ◌+◌, ◌*◌, ◌<◌}
use native.Mathlib.Nat.{le_refl, le_of_lt, lt_of_lt_of_le, le-add_right, mul-pos, eq-zero-or-pos}
use native.Mathlib.Omega.{arith}
use mathlib.Core.Path.{◌≡◌, refl, sym, ap, ◌∙◌}
use mathlib.Core.Logic.{inl, inr}
use mathlib.Core.Bool.{Bool, true, false, cond, true≢false}
use lib.IntN.{ℤ}
use lib.Dec.{T, ltb, lt→ltb, ltb→lt}
use lib.Pow.{pow_pos}
use borrow.Author.Tests.{ltb-true, ltb-false, lt-ltb}
use lib.Ieee.{Float, nan, inf, fin, of_int, lt, le, up, down}
use lib.Ieee.Fits.{up_pos}
use lib.Ieee.Positive.{positive, num, den, cross→le}
use Rattle.float.specs.Order.{lesser, is_finite}
use Rattle.quality.specs.Quality.{number, degenerate}
use Rattle.quality.proofs.Distinct.{zero-low}

-- a quality that is kept is finite and above zero
not_low : {A : Type 0} (s : Bool) (m : ℕ) (e : ℤ) → m ≡ 0 → degenerate (fin s m e) ≡ false → A
unfolding is_finite
not_low s m e z h = absurd (true≢false (sym (ap (λ (k : ℕ). le (fin s k e) (number 0)) z ∙ zero-low s e) ∙ h))

below-low : (m : ℕ) (e : ℤ) → 0 < m → le (fin true m e) (number 0) ≡ true
unfolding le of_int
below-low m e h = rw (lt-ltb 0 (m * up e * 1 + 0 * 1 * down e) (lt_of_lt_of_le (mul-pos (mul-pos h (up_pos e)) (pow_pos 0)) (le-add_right _ _)))

pub kept_positive : (q : Float) → degenerate q ≡ false → T (positive q)
unfolding is_finite le of_int
kept_positive nan e = absurd (true≢false e)
kept_positive (inf s) e = absurd (true≢false e)
kept_positive (fin true m e') e = elim (eq-zero-or-pos m) [ inl z ↦ not_low true m e' z e | inr p ↦ absurd (true≢false (sym (below-low m e' p) ∙ e)) ]
kept_positive (fin false m e') e = elim (eq-zero-or-pos m) [ inl z ↦ not_low false m e' z e | inr p ↦ lt→ltb 0 m p ]

-- above zero, in the order of floats
pub above_zero : (q : Float) → T (positive q) → T (lt (number 0) q)
unfolding lt of_int
above_zero nan h = absurd h
above_zero (inf s) h = absurd h
above_zero (fin true m e) h = absurd h
above_zero (fin false m e) h =
    let p : 0 < m * up e * 1 = mul-pos (mul-pos (ltb→lt 0 m h) (up_pos e)) (pow_pos 0) in
    lt→ltb (0 * 1 * down e) (m * up e * 1) (omega arith)

pub one_positive : T (positive (number 1))
unfolding of_int
one_positive = tt

pub record Lesser (least m q : Float) : Type 0 where
  pub above : T (positive least)
  pub first : T (le least m)
  pub second : T (le least q)

pub itself : (x : Float) → T (positive x) → T (le x x)
itself x h = cross→le x x h h (le_refl _)

pick : (x y : Float) → T (positive x) → T (positive y) → (b : Bool) → ltb (num y * den x) (num x * den y) ≡ b → Lesser (cond b y x) x y
pick x y X Y true h = record { above = Y; first = cross→le y x Y X (le_of_lt (ltb-true (num y * den x) (num x * den y) h)); second = itself y Y }
pick x y X Y false h = record { above = X; first = itself x X; second = cross→le x y X Y (ltb-false (num y * den x) (num x * den y) h) }

pub lesser_positive : (m q : Float) → T (positive m) → T (positive q) → Lesser (lesser m q) m q
unfolding lesser
lesser_positive nan q M Q = absurd M
lesser_positive (inf s) q M Q = absurd M
lesser_positive (fin true m e) q M Q = absurd M
lesser_positive (fin false m e) nan M Q = absurd Q
lesser_positive (fin false m e) (inf t) M Q = absurd Q
lesser_positive (fin false m e) (fin true n d) M Q = absurd Q
lesser_positive (fin false m e) (fin false n d) M Q =
    pick (fin false m e) (fin false n d) M Q (ltb (n * up d * down e) (m * up e * down d)) refl
