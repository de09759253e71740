-- The test of a guess g at √N: a square by the halves of g, which of g and the numbers beside it is the nearest, and when none is. Assumes nothing.
use mathlib.Core.Path.{◌≡◌, refl, sym, ap, ◌∙◌, subst}
use mathlib.Core.Bool.{Bool, true, false, not, ◌&&◌, cond}
use Prim.Native.Nat.{ℕ, ◌+◌, ◌-◌, ◌*◌, ◌/◌, ◌%◌, ◌^◌, ◌≤◌, ◌<◌}
use native.Mathlib.Nat.{add-mul, mul-add, mul_comm, mul_right_comm, mul-mul-mul_comm, mul-le-mul, div-add-mod'}
use native.Mathlib.Omega.{arith}
use borrow.Author.Tests.{le-leb, lt-leb}
use lib.Dec.{T, leb, ltb, leb→le, nleb→lt, ltb→lt, nltb→le}
use mir.Val.{bool_byte}
use Rattle.float.specs.Root.{nearest_root}
use Rattle.std.specs.Prelude.{None, Some}
use Rattle.std.proofs.lemmas.Option.{none-some, same_Some}
use Rattle.float.specs.Guess.{if_beside}
use Rattle.float.proofs.Digit.{sq_add-one}
use Rattle.float.proofs.Between.{Between, nearest-between, between-nearest, more_than, at_most, sq_less-one}

-- ---- a square by halves

sum-square : (x b : ℕ) → (x + b) * (x + b) ≡ x * x + 2 * (x * b) + b * b
sum-square x b = omega (arith, add-mul x b (x + b), mul-add x x b, mul-add b x b, mul_comm b x)

-- the products of the halves fit a word
pub record Parts (a b : ℕ) : Type 0 where
  pub aa : a * a ≤ 2 ^ 26 * 2 ^ 26
  pub ab : a * b ≤ 2 ^ 26 * 2 ^ 27
  pub bb : b * b ≤ 2 ^ 27 * 2 ^ 27

module _ (g : ℕ) (small : g < 2 ^ 53) where
  pub parts : Parts (g / 2 ^ 27) (g % 2 ^ 27)
  parts =
      let p : g / 2 ^ 27 ≤ 2 ^ 26 = omega arith in
      let q : g % 2 ^ 27 ≤ 2 ^ 27 = omega arith in
      record { aa = mul-le-mul p p; ab = mul-le-mul p q; bb = mul-le-mul q q }

  pub square : g * g ≡ (g / 2 ^ 27 * (g / 2 ^ 27) * 4 + g / 2 ^ 27 * (g % 2 ^ 27) / 2 ^ 24) * 2 ^ 52 + (g / 2 ^ 27 * (g % 2 ^ 27) % 2 ^ 24 * 2 ^ 28 + g % 2 ^ 27 * (g % 2 ^ 27))
  square =
      let a = g / 2 ^ 27 in
      let b = g % 2 ^ 27 in
      let e : g * g ≡ (a * 2 ^ 27 + b) * (a * 2 ^ 27 + b) = ap (λ (x : ℕ). x * x) (sym (div-add-mod' g (2 ^ 27))) in
      let s : (a * 2 ^ 27 + b) * (a * 2 ^ 27 + b) ≡ a * 2 ^ 27 * (a * 2 ^ 27) + 2 * (a * 2 ^ 27 * b) + b * b = sum-square (a * 2 ^ 27) b in
      let p : a * 2 ^ 27 * (a * 2 ^ 27) ≡ a * a * 2 ^ 54 = mul-mul-mul_comm a (2 ^ 27) a (2 ^ 27) in
      let q : a * 2 ^ 27 * b ≡ a * b * 2 ^ 27 = mul_right_comm a (2 ^ 27) b in
      by (a * a) (a * b) (b * b) (e ∙ s) p q
    where
      by : {G X Y : ℕ} (aa ab bb : ℕ) → G ≡ X + 2 * Y + bb → X ≡ aa * 2 ^ 54 → Y ≡ ab * 2 ^ 27 → G ≡ (aa * 4 + ab / 2 ^ 24) * 2 ^ 52 + (ab % 2 ^ 24 * 2 ^ 28 + bb)
      by {G} {X} {Y} aa ab bb e p q = omega arith

-- ---- `if_beside`

pub beside-is : (g q r : ℕ) → Some r ≡ if_beside g q → r ≡ q
unfolding if_beside
beside-is g q r e = go (leb q (g + 1) && leb g (q + 1)) e
  where
    go : (t : Bool) → Some r ≡ cond t (Some q) None → r ≡ q
    go true e = same_Some r q e
    go false e = absurd (none-some r (sym e))

beside : (g q : ℕ) → q ≤ g + 1 → g ≤ q + 1 → Some q ≡ if_beside g q
unfolding if_beside
beside g q a b = rw (le-leb q (g + 1) a, le-leb g (q + 1) b)

too_low : (g q : ℕ) → g + 1 < q → None ≡ if_beside g q
unfolding if_beside
too_low g q a = rw (lt-leb q (g + 1) a)

too_high : (g q : ℕ) → q + 1 < g → None ≡ if_beside g q
unfolding if_beside
too_high g q a = go (leb q (g + 1)) (lt-leb g (q + 1) a)
  where
    go : (t : Bool) → leb g (q + 1) ≡ false → None ≡ cond (t && leb g (q + 1)) (Some q) None
    go true e = rw e
    go false e = refl

-- ---- g and the numbers beside it

module _ (N g : ℕ) (two : 2 ≤ g) where
  -- beyond the midpoints of the three
  pub none_above : g * g + 3 * g + 2 < N → None ≡ if_beside g (nearest_root N 0)
  none_above h = too_low g (nearest_root N 0) (more_than (nearest-between N) (g + 1) (omega (arith, sq_add-one g)))

  pub none_below : N + 3 * g ≤ g * g + 2 → None ≡ if_beside g (nearest_root N 0)
  none_below h = too_high g (nearest_root N 0) (under (at_most (nearest-between N) (g - 1 - 1) (omega (arith, sq_less-one g (omega arith), sq_less-one (g - 1) (omega arith)))))
    where
      under : nearest_root N 0 ≤ g - 1 - 1 → nearest_root N 0 + 1 < g
      under l = omega arith

  -- p - q is N - g ^ 2 + g, as the code has it
  module _ (p q : ℕ) (e : p + g * g ≡ q + N + g) where
    pub above-all : q + g * 4 + 2 < p → None ≡ if_beside g (nearest_root N 0)
    above-all h = none_above (omega arith)

    pub below_all : p + g * 2 ≤ q + 2 → None ≡ if_beside g (nearest_root N 0)
    below_all h = none_below (omega arith)

    module _ (low : q + 2 < p + g * 2) (high : p ≤ q + g * 4 + 2) where
      found : (r : ℕ) → 1 ≤ r → r ≤ g + 1 → g ≤ r + 1 → Between N r → Some r ≡ if_beside g (nearest_root N 0)
      found r one a b h = subst (λ (x : ℕ). Some r ≡ if_beside g x) (sym (between-nearest one h)) (beside g r a b)

      -- one below, g itself, one above
      under : p ≤ q → Some (g - 1) ≡ if_beside g (nearest_root N 0)
      under h = found (g - 1) (omega arith) (omega arith) (omega arith) (record { over = λ o. omega (arith, sq_less-one g (omega arith)); under = omega (arith, sq_less-one g (omega arith)) })

      same : q < p → p ≤ q + g * 2 → Some g ≡ if_beside g (nearest_root N 0)
      same h k = found g (omega arith) (omega arith) (omega arith) (record { over = λ o. omega arith; under = omega arith })

      over : q + g * 2 < p → Some (g + 1) ≡ if_beside g (nearest_root N 0)
      over h = found (g + 1) (omega arith) (omega arith) (omega arith) (record { over = λ o. omega (arith, sq_add-one g); under = omega (arith, sq_add-one g) })

      pub one_of_three : Some (g + bool_byte (ltb (q + g * 2) p) - bool_byte (leb p q)) ≡ if_beside g (nearest_root N 0)
      one_of_three = go (ltb (q + g * 2) p) (leb p q) (ltb→lt (q + g * 2) p) (nltb→le (q + g * 2) p) (leb→le p q) (nleb→lt p q)
        where
          less_one : g + 0 - 1 ≡ g - 1
          less_one = omega arith

          itself : g + 0 - 0 ≡ g
          itself = omega arith

          one_more : g + 1 - 0 ≡ g + 1
          one_more = omega arith

          not_both : q + g * 2 < p → p ≤ q → ⊥
          not_both x y = omega arith

          go : (s t : Bool) → (T s → q + g * 2 < p) → (T (not s) → p ≤ q + g * 2) → (T t → p ≤ q) → (T (not t) → q < p) → Some (g + bool_byte s - bool_byte t) ≡ if_beside g (nearest_root N 0)
          go true true a b c d = absurd (not_both (a tt) (c tt))
          go true false a b c d = ap Some one_more ∙ over (a tt)
          go false true a b c d = ap Some less_one ∙ under (c tt)
          go false false a b c d = ap Some itself ∙ same (d tt) (b tt)

-- ---- the test's words: the square is h * 2 ^ 52 + l, and w * 2 ^ 52 is N

module _ (g w h l S : ℕ) (e : S ≡ h * 2 ^ 52 + l) where
  pub words : h ≤ w + 8 → (w + 8 - h) * 2 ^ 52 + g + S ≡ l + 2 ^ 55 + w * 2 ^ 52 + g
  words k = omega arith

  -- far off already by the leading words
  pub far-below : g < 2 ^ 53 → w + 8 < h → w * 2 ^ 52 + 3 * g ≤ S + 2
  far-below s k = omega arith

  pub far-above : g < 2 ^ 53 → l < 2 ^ 55 → h ≤ w + 8 → 32 ≤ w + 8 - h → S + 3 * g + 2 < w * 2 ^ 52
  far-above s m k n = omega arith

-- a bit can be added, and another taken away
bit : (t : Bool) → bool_byte t ≤ 1
bit true = omega arith
bit false = omega arith

pub room-above : (g : ℕ) (s : Bool) → g < 2 ^ 53 → g + bool_byte s < 2 ^ 64
room-above g s h = omega (arith, bit s)

pub room-below : (g : ℕ) (s t : Bool) → 2 ^ 52 ≤ g → bool_byte t ≤ g + bool_byte s
room-below g s t h = omega (arith, bit t)
