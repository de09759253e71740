-- What the degrees gain by a flip, without squares: it takes a side from a and b and gives one to c and d, and the sum of squares falls just where a + b is greater than c + d + 2.
use Prim.Native.Nat.{ℕ, zero, suc, ◌+◌, ◌-◌, ◌*◌, ◌<◌}
use mathlib.Core.Path.{◌≡◌, refl, ◌∙◌}
use mathlib.Core.Bool.{Bool, true, false}
use native.Mathlib.Omega.{arith}
use native.Mathlib.Nat.{mul-suc, suc-mul}
use lib.Dec.{ltb}
use borrow.Author.Tests.{lt-ltb, le-ltb, ltb-true, ltb-false}
use Rattle.oracle.specs.Gains.{excess, evens}

square : (k : ℕ) → suc k * suc k ≡ k * k + 2 * k + 1
square k = omega (arith, mul-suc (suc k) k, suc-mul k k)

-- one side more: the signed difference is 2 * n - 11
step : (n : ℕ) → excess (suc n) + 11 ≡ excess n + 2 * n
step zero = refl
step (suc zero) = refl
step (suc (suc zero)) = refl
step (suc (suc (suc zero))) = refl
step (suc (suc (suc (suc zero)))) = refl
step (suc (suc (suc (suc (suc zero))))) = refl
step (suc (suc (suc (suc (suc (suc k)))))) =
    let n = suc (suc (suc (suc (suc (suc k))))) in
    above (suc n - 6) (6 - suc n) (n - 6) (6 - n) n (omega arith) (omega arith) (omega arith) (omega arith)
  where
    above : (p q r s n : ℕ) → p ≡ suc r → q ≡ 0 → s ≡ 0 → n ≡ r + 6 → p * p + q * q + 11 ≡ r * r + s * s + 2 * n
    above p q r s n e f g h = rw (e, f, g) (omega (arith, square r))

one_more : (m n : ℕ) → n ≡ suc m → excess n + 11 ≡ excess m + 2 * m
one_more m n e = rw e (step m)

-- w, x, y, z: the four terms after the flip; s, t, u, v: before it
falls : (a b c d w x y z s t u v : ℕ) → s + 11 ≡ w + 2 * a → t + 11 ≡ x + 2 * b → y + 11 ≡ u + 2 * c → z + 11 ≡ v + 2 * d
    → ltb (w + x + y + z) (s + t + u + v) ≡ ltb (c + d) (a + b)
falls a b c d w x y z s t u v e f g h = go (ltb (c + d) (a + b)) refl
  where
    go : (k : Bool) → ltb (c + d) (a + b) ≡ k → ltb (w + x + y + z) (s + t + u + v) ≡ k
    go true i = lt-ltb (w + x + y + z) (s + t + u + v) (omega (arith, ltb-true (c + d) (a + b) i))
    go false i = le-ltb (w + x + y + z) (s + t + u + v) (omega (arith, ltb-false (c + d) (a + b) i))

pub even : (a b c d : ℕ) → 0 < a → 0 < b → evens a b c d ≡ ltb (c + d + 2) (a + b)
unfolding evens
even a b c d p q = falls (a - 1) (b - 1) c d _ _ _ _ _ _ _ _ (one_more (a - 1) a (omega arith)) (one_more (b - 1) b (omega arith)) (one_more c (c + 1) (omega arith)) (one_more d (d + 1) (omega arith)) ∙ same
  where
    same : ltb (c + d) (a - 1 + (b - 1)) ≡ ltb (c + d + 2) (a + b)
    same = go (ltb (c + d + 2) (a + b)) refl
      where
        go : (k : Bool) → ltb (c + d + 2) (a + b) ≡ k → ltb (c + d) (a - 1 + (b - 1)) ≡ k
        go true i = lt-ltb (c + d) (a - 1 + (b - 1)) (omega (arith, ltb-true (c + d + 2) (a + b) i))
        go false i = le-ltb (c + d) (a - 1 + (b - 1)) (omega (arith, ltb-false (c + d + 2) (a + b) i))
