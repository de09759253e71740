-- The size of a sum is at most the sum of the sizes, that of a product their product. Assumes nothing.
use mathlib.Core.Path.{◌≡◌, refl, subst}
use mathlib.Core.Bool.{Bool, true, false, cond}
use Prim.Native.Nat.{ℕ, zero, suc, ◌+◌, ◌-◌, ◌*◌, ◌≤◌, ◌<◌}
use native.Mathlib.Omega.{arith}
use lib.Dec.{T, ltb, ltb→lt}
use lib.IntN.{ℤ, pos, negsuc, neg_ℤ, nat_abs, sub_ℕ, ◌+ℤ◌, ◌-ℤ◌, ◌*ℤ◌}

size-difference : (a b : ℕ) → nat_abs (sub_ℕ a b) ≤ a + b
size-difference a b = go (ltb a b) (ltb→lt a b)
  where
    go : (t : Bool) → (T t → a < b) → nat_abs (cond t (negsuc (b - suc a)) (pos (a - b))) ≤ a + b
    go true h = below (h tt)
      where
        below : a < b → suc (b - suc a) ≤ a + b
        below l = omega arith
    go false h = omega arith

pub size-sum : (a b : ℤ) → nat_abs (a +ℤ b) ≤ nat_abs a + nat_abs b
size-sum (pos a) (pos b) = omega arith
size-sum (pos a) (negsuc b) = size-difference a (suc b)
size-sum (negsuc a) (pos b) = omega (arith, size-difference b (suc a))
size-sum (negsuc a) (negsuc b) = omega arith

pub size-neg : (a : ℤ) → nat_abs (neg_ℤ a) ≡ nat_abs a
size-neg (pos zero) = refl
size-neg (pos (suc n)) = refl
size-neg (negsuc n) = refl

pub size-minus : (a b : ℤ) → nat_abs (a -ℤ b) ≤ nat_abs a + nat_abs b
size-minus a b = subst (λ (n : ℕ). nat_abs (a -ℤ b) ≤ nat_abs a + n) (size-neg b) (size-sum a (neg_ℤ b))

pub size_product : (a b : ℤ) → nat_abs (a *ℤ b) ≡ nat_abs a * nat_abs b
size_product (pos a) (pos b) = refl
size_product (pos a) (negsuc b) = size-neg (pos (a * suc b))
size_product (negsuc a) (pos b) = size-neg (pos (suc a * b))
size_product (negsuc a) (negsuc b) = refl
