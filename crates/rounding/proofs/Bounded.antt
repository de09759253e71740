-- Whole numbers of 2 ^ -k with a bound on their size: their sums, differences and products are exact as long as the bounds stay below 2 ^ prec. Assumes nothing.
use Prim.Native.Nat.{ℕ, ◌+◌, ◌*◌, ◌^◌, ◌≤◌, ◌<◌}
use native.Mathlib.Nat.{mul-le-mul, le_trans, le_of_eq, add-le-add, lt_of_le_of_lt}
use lib.IntN.{ℤ, nat_abs, ◌+ℤ◌, ◌-ℤ◌, ◌*ℤ◌}
use lib.Ieee.{Float, Format, prec, low, add, sub, mul}
use Rattle.integers.proofs.Size.{size-sum, size-minus, size_product}
use Rattle.rounding.specs.Fraction.{Is}
use Rattle.rounding.proofs.Exactness.{add-exact, sub-exact, mul-exact}

-- x is z of 2 ^ -k, at most b of them
pub record Holds (x : Float) (z : ℤ) (k b : ℕ) : Type 0 where
  pub is : Is x z (2 ^ k)
  pub most : nat_abs z ≤ b

pub holds-minus : (f : Format) {x y : Float} {a c : ℤ} (k b d : ℕ) → b + d < 2 ^ prec f → k ≤ low f → Holds x a k b → Holds y c k d → Holds (sub f x y) (a -ℤ c) k (b + d)
holds-minus f {x} {y} {a} {c} k b d small deep p q =
    let h : nat_abs (a -ℤ c) ≤ b + d = le_trans (size-minus a c) (add-le-add p.most q.most) in
    record { is = sub-exact f k p.is q.is (lt_of_le_of_lt h small) deep; most = h }

pub holds-plus : (f : Format) {x y : Float} {a c : ℤ} (k b d : ℕ) → b + d < 2 ^ prec f → k ≤ low f → Holds x a k b → Holds y c k d → Holds (add f x y) (a +ℤ c) k (b + d)
holds-plus f {x} {y} {a} {c} k b d small deep p q =
    let h : nat_abs (a +ℤ c) ≤ b + d = le_trans (size-sum a c) (add-le-add p.most q.most) in
    record { is = add-exact f k p.is q.is (lt_of_le_of_lt h small) deep; most = h }

pub holds-times : (f : Format) {x y : Float} {a c : ℤ} (j k b d : ℕ) → b * d < 2 ^ prec f → j + k ≤ low f → Holds x a j b → Holds y c k d → Holds (mul f x y) (a *ℤ c) (j + k) (b * d)
holds-times f {x} {y} {a} {c} j k b d small deep p q =
    let h : nat_abs (a *ℤ c) ≤ b * d = le_trans (le_of_eq (size_product a c)) (mul-le-mul p.most q.most) in
    record { is = mul-exact f j k p.is q.is (lt_of_le_of_lt h small) deep; most = h }
