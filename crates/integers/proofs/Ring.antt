-- The laws of a commutative ring that `lib.IntN` does not have. Assumes nothing.
use mathlib.Core.Path.{◌≡◌, sym, ap, ap₂, ◌∙◌}
use Prim.Native.Nat.{ℕ, zero, suc, ◌-◌, ◌≤◌}
use native.Mathlib.Nat.{one-mul}
use lib.Ieee.Digits.{back}
use lib.IntN.{ℤ, pos, negsuc, suc_ℤ, pred_ℤ, neg_ℤ, ◌+ℤ◌, ◌-ℤ◌, ◌*ℤ◌, suc_ℤ-+ℤ, pred_ℤ-+ℤ, +ℤ_assoc, +ℤ_comm, +ℤ_idl, +ℤ_idr, +ℤ_invl, +ℤ_invr, suc_ℤ-*ℤ, pred_ℤ-*ℤ, zero-*ℤ, *ℤ_comm, +ℤ-neg_ℤ_cancel, neg_ℤ-+ℤ, neg_ℤ-neg_ℤ}

-- what holds of 0 and of the next and the last number holds of all
induct : (P : ℤ → Type 0) → P (pos zero) → ((k : ℤ) → P k → P (suc_ℤ k)) → ((k : ℤ) → P k → P (pred_ℤ k)) → (k : ℤ) → P k
induct P z s p (pos zero) = z
induct P z s p (pos (suc n)) = s (pos n) (induct P z s p (pos n))
induct P z s p (negsuc zero) = p (pos zero) z
induct P z s p (negsuc (suc n)) = p (negsuc n) (induct P z s p (negsuc n))

-- ---- sums

pub swap_last : (a b c : ℤ) → a +ℤ b +ℤ c ≡ a +ℤ c +ℤ b
swap_last a b c = +ℤ_assoc a b c ∙ ap (λ (x : ℤ). a +ℤ x) (+ℤ_comm b c) ∙ sym (+ℤ_assoc a c b)

pub swap_first : (a b c : ℤ) → a +ℤ (b +ℤ c) ≡ b +ℤ (a +ℤ c)
swap_first a b c = sym (+ℤ_assoc a b c) ∙ ap (λ (x : ℤ). x +ℤ c) (+ℤ_comm a b) ∙ +ℤ_assoc b a c

-- ---- products

pub right_distrib : (a b c : ℤ) → (a +ℤ b) *ℤ c ≡ a *ℤ c +ℤ b *ℤ c
right_distrib a b c =
    induct (λ k. (k +ℤ b) *ℤ c ≡ k *ℤ c +ℤ b *ℤ c)
    (ap (λ (x : ℤ). x *ℤ c) (+ℤ_idl b) ∙ sym (ap (λ (x : ℤ). x +ℤ b *ℤ c) (zero-*ℤ c) ∙ +ℤ_idl (b *ℤ c)))
    (λ k h. ap (λ (x : ℤ). x *ℤ c) (suc_ℤ-+ℤ k b) ∙ suc_ℤ-*ℤ (k +ℤ b) c ∙ ap (λ (x : ℤ). x +ℤ c) h ∙ swap_last (k *ℤ c) (b *ℤ c) c ∙ ap (λ (x : ℤ). x +ℤ b *ℤ c) (sym (suc_ℤ-*ℤ k c)))
    (λ k h. ap (λ (x : ℤ). x *ℤ c) (pred_ℤ-+ℤ k b) ∙ pred_ℤ-*ℤ (k +ℤ b) c ∙ ap (λ (x : ℤ). x -ℤ c) h ∙ swap_last (k *ℤ c) (b *ℤ c) (neg_ℤ c) ∙ ap (λ (x : ℤ). x +ℤ b *ℤ c) (sym (pred_ℤ-*ℤ k c)))
    a

pub left_distrib : (a b c : ℤ) → a *ℤ (b +ℤ c) ≡ a *ℤ b +ℤ a *ℤ c
left_distrib a b c = *ℤ_comm a (b +ℤ c) ∙ right_distrib b c a ∙ ap₂ (λ (x y : ℤ). x +ℤ y) (*ℤ_comm b a) (*ℤ_comm c a)

-- a number is less by another: the sum with its negative
neg_unique : (a b : ℤ) → a +ℤ b ≡ pos zero → a ≡ neg_ℤ b
neg_unique a b h = sym (+ℤ_idr a) ∙ ap (λ (x : ℤ). a +ℤ x) (sym (+ℤ_invr b)) ∙ sym (+ℤ_assoc a b (neg_ℤ b)) ∙ ap (λ (x : ℤ). x -ℤ b) h ∙ +ℤ_idl (neg_ℤ b)

pub neg-mul : (a b : ℤ) → neg_ℤ a *ℤ b ≡ neg_ℤ (a *ℤ b)
neg-mul a b = neg_unique (neg_ℤ a *ℤ b) (a *ℤ b) (sym (right_distrib (neg_ℤ a) a b) ∙ ap (λ (x : ℤ). x *ℤ b) (+ℤ_invl a) ∙ zero-*ℤ b)

pub mul_associates : (a b c : ℤ) → (a *ℤ b) *ℤ c ≡ a *ℤ (b *ℤ c)
mul_associates a b c =
    induct (λ k. (k *ℤ b) *ℤ c ≡ k *ℤ (b *ℤ c))
    (ap (λ (x : ℤ). x *ℤ c) (zero-*ℤ b) ∙ zero-*ℤ c ∙ sym (zero-*ℤ (b *ℤ c)))
    (λ k h. ap (λ (x : ℤ). x *ℤ c) (suc_ℤ-*ℤ k b) ∙ right_distrib (k *ℤ b) b c ∙ ap (λ (x : ℤ). x +ℤ b *ℤ c) h ∙ sym (suc_ℤ-*ℤ k (b *ℤ c)))
    (λ k h. ap (λ (x : ℤ). x *ℤ c) (pred_ℤ-*ℤ k b) ∙ right_distrib (k *ℤ b) (neg_ℤ b) c ∙ ap₂ (λ (x y : ℤ). x +ℤ y) h (neg-mul b c) ∙ sym (pred_ℤ-*ℤ k (b *ℤ c)))
    a

pub one-times : (a : ℤ) → pos 1 *ℤ a ≡ a
one-times (pos n) = ap pos (one-mul n)
one-times (negsuc n) = ap (λ (k : ℕ). neg_ℤ (pos k)) (one-mul (suc n))

pub minus-one-times : (a : ℤ) → negsuc 0 *ℤ a ≡ neg_ℤ a
minus-one-times (pos n) = ap (λ (k : ℕ). neg_ℤ (pos k)) (one-mul n)
minus-one-times (negsuc n) = ap pos (one-mul (suc n))

-- ---- differences of natural numbers

pub difference_of : (a b : ℕ) → b ≤ a → pos (a - b) ≡ pos a -ℤ pos b
difference_of a b h = sym (ap (λ (n : ℕ). pos n -ℤ pos b) (sym (back a b h)) ∙ +ℤ-neg_ℤ_cancel (pos (a - b)) (pos b))

pub negative_of : (a b : ℕ) → a ≤ b → neg_ℤ (pos (b - a)) ≡ pos a -ℤ pos b
negative_of a b h = ap neg_ℤ (difference_of b a h) ∙ neg_ℤ-+ℤ (pos b) (neg_ℤ (pos a)) ∙ +ℤ_comm (neg_ℤ (pos b)) (neg_ℤ (neg_ℤ (pos a))) ∙ ap (λ (z : ℤ). z -ℤ pos b) (neg_ℤ-neg_ℤ (pos a))
