-- Where the operations change nothing: a whole number of 2 ^ -k that has at most `prec` digits is rounded to itself. Assumes nothing.
use mathlib.Core.Path.{◌≡◌, refl, sym, ap, ◌∙◌, subst}
use mathlib.Core.Bool.{Bool, true, false}
use Prim.Native.Nat.{ℕ, suc, ◌+◌, ◌-◌, ◌*◌, ◌^◌, ◌≤◌, ◌<◌, zero-le}
use native.Mathlib.Nat.{mul_assoc, mul-one, mul-pos, lt_of_lt_of_le}
use native.Mathlib.Omega.{arith}
use lib.Dec.{lit≤, lit<}
use lib.IntN.{ℤ, pos, nat_abs, ◌+ℤ◌, ◌-ℤ◌, ◌*ℤ◌}
use lib.Pow.{pow-add, pow_pos, pow_mono, shl_lt}
use lib.Ieee.{Float, Format, binary32, binary64, prec, emax, low, round, add, sub, mul}
use lib.Ieee.Digits.{back}
use lib.Ieee.Exact.{HasValue, round_exact}
use lib.Ieee.Scale.{round_same}
use Rattle.integers.proofs.Size.{size-neg}
use Rattle.rounding.specs.Fraction.{signed, Is, Rounds}
use Rattle.rounding.proofs.Rounded.{add_rounds, sub-rounds, mul_at, unlike_false, mul-rounds}

pub size-signed : (s : Bool) (n : ℕ) → nat_abs (signed s n) ≡ n
size-signed false n = refl
size-signed true n = size-neg (pos n)

pub size_of : {f : Format} {x : Float} {z : ℤ} {c : ℕ} (r : Rounds f x z c) → r.size ≡ nat_abs z
size_of r = sym (size-signed r.sign r.size) ∙ ap nat_abs r.same

short : (f : Format) → prec f ≤ suc (emax f)
short binary32 = lit≤ tt
short binary64 = lit≤ tt

kept : (f : Format) (s : Bool) (n k : ℕ) → n < 2 ^ prec f → k ≤ low f → HasValue (round f s n (2 ^ k)) s n (2 ^ k)
kept f s n k small deep =
    let j = low f - k in
    round_exact f s n (2 ^ k) n j (pow_pos k) small
    (lt_of_lt_of_le (shl_lt (prec f) j small) (pow_mono (room (prec f) (emax f) (low f) (short f))))
    (ap (λ (x : ℕ). n * x) (sym (ap (λ (x : ℕ). 2 ^ x) (back (low f) k deep)) ∙ pow-add 2 j k) ∙ sym (mul_assoc n (2 ^ j) (2 ^ k)))
  where
    room : (p e l : ℕ) → p ≤ suc e → p + (l - k) ≤ l + suc e
    room p e l h = omega arith

pub exact : (f : Format) {x : Float} {z : ℤ} (k : ℕ) → Rounds f x z (2 ^ k) → nat_abs z < 2 ^ prec f → k ≤ low f → Is x z (2 ^ k)
exact f {x} {z} k r small deep = record {
  sign = r.sign;
  size = r.size;
  value = subst (λ (y : Float). HasValue y r.sign r.size (2 ^ k)) (sym r.value) (kept f r.sign r.size k (subst (λ (n : ℕ). n < 2 ^ prec f) (sym (size_of r)) small) deep);
  same = r.same;
}

-- z of 2 ^ -k, times 2 ^ k, is z
pub power-exact : (f : Format) {x : Float} {z : ℤ} (k : ℕ) (y : Float) → Is x z (2 ^ k) → HasValue y false (2 ^ k) 1 → nat_abs z < 2 ^ prec f → Is (mul f x y) z 1
power-exact f {x} {z} k y v p small =
    exact f 0
    (record {
      sign = v.sign;
      size = v.size;
      value =
          mul_at f x y v.sign false v.size (2 ^ k) (2 ^ k) 1 (pow_pos k) (lit< tt) v.value p
          ∙ ap (λ (s : Bool). round f s (v.size * 2 ^ k) (2 ^ k * 1)) (unlike_false v.sign)
          ∙ round_same f v.sign (v.size * 2 ^ k) (2 ^ k * 1) v.size 1 (mul-pos (pow_pos k) (lit< tt)) (lit< tt) (mul-one (v.size * 2 ^ k) ∙ ap (λ (n : ℕ). v.size * n) (sym (mul-one (2 ^ k))));
      same = v.same;
    })
    small
    zero-le

pub add-exact : (f : Format) {x y : Float} {a b : ℤ} (k : ℕ) → Is x a (2 ^ k) → Is y b (2 ^ k) → nat_abs (a +ℤ b) < 2 ^ prec f → k ≤ low f → Is (add f x y) (a +ℤ b) (2 ^ k)
add-exact f k p q = exact f k (add_rounds f (pow_pos k) p q)

pub sub-exact : (f : Format) {x y : Float} {a b : ℤ} (k : ℕ) → Is x a (2 ^ k) → Is y b (2 ^ k) → nat_abs (a -ℤ b) < 2 ^ prec f → k ≤ low f → Is (sub f x y) (a -ℤ b) (2 ^ k)
sub-exact f k p q = exact f k (sub-rounds f (pow_pos k) p q)

pub mul-exact : (f : Format) {x y : Float} {a b : ℤ} (j k : ℕ) → Is x a (2 ^ j) → Is y b (2 ^ k) → nat_abs (a *ℤ b) < 2 ^ prec f → j + k ≤ low f → Is (mul f x y) (a *ℤ b) (2 ^ (j + k))
mul-exact f {x} {y} {a} {b} j k p q = exact f (j + k) (subst (λ (c : ℕ). Rounds f (mul f x y) (a *ℤ b) c) (sym (pow-add 2 j k)) (mul-rounds f (pow_pos j) (pow_pos k) p q))
