-- One turn of the volume's sum: a share of the volume is a determinant divided by six, rounded; it is added, rounded. In units of 2 ^ -1074, of which 2 ^ 1044 are a unit of the determinant, 2 ^ -30. Assumes nothing.
use mathlib.Core.Path.{◌≡◌, refl, sym, ap, ◌∙◌, subst₂}
use mathlib.Core.Bool.{false}
use mathlib.Core.List.{[], ◌∷◌}
use Prim.Native.Nat.{ℕ, suc, ◌+◌, ◌*◌, ◌^◌, ◌≤◌, ◌<◌, zero-le}
use native.Mathlib.Nat.{le_trans, le_of_eq, lt_of_le_of_lt, mul_assoc, mul_comm, mul_left_comm, add-le-add, le_of_lt, mul-le-mul_left, mul-le-mul_right}
use native.Mathlib.Omega.{arith}
use lib.Dec.{lit≤, lit<}
use lib.IntN.{ℤ, pos, nat_abs, ◌+ℤ◌, ◌-ℤ◌, ◌*ℤ◌}
use lib.Pow.{pow_pos}
use lib.Ieee.{Float, binary64, of_int}
use Rattle.float.specs.Point as Point
use Rattle.quality.specs.Quality.{number, over}
use Rattle.integers.proofs.Size.{size-sum, size_product}
use Rattle.integers.proofs.Polynomial.{at, plus, minus, times, identity, vanishes}
use Rattle.rounding.specs.Fraction.{Is, signed_quanta, Rounds, Near}
use Rattle.rounding.proofs.Rounded.{div-rounds}
use Rattle.rounding.proofs.Near.{near, add-near, quanta-error, scale_out}
use Rattle.rounding.proofs.Bounded.{Holds}
use Rattle.volume.proofs.Wedge.{most_six}

-- ---- the quotient by six

-- q is n of 2 ^ -1074, and six of it differ from z units by at most their 2 ^ 53rd part
record Sixth (q : Float) (z : ℤ) (u : ℕ) : Type 0 where
  number : ℤ
  is : Is q number (2 ^ 1074)
  error : nat_abs (pos 6 *ℤ number -ℤ z *ℤ pos u) * 2 ^ 53 ≤ nat_abs z * u

scaled : (n z g u : ℤ) → n *ℤ (pos 6 *ℤ g) -ℤ z *ℤ (u *ℤ g) ≡ (pos 6 *ℤ n -ℤ z *ℤ u) *ℤ g
unfolding vanishes
scaled n z g u =
    identity (minus (times (at 0) (times (at 4) (at 2))) (times (at 1) (times (at 3) (at 2)))) (times (minus (times (at 4) (at 0)) (times (at 1) (at 3))) (at 2)) (n ∷ z ∷ g ∷ u ∷ pos 6 ∷ []) refl

sixth_near : (u g : ℕ) → 0 < g → {q : Float} {z : ℤ} (r : Near binary64 q z (6 * g)) → u * g ≡ 2 ^ 1074 → Sixth q z u
sixth_near u g G {q} {z} r e = record {
  number = signed_quanta binary64 q;
  is = r.is;
  error =
      scale_out (nat_abs (pos 6 *ℤ signed_quanta binary64 q -ℤ z *ℤ pos u)) (2 ^ 53) (nat_abs z * u) g G
      (subst₂ (λ (a b : ℕ). a * 2 ^ 53 ≤ b)
      (ap (λ (c : ℕ). nat_abs (signed_quanta binary64 q *ℤ pos (6 * g) -ℤ z *ℤ pos c)) (sym e) ∙ ap nat_abs (scaled (signed_quanta binary64 q) z (pos g) (pos u)) ∙ size_product (pos 6 *ℤ signed_quanta binary64 q -ℤ z *ℤ pos u) (pos g))
      (ap (λ (c : ℕ). nat_abs z * c) (sym e) ∙ sym (mul_assoc (nat_abs z) u g))
      r.error);
}

six-is : Is (number 6) (pos 6) 1
unfolding of_int
six-is = record { sign = false; size = 6; value = (refl, refl); same = refl }

sixth_rounds : (d : Float) (z : ℤ) → Holds d z 30 most_six → Rounds binary64 (over d (number 6)) z (6 * 2 ^ 30)
sixth_rounds d z h = div-rounds binary64 (pow_pos 30) (lit< tt) h.is six-is

abbrev unit : ℕ
unit = 2 ^ 1044

share_near : (d : Float) (z : ℤ) → Holds d z 30 most_six → Sixth (over d (number 6)) z unit
share_near d z h =
    sixth_near unit (2 ^ 30) (pow_pos 30)
    (near binary64 (sixth_rounds d z h) (lit< tt)
    (λ some. le_trans (lit≤ tt) (mul-le-mul_right (2 ^ 1074) some))
    (lt_of_le_of_lt (mul-le-mul_right (2 ^ 1074) h.most) (lit< tt)))
    refl

-- ---- the error of the sum

-- After k shares: x is `number` of 2 ^ -1074, six of it differ from the sum s of the determinants, in units, by at most 6 * k * k / 8 units.
pub record Summed (u : ℕ) (x : Float) (k : ℕ) (s : ℤ) : Type 0 where
  pub number : ℤ
  pub is : Is x number (2 ^ 1074)
  pub error : 8 * nat_abs (pos 6 *ℤ number -ℤ s *ℤ pos u) ≤ 6 * (u * (k * k))
  pub most : nat_abs s ≤ k * most_six

-- the sizes that one turn meets: D, E and F are six times the errors of the sum before, of the share and of the addition; Z is the exact sum of the two
module _ (u k s z D E F Z : ℕ) (few : k < 32768)
    (sum-error : 8 * D ≤ 6 * (u * (k * k))) (sum-most : s ≤ k * most_six)
    (share-error : E * 2 ^ 53 ≤ z * u) (share-most : z ≤ most_six)
    (exact-most : 6 * Z ≤ s * u + (z * u + (D + E))) (add-error : F * 2 ^ 53 ≤ Z) where
  squared : u * (k * k) ≤ 32768 * (k * u)
  squared = le_trans (le_of_eq (mul_left_comm u k k)) (le_trans (mul-le-mul_left k (mul-le-mul_left u (le_of_lt few))) (le_of_eq (ap (λ (n : ℕ). k * n) (mul_comm u 32768) ∙ mul_left_comm k 32768 u)))

  sum-part : s * u ≤ 1688849860263936 * (k * u)
  sum-part = le_trans (mul-le-mul_right u sum-most) (le_of_eq (ap (λ (n : ℕ). n * u) (mul_comm k most_six) ∙ mul_assoc most_six k u))

  share_part : z * u ≤ 1688849860263936 * u
  share_part = mul-le-mul_right u share-most

  share_small : 16 * E ≤ 3 * u
  share_small = alone E (z * u) u share-error share_part
    where
      alone : (E m u : ℕ) → E * 2 ^ 53 ≤ m → m ≤ 1688849860263936 * u → 16 * E ≤ 3 * u
      alone E m u h l = omega arith

  exact-small : 6 * Z ≤ 2251799813685248 * (k * u + u)
  exact-small = alone D E (6 * Z) (s * u) (z * u) (u * (k * k)) (k * u) u sum-error squared sum-part share_part share_small exact-most
    where
      alone : (D E Y s z q k u : ℕ) → 8 * D ≤ 6 * q → q ≤ 32768 * k → s ≤ 1688849860263936 * k → z ≤ 1688849860263936 * u → 16 * E ≤ 3 * u → Y ≤ s + (z + (D + E)) → Y ≤ 2251799813685248 * (k + u)
      alone D E Y s z q k u a b c d e f = omega arith

  add_small : 24 * F ≤ k * u + u
  add_small = alone F Z (k * u + u) add-error exact-small
    where
      alone : (F Z m : ℕ) → F * 2 ^ 53 ≤ Z → 6 * Z ≤ 2251799813685248 * m → 24 * F ≤ m
      alone F Z m h l = omega arith

  turn_error : 8 * (D + E + 6 * F) ≤ 6 * (u * (suc k * suc k))
  turn_error = alone D E F (u * (k * k)) (k * u) u (u * (suc k * suc k)) sum-error share_small add_small next-square
    where
      next-square : u * (suc k * suc k) ≡ u * (k * k) + (2 * (k * u) + u)
      next-square = omega arith

      alone : (D E F q k u n : ℕ) → 8 * D ≤ 6 * q → 16 * E ≤ 3 * u → 24 * F ≤ k + u → n ≡ q + (2 * k + u) → 8 * (D + E + 6 * F) ≤ 6 * n
      alone D E F q k u n a b c e = omega arith

  turn_size : Z ≤ 2 ^ 70 * u
  turn_size = alone Z (k * u) u exact-small (mul-le-mul_right u (le_of_lt few))
    where
      alone : (Z k u : ℕ) → 6 * Z ≤ 2251799813685248 * (k + u) → k ≤ 32768 * u → Z ≤ 2 ^ 70 * u
      alone Z k u a b = omega arith

module _ (u : ℕ) (a b s z : ℤ) where
  parts : pos 6 *ℤ (a +ℤ b) ≡ s *ℤ pos u +ℤ (z *ℤ pos u +ℤ ((pos 6 *ℤ a -ℤ s *ℤ pos u) +ℤ (pos 6 *ℤ b -ℤ z *ℤ pos u)))
  unfolding vanishes
  parts =
      identity (times (at 5) (plus (at 0) (at 1)))
      (plus (times (at 2) (at 4)) (plus (times (at 3) (at 4)) (plus (minus (times (at 5) (at 0)) (times (at 2) (at 4))) (minus (times (at 5) (at 1)) (times (at 3) (at 4))))))
      (a ∷ b ∷ s ∷ z ∷ pos u ∷ pos 6 ∷ [])
      refl

  exact-sum : 6 * nat_abs (a +ℤ b) ≤ nat_abs s * u + (nat_abs z * u + (nat_abs (pos 6 *ℤ a -ℤ s *ℤ pos u) + nat_abs (pos 6 *ℤ b -ℤ z *ℤ pos u)))
  exact-sum =
      let D = pos 6 *ℤ a -ℤ s *ℤ pos u in
      let E = pos 6 *ℤ b -ℤ z *ℤ pos u in
      le_trans (le_of_eq (sym (size_product (pos 6) (a +ℤ b)) ∙ ap nat_abs parts))
      (le_trans (size-sum (s *ℤ pos u) (z *ℤ pos u +ℤ (D +ℤ E)))
      (add-le-add (le_of_eq (size_product s (pos u)))
      (le_trans (size-sum (z *ℤ pos u) (D +ℤ E)) (add-le-add (le_of_eq (size_product z (pos u))) (size-sum D E)))))

  errors : (n : ℤ) → pos 6 *ℤ n -ℤ (s +ℤ z) *ℤ pos u ≡ (pos 6 *ℤ a -ℤ s *ℤ pos u) +ℤ (pos 6 *ℤ b -ℤ z *ℤ pos u) +ℤ pos 6 *ℤ (n -ℤ (a +ℤ b))
  unfolding vanishes
  errors n =
      identity (minus (times (at 5) (at 6)) (times (plus (at 2) (at 3)) (at 4)))
      (plus (plus (minus (times (at 5) (at 0)) (times (at 2) (at 4))) (minus (times (at 5) (at 1)) (times (at 3) (at 4)))) (times (at 5) (minus (at 6) (plus (at 0) (at 1)))))
      (a ∷ b ∷ s ∷ z ∷ pos u ∷ pos 6 ∷ n ∷ [])
      refl

  sum_errors : (n : ℤ) → nat_abs (pos 6 *ℤ n -ℤ (s +ℤ z) *ℤ pos u) ≤ nat_abs (pos 6 *ℤ a -ℤ s *ℤ pos u) + nat_abs (pos 6 *ℤ b -ℤ z *ℤ pos u) + 6 * nat_abs (n -ℤ (a +ℤ b))
  sum_errors n =
      let D = pos 6 *ℤ a -ℤ s *ℤ pos u in
      let E = pos 6 *ℤ b -ℤ z *ℤ pos u in
      le_trans (le_of_eq (ap nat_abs (errors n)))
      (le_trans (size-sum (D +ℤ E) (pos 6 *ℤ (n -ℤ (a +ℤ b))))
      (add-le-add (size-sum D E) (le_of_eq (size_product (pos 6) (n -ℤ (a +ℤ b))))))

turn : (u : ℕ) → 2 ^ 70 * u < 2 ^ 2097 → {x q : Float} {k : ℕ} {s z : ℤ} → k < 32768 → Summed u x k s → Sixth q z u → nat_abs z ≤ most_six → Summed u (Point.plus x q) (suc k) (s +ℤ z)
turn u room {x} {q} {k} {s} {z} few S Q small =
    let a = S.number in
    let b = Q.number in
    let D = nat_abs (pos 6 *ℤ a -ℤ s *ℤ pos u) in
    let E = nat_abs (pos 6 *ℤ b -ℤ z *ℤ pos u) in
    let Z = nat_abs (a +ℤ b) in
    let size : Z ≤ 2 ^ 70 * u = turn_size u k (nat_abs s) (nat_abs z) D E 0 Z few S.error S.most Q.error small (exact-sum u a b s z) zero-le in
    let A = add-near binary64 S.is Q.is (lt_of_le_of_lt size room) in
    let n = signed_quanta binary64 (Point.plus x q) in
    let F = nat_abs (n -ℤ (a +ℤ b)) in
    record {
      number = n;
      is = A.is;
      error =
          le_trans (mul-le-mul_left 8 (sum_errors u a b s z n))
          (turn_error u k (nat_abs s) (nat_abs z) D E F Z few S.error S.most Q.error small (exact-sum u a b s z) (quanta-error binary64 A));
      most = le_trans (size-sum s z) (le_trans (add-le-add S.most small) (le_of_eq (more k)));
    }
  where
    more : (k : ℕ) → k * most_six + most_six ≡ suc k * most_six
    more k = omega arith

-- a share is added, whose determinant is exact
pub share_added : (x d : Float) (k : ℕ) (s z : ℤ) → k < 32768 → Summed (2 ^ 1044) x k s → Holds d z 30 most_six → Summed (2 ^ 1044) (Point.plus x (over d (number 6))) (suc k) (s +ℤ z)
share_added x d k s z few S h = turn (2 ^ 1044) (lit< tt) few S (share_near d z h) h.most
