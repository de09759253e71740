-- The two words in which `exact` adds: one lemma for each of its turns, over plain lists. Assumes nothing.
use Prim.Native.Nat.{ℕ, ◌+◌, ◌*◌, ◌/◌, ◌%◌, ◌^◌, ◌≤◌, ◌<◌}
use mathlib.Core.Path.{◌≡◌, refl, sym, ap, ap₂, ◌∙◌, subst, subst₂}
use mathlib.Core.List.{List, [], ◌∷◌}
use native.Mathlib.Nat.{le_trans, lt_of_le_of_lt, lt_of_lt_of_le}
use native.Mathlib.Omega.{arith}
use lib.Dec.{lit≤}
use lib.IntN.{ℤ, pos, negsuc, nat_abs, ◌+ℤ◌, ◌-ℤ◌, ◌*ℤ◌, +ℤ_idl, +ℤ_idr, +ℤ_assoc, +ℤ-neg_ℤ_cancel}
use lib.ListN.{length, get_or, drop, drop_of_length-le}
use lib.Ieee.{Float}
use lib.Signed.{mag}
use mir.Syntax.{w64}
use mir.Val.{SFits, of_z, to_z}
use mir.ValLaws.{to_z_pos, to_z-of_z}
use Rattle.surface.specs.Triangle.{Tri, tri, triangles}
use Rattle.integers.proofs.Size.{size-minus}
use Rattle.integers.proofs.Polynomial.{at, plus, minus, times, identity, vanishes}
use Rattle.checking.proofs.Turns.{one_more}
use Rattle.units.specs.Units.{units_at}
use Rattle.volume.specs.Six.{six_at, six}
use Rattle.volume.specs.Stages.{lifted}
use Rattle.volume.proofs.Lifted.{Positive}

-- the triangles from a place of the list on
pub triangles-more : (cs : List ℕ) (i : ℕ) → i + 2 < length cs
    → triangles (drop i cs) ≡ tri (get_or cs i 0) (get_or cs (i + 1) 0) (get_or cs (i + 2) 0) ∷ triangles (drop (i + 3) cs)
unfolding triangles
triangles-more cs i h =
    rw
    (one_more cs 0 i (i + 1) (omega arith) (omega arith), one_more cs 0 (i + 1) (i + 2) (omega arith) (omega arith), one_more cs 0 (i + 2) (i + 3) (omega arith) (omega arith))

module _ (points : List Float) (corners : List ℕ) where
  -- six times the volume of the triangles from a place of the list on
  abbrev left : ℕ → ℤ
  left i = six (units_at points 0) (units_at points) (triangles (drop i corners))

  abbrev triangle : ℕ → Tri
  triangle i = tri (get_or corners i 0) (get_or corners (i + 1) 0) (get_or corners (i + 2) 0)

  abbrev share : ℕ → ℤ
  share i = six_at (units_at points 0) (units_at points) (triangle i)

  -- the two words hold the shares of the triangles before the place, each lifted by 2 ^ 51
  pub record Summing (high low i : ℕ) : Type 0 where
    pub bounded : i ≤ length corners
    pub thirds : i % 3 ≡ 0
    pub small : low < 2147483648
    pub few : high ≤ i * 2097152
    pub sum : pos (high * 2147483648 + low) +ℤ left i ≡ left 0 +ℤ pos (i / 3 * 2251799813685248)

  pub nothing_yet : Summing 0 0 0
  nothing_yet = record { bounded = omega arith; thirds = refl; small = omega arith; few = omega arith; sum = +ℤ_idl (left 0) ∙ sym (+ℤ_idr (left 0)) }

  left-more : (i : ℕ) → i + 2 < length corners → left i ≡ share i +ℤ left (i + 3)
  unfolding six
  left-more i h = ap (six (units_at points 0) (units_at points)) (triangles-more corners i h)

  -- the words with a share added
  module _ (high low i e : ℕ) (s : Summing high low i) (h : i + 2 < length corners) (p : Positive (share i)) (given : e ≡ lifted (share i)) where
    e_small : e < 4503599627370496
    e_small = subst (λ (n : ℕ). n < 4503599627370496) (sym given) p.below

    e_same : pos e ≡ share i +ℤ pos 2251799813685248
    e_same = ap pos given ∙ p.same

    abbrev low' : ℕ
    low' = (low + e % 2147483648) % 2147483648

    abbrev high' : ℕ
    high' = high + (e / 2147483648 + (low + e % 2147483648) / 2147483648)

    carried : high' * 2147483648 + low' ≡ high * 2147483648 + low + e
    carried = omega arith

    added : (a b c d : ℤ) → a +ℤ (b +ℤ c) +ℤ d ≡ a +ℤ (b +ℤ d) +ℤ c
    unfolding vanishes
    added a b c d = identity (plus (plus (at 0) (plus (at 1) (at 2))) (at 3)) (plus (plus (at 0) (plus (at 1) (at 3))) (at 2)) (a ∷ b ∷ c ∷ d ∷ []) refl

    pub summed : Summing high' low' (i + 3)
    summed = record {
      bounded = omega arith;
      thirds = omega (arith, s.thirds);
      small = omega arith;
      few = omega (arith, s.few, s.small, e_small);
      sum =
          ap (λ (n : ℕ). pos n +ℤ left (i + 3)) carried
          ∙ ap (λ (z : ℤ). pos (high * 2147483648 + low) +ℤ z +ℤ left (i + 3)) e_same
          ∙ added (pos (high * 2147483648 + low)) (share i) (pos 2251799813685248) (left (i + 3))
          ∙ ap (λ (z : ℤ). z +ℤ pos 2251799813685248) (ap (λ (z : ℤ). pos (high * 2147483648 + low) +ℤ z) (sym (left-more i h)) ∙ s.sum)
          ∙ +ℤ_assoc (left 0) (pos (i / 3 * 2251799813685248)) (pos 2251799813685248)
          ∙ ap (λ (n : ℕ). left 0 +ℤ pos n) (next-third i s.thirds);
    }
      where
        next-third : (i : ℕ) → i % 3 ≡ 0 → i / 3 * 2251799813685248 + 2251799813685248 ≡ (i + 3) / 3 * 2251799813685248
        next-third i e = omega arith

  -- none left
  none_left : (i : ℕ) → length corners ≤ i → left i ≡ pos 0
  unfolding triangles six
  none_left i h = ap (λ (l : List ℕ). six (units_at points 0) (units_at points) (triangles l)) (drop_of_length-le corners h)

  parted : (g h m l : ℤ) → g *ℤ (h -ℤ m) +ℤ l ≡ h *ℤ g +ℤ l -ℤ m *ℤ g
  unfolding vanishes
  parted g h m l = identity (plus (times (at 0) (minus (at 1) (at 2))) (at 3)) (minus (plus (times (at 1) (at 0)) (at 3)) (times (at 2) (at 0))) (g ∷ h ∷ m ∷ l ∷ []) refl

  -- the lift taken off
  pub all-summed : (high low i : ℕ) → Summing high low i → length corners ≤ i → pos 2147483648 *ℤ (pos high -ℤ pos (length corners / 3 * 1048576)) +ℤ pos low ≡ left 0
  all-summed high low i s h =
      let m = length corners / 3 * 1048576 in
      parted (pos 2147483648) (pos high) (pos m) (pos low)
      ∙ ap (λ (z : ℤ). z -ℤ pos (m * 2147483648))
      (sym (+ℤ_idr (pos (high * 2147483648 + low))) ∙ ap (λ (z : ℤ). pos (high * 2147483648 + low) +ℤ z) (sym (none_left i h)) ∙ s.sum ∙ ap (λ (n : ℕ). left 0 +ℤ pos n) (lifts s.bounded))
      ∙ +ℤ-neg_ℤ_cancel (left 0) (pos (m * 2147483648))
    where
      lifts : i ≤ length corners → i / 3 * 2251799813685248 ≡ length corners / 3 * 1048576 * 2147483648
      lifts b = let e : i ≡ length corners = omega arith in omega arith

-- ---- the difference of two words as a signed number

mag_size : (z : ℤ) → mag z ≤ nat_abs z
mag_size (pos n) = omega arith
mag_size (negsuc n) = omega arith

pub word_fits : (a : ℕ) → a < 4611686018427387904 → SFits w64 (pos a)
word_fits a h = record { sfits = lt_of_lt_of_le h (lit≤ {m = 4611686018427387904} {n = 2 ^ 63} tt) }

pub difference-fits : (a b : ℕ) → a < 4611686018427387904 → b < 4611686018427387904 → SFits w64 (to_z w64 a -ℤ to_z w64 b)
difference-fits a b h k =
    subst₂ (λ (y z : ℤ). SFits w64 (y -ℤ z)) (sym (to_z_pos w64 a (word_fits a h).sfits)) (sym (to_z_pos w64 b (word_fits b k).sfits))
    (record { sfits = lt_of_le_of_lt (le_trans (mag_size (pos a -ℤ pos b)) (size-minus (pos a) (pos b))) (lt_of_lt_of_le both (lit≤ {m = 9223372036854775808} {n = 2 ^ 63} tt)) })
  where
    both : a + b < 9223372036854775808
    both = omega arith

pub difference-is : (a b : ℕ) → a < 4611686018427387904 → b < 4611686018427387904 → to_z w64 (of_z w64 (to_z w64 a -ℤ to_z w64 b)) ≡ pos a -ℤ pos b
difference-is a b h k =
    to_z-of_z w64 (to_z w64 a -ℤ to_z w64 b) (difference-fits a b h k) ∙ ap₂ (λ (y z : ℤ). y -ℤ z) (to_z_pos w64 a (word_fits a h).sfits) (to_z_pos w64 b (word_fits b k).sfits)
