-- How near the volume that checking reports is to the exact one from point 0: triangle by triangle, the share of each is added (`Turn`).
use Prim.Native.Nat.{ℕ, suc, ◌+◌, ◌*◌, ◌/◌, ◌^◌, ◌≤◌, ◌<◌}
use mathlib.Core.Path.{◌≡◌, refl, sym, ap, ◌∙◌, subst, subst₂, subst₃}
use mathlib.Core.Bool.{Bool, true, false}
use mathlib.Core.List.{List, [], ◌∷◌, foldl}
use native.Mathlib.Nat.{le_trans, le_of_eq, add-zero, mul_assoc, mul_comm, mul_left_comm, mul-le-mul_right, zero-add}
use native.Mathlib.Omega.{arith}
use lib.Dec.{lit≤}
use lib.ListN.{length}
use lib.IntN.{ℤ, pos, nat_abs, ◌+ℤ◌, ◌-ℤ◌, ◌*ℤ◌, +ℤ_assoc, +ℤ_idl, +ℤ_idr}
use lib.Ieee.{Float, binary64, of_int}
use Rattle.float.specs.Order.{lesser}
use Rattle.float.specs.Point.{plus, dotted, crossed}
use Rattle.integers.proofs.Size.{size_product}
use Rattle.integers.proofs.Polynomial.{at, minus, times, identity, vanishes}
use Rattle.rounding.specs.Fraction.{Is, signed_quanta}
use Rattle.rounding.proofs.Rounded.{is-wholes}
use Rattle.surface.specs.Triangle.{Tri, triangles}
use Rattle.surface.proofs.Flat.{length-triangles}
use Rattle.quality.specs.Quality.{number, wedge, degenerate}
use Rattle.checking.specs.Validate.{placed, outside, quality_at, wedge_at, next, measured}
use Rattle.checking.proofs.Turns.{Within, within, by_tests, refused}
use Rattle.checking.proofs.Sound.{never}
use Rattle.checking.proofs.Laws.{Sound, accepted-measured, sound}
use Rattle.units.specs.Units.{WholePoint, AllOnUnits, units_at}
use Rattle.volume.specs.Six.{six_at, six}
use Rattle.volume.specs.Error.{NearExact}
use Rattle.volume.specs.Volume.{Reports, many, six_of}
use Rattle.volume.proofs.Accepted.{counted}
use Rattle.volume.proofs.Wedge.{placed-holds, determinant-holds}
use Rattle.volume.proofs.Turn.{Summed, share_added}
use Rattle.questions.specs.declared.Refusal.TheVariants.{CornerMissing, Degenerate}
use Rattle.checking.specs.Verdict.{Verdict, accepted, volume_of}

-- ---- triangle by triangle

module _ (points : List Float) (on : AllOnUnits points) where
  abbrev first : WholePoint
  first = units_at points 0

  one_more : (t : Tri) (v : Float) (k : ℕ) (s : ℤ) → k < 32768 → Within (length points / 3) t → Summed (2 ^ 1044) v k s → Summed (2 ^ 1044) (plus v (wedge_at points t)) (suc k) (s +ℤ six_at first (units_at points) t)
  unfolding wedge
  one_more t v k s few i S =
      share_added v (dotted (placed points t.a) (crossed (placed points t.b) (placed points t.c))) k s (six_at first (units_at points) t) few S
      (determinant-holds (placed-holds points on t.a i.a) (placed-holds points on t.b i.b) (placed-holds points on t.c i.c))

  summed : (ts : List Tri) (m v q w : Float) (k : ℕ) (s : ℤ) → k + length ts ≤ 32768 → foldl (next points) (accepted m v) ts ≡ accepted q w
      → Summed (2 ^ 1044) v k s → Summed (2 ^ 1044) w (k + length ts) (s +ℤ six first (units_at points) ts)
  unfolding six
  summed [] m v q w k s few e S =
      let same : v ≡ w = ap volume_of e in
      subst₃ (λ (x : Float) (n : ℕ) (z : ℤ). Summed (2 ^ 1044) x n z) same (sym (add-zero k)) (sym (+ℤ_idr s)) S
  summed (t ∷ ts) m v q w k s few e S = go (outside (length points / 3) t) refl (degenerate (quality_at points t)) refl (summed ts)
    where
      go : (o : Bool) → outside (length points / 3) t ≡ o → (d : Bool) → degenerate (quality_at points t) ≡ d
          → ((m v q w : Float) (k : ℕ) (s : ℤ) → k + length ts ≤ 32768 → foldl (next points) (accepted m v) ts ≡ accepted q w → Summed (2 ^ 1044) v k s → Summed (2 ^ 1044) w (k + length ts) (s +ℤ six first (units_at points) ts))
          → Summed (2 ^ 1044) w (k + suc (length ts)) (s +ℤ (six_at first (units_at points) t +ℤ six first (units_at points) ts))
      go true p d g rest = absurd (never (sym (ap (λ (x : Verdict). foldl (next points) x ts) (by_tests points m v t p g) ∙ refused points CornerMissing ts) ∙ e))
      go false p true g rest = absurd (never (sym (ap (λ (x : Verdict). foldl (next points) x ts) (by_tests points m v t p g) ∙ refused points Degenerate ts) ∙ e))
      go false p false g rest =
          subst₂ (λ (n : ℕ) (z : ℤ). Summed (2 ^ 1044) w n z) (omega arith) (+ℤ_assoc s (six_at first (units_at points) t) (six first (units_at points) ts))
          (rest (lesser m (quality_at points t)) (plus v (wedge_at points t)) q w (suc k) (s +ℤ six_at first (units_at points) t) (omega arith)
          (sym (ap (λ (x : Verdict). foldl (next points) x ts) (by_tests points m v t p g)) ∙ e)
          (one_more t v k s (omega arith) (within (length points / 3) t p) S))

-- ---- the whole

begin : Summed (2 ^ 1044) (number 0) 0 (pos 0)
unfolding of_int
begin = record { number = pos 0; is = record { sign = false; size = 0; value = (refl, refl); same = refl }; error = lit≤ tt; most = lit≤ tt }

module _ {points : List Float} {corners : List ℕ} {volume : Float} (r : Reports points corners volume) where
  few : length (triangles corners) ≤ 32768
  few =
      let c = counted points corners r.labels r.work r.quality volume r.accepted in
      let n = length-triangles (length corners / 3) corners (omega (arith, c.corners)) in
      omega (arith, c.few-triangles)

  is-measured : measured points corners ≡ accepted r.quality volume
  is-measured = accepted-measured points corners r.labels r.work r.quality volume r.accepted r.some

  pub is-sound : Sound points corners r.quality volume
  is-sound = sound points corners r.labels r.work r.quality volume r.accepted r.some

  is-summed : Summed (2 ^ 1044) volume (many corners) (six_of points corners (units_at points 0))
  unfolding measured
  is-summed =
      subst₂ (λ (n : ℕ) (z : ℤ). Summed (2 ^ 1044) volume n z) (zero-add (many corners)) (+ℤ_idl (six_of points corners (units_at points 0)))
      (summed points r.units (triangles corners) (number 1) (number 0) r.quality volume 0 (pos 0) (omega (arith, few)) is-measured begin)

-- ---- in the terms of the statements

scaled : (n s g u : ℤ) → pos 6 *ℤ g *ℤ n -ℤ u *ℤ g *ℤ s ≡ (pos 6 *ℤ n -ℤ s *ℤ u) *ℤ g
unfolding vanishes
scaled n s g u =
    identity (minus (times (times (at 4) (at 2)) (at 0)) (times (times (at 3) (at 2)) (at 1))) (times (minus (times (at 4) (at 0)) (times (at 1) (at 3))) (at 2)) (n ∷ s ∷ g ∷ u ∷ pos 6 ∷ []) refl

multiplied : (D u m g : ℕ) → 8 * D ≤ 6 * (u * (m * m)) → D * g * (8 * g) ≤ 6 * g * (u * g) * (m * m)
multiplied D u m g h =
    let a : D * g * (8 * g) ≡ 8 * D * (g * g) = simp (mul_assoc, mul_comm, mul_left_comm) in
    let b : 6 * (u * (m * m)) * (g * g) ≡ 6 * g * (u * g) * (m * m) = simp (mul_assoc, mul_comm, mul_left_comm) in
    le_trans (le_of_eq a) (le_trans (mul-le-mul_right (g * g) h) (le_of_eq b))

near_of : (u g : ℕ) {v : Float} {m : ℕ} {s : ℤ} (S : Summed u v m s) → nat_abs (pos (6 * g) *ℤ S.number -ℤ pos (u * g) *ℤ s) * (8 * g) ≤ 6 * g * (u * g) * (m * m)
near_of u g {v} {m} {s} S =
    subst (λ (n : ℕ). n * (8 * g) ≤ 6 * g * (u * g) * (m * m)) (sym (ap nat_abs (scaled S.number s (pos g) (pos u)) ∙ size_product (pos 6 *ℤ S.number -ℤ s *ℤ pos u) (pos g)))
    (multiplied (nat_abs (pos 6 *ℤ S.number -ℤ s *ℤ pos u)) u m g S.error)

pub reported_from-first : {points : List Float} {corners : List ℕ} {volume : Float} → Reports points corners volume → NearExact (many corners) volume (six_of points corners (units_at points 0))
reported_from-first {points} {corners} {volume} r =
    let S = is-summed r in
    let e : S.number ≡ signed_quanta binary64 volume = sym (is-wholes S.is) in
    record {
      finite = subst (λ (z : ℤ). Is volume z (2 ^ 1074)) e S.is;
      near =
          subst (λ (n : ℤ). nat_abs (pos (6 * 2 ^ 30) *ℤ n -ℤ pos (2 ^ 1074) *ℤ six_of points corners (units_at points 0)) * 2 ^ 33 ≤ 6 * 2 ^ 30 * 2 ^ 1074 * (many corners * many corners)) e
          (near_of (2 ^ 1044) (2 ^ 30) S);
    }
