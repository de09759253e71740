-- Rule (d) by counting: given the rules (a) to (c), no two triangles have the same corners if and only if no corner has exactly two triangles around it.
use Prim.Native.Nat.{ℕ, zero, suc, ◌+◌, ◌<◌}
use mathlib.Core.Path.{◌≡◌, refl, sym, ◌∙◌}
use mathlib.Core.Logic.{◌↔◌, ◌⊎◌, inl, inr}
use mathlib.Core.List.{List, [], ◌∷◌, Memᴰ}
use native.Mathlib.Omega.{arith}
use native.Mathlib.Decide.{ℕ_discrete}
use lib.ListN.{length}
use Rattle.surface.specs.Triangle.{Tri}
use Rattle.surface.specs.Closed.{sides, Step, around, Differing, Paired, Ringed, Distinct}
use Rattle.surface.proofs.Reading.{Has, spin, has-eq, has-side, third}
use Rattle.surface.proofs.Surface.{Reach, stop, go}
use Rattle.surface.proofs.Rings.{is, is_yes, is_no, froms, tos}
use Rattle.surface.proofs.Steps.{around-has, froms_around, tos_around}
use Rattle.surface.proofs.Bridge.{Fans, fans, distinct_apart, apart_distinct}

-- the number of steps, where they leave y and z alone
two-only : (l : List Step) (y z : ℕ) → (y ≡ z → ⊥) → ((w : ℕ) → (w ≡ y → ⊥) → (w ≡ z → ⊥) → froms l w ≡ 0) → length l ≡ froms l y + froms l z
unfolding froms
two-only [] y z n f = refl
two-only (s ∷ l) y z n f = pick (ℕ_discrete s.from y) (ℕ_discrete s.from z) (two-only l y z n (λ w i j. omega (arith, f w i j)))
  where
    pick : Dec (s.from ≡ y) → Dec (s.from ≡ z) → length l ≡ froms l y + froms l z → suc (length l) ≡ (is s.from y + froms l y) + (is s.from z + froms l z)
    pick (yes e) (yes g) k = absurd (n (sym e ∙ g))
    pick (yes e) (no j) k = omega (arith, is_yes s.from y e, is_no s.from z j)
    pick (no i) (yes g) k = omega (arith, is_no s.from y i, is_yes s.from z g)
    pick (no i) (no j) k = absurd (omega (arith, f s.from i j, is_yes s.from s.from refl))

module _ {ts : List Tri} (s : Fans ts) where
  back-side : {x y z : ℕ} → Has x y z ts → 0 < sides ts x z
  back-side {x} {y} {z} h = omega (arith, s.even x z, has-side (spin (spin h)))

  -- two triangles that turn against one another are all there is around their corner
  between : {x y z p q : ℕ} → Has x y z ts → Has x z y ts → Reach ts x p q → (p ≡ y) ⊎ (p ≡ z) → (q ≡ y) ⊎ (q ≡ z)
  between h k (stop e) (inl i) = inl (sym e ∙ i)
  between h k (stop e) (inr i) = inr (sym e ∙ i)
  between {x} {y} {z} h k (go g r) (inl i) = between h k r (inr (third (s.once x y) (has-eq refl i refl g) h))
  between {x} {y} {z} h k (go g r) (inr i) = between h k r (inl (third (s.once x z) (has-eq refl i refl g) k))

  pub lens_two : {x y z : ℕ} → Has x y z ts → Has x z y ts → length (around ts x) ≡ 2
  lens_two {x} {y} {z} h k =
      let e = two-only (around ts x) y z (s.differ y z x (spin h)) none in
      omega (arith, froms_around ts x y, froms_around ts x z, has-side h, has-side k, s.once x y, s.once x z)
    where
      none : (w : ℕ) → (w ≡ y → ⊥) → (w ≡ z → ⊥) → froms (around ts x) w ≡ 0
      none w i j = pick (froms (around ts x) w) refl
        where
          pick : (n : ℕ) → froms (around ts x) w ≡ n → froms (around ts x) w ≡ 0
          pick zero e = e
          pick (suc n) e = case (between h k (s.joined x y w (has-side h) (omega (arith, froms_around ts x w))) (inl refl))
            where
              case : (w ≡ y) ⊎ (w ≡ z) → froms (around ts x) w ≡ 0
              case (inl q) = absurd (i q)
              case (inr q) = absurd (j q)

  -- and two triangles around a corner turn against one another
  pub two_lens : (x : ℕ) → length (around ts x) ≡ 2 → (y : ℕ) × (z : ℕ) × (Has x y z ts) × (Has x z y ts)
  unfolding froms tos
  two_lens x e = pick (around ts x) (λ r m. around-has x r ts m) (froms_around ts x) (tos_around ts x) e
    where
      pick : (l : List Step) → ((r : Step) → Memᴰ r l → Has x r.from r.to ts) → ((z : ℕ) → froms l z ≡ sides ts x z) → ((z : ℕ) → tos l z ≡ sides ts z x)
          → length l ≡ 2 → (y : ℕ) × (z : ℕ) × (Has x y z ts) × (Has x z y ts)
      pick [] f g t e = absurd (omega arith)
      pick (a ∷ []) f g t e = absurd (omega arith)
      pick (a ∷ b ∷ c ∷ l) f g t e = absurd (omega arith)
      pick (a ∷ b ∷ []) f g t e =
          let h = f a (Memᴰ.head refl) in
          let n = s.differ a.from a.to x (spin h) in
          (a.from, a.to, h, has-eq refl (from (ℕ_discrete b.from a.to) h n) (to (ℕ_discrete b.to a.from) h n) (f b (Memᴰ.tail (Memᴰ.head refl))))
        where
          fr : (z : ℕ) → is a.from z + is b.from z ≡ sides ts x z
          fr z = omega (arith, g z)

          tr : (z : ℕ) → is a.to z + is b.to z ≡ sides ts z x
          tr z = omega (arith, t z)

          from : Dec (b.from ≡ a.to) → Has x a.from a.to ts → (a.from ≡ a.to → ⊥) → b.from ≡ a.to
          from (yes q) h n = q
          from (no m) h n = absurd (omega (arith, fr a.to, is_no a.from a.to n, is_no b.from a.to m, back-side h))

          to : Dec (b.to ≡ a.from) → Has x a.from a.to ts → (a.from ≡ a.to → ⊥) → b.to ≡ a.from
          to (yes q) h n = q
          to (no m) h n = absurd (omega (arith, tr a.from, is_no a.to a.from (λ k. n (sym k)), is_no b.to a.from m, has-side h, s.even x a.from))

-- T2
pub distinct_iff : {ts : List Tri} → Differing ts → Paired ts → Ringed ts → Distinct ts ↔ ((v : ℕ) → length (around ts v) ≡ 2 → ⊥)
distinct_iff {ts} d p r =
    let s = fans d p r in (
      (λ c v e. let k = two_lens s v e in distinct_apart s c v k.0 k.1 k.2 k.3),
      λ f. apart_distinct s (λ x y z h k. f x (lens_two s h k)),
    )
