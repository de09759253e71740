-- The third corners of the triangles on a side of a closed list: c and d, as `hinge` finds them.
use Prim.Native.Nat.{ℕ, ◌<◌}
use mathlib.Core.Path.{◌≡◌, refl}
use mathlib.Core.Logic.{◌⊎◌, inl, inr}
use mathlib.Core.List.{List}
use native.Mathlib.Omega.{arith}
use Rattle.surface.specs.Triangle.{Tri}
use Rattle.surface.specs.Closed.{sides, Closed}
use Rattle.surface.specs.Edit.{Hinge, hinge}
use Rattle.surface.proofs.Reading.{Has, spin, has-eq, third}
use Rattle.surface.proofs.Bridge.{closed_surface_lem}
use Rattle.surface.proofs.Places.{place-has}
use Rattle.surface.proofs.Hinged.{Hinged}
use Rattle.surface.proofs.Edits.{Filled, one_way, other_way}
use Rattle.surface.proofs.Laws.{hinge-found}

module _ {ts : List Tri} (c : Closed ts) (a b : ℕ) (given : 0 < sides ts a b) where
  abbrev pub h : Hinge
  h = hinge ts a b

  k : Hinged ts a b (hinge ts a b)
  k = hinge-found c a b given

  ahead : Has h.u h.v h.c ts
  ahead = place-has ts h.p1 (omega (arith, k.order, k.fits)) k.ahead

  back : Has h.v h.u h.d ts
  back = place-has ts h.p2 k.fits k.back

  pub with_c : Filled ts a b h.c
  with_c = pick k.ends
    where
      pick : ((h.u ≡ a) × (h.v ≡ b)) ⊎ ((h.u ≡ b) × (h.v ≡ a)) → Filled ts a b h.c
      pick (inl e) = one_way (has-eq e.0 e.1 refl ahead)
      pick (inr e) = other_way (spin (has-eq e.0 e.1 refl ahead))

  pub with_d : Filled ts a b h.d
  with_d = pick k.ends
    where
      pick : ((h.u ≡ a) × (h.v ≡ b)) ⊎ ((h.u ≡ b) × (h.v ≡ a)) → Filled ts a b h.d
      pick (inl e) = other_way (spin (has-eq e.1 e.0 refl back))
      pick (inr e) = one_way (has-eq e.1 e.0 refl back)

  -- and no other triangle is on the side
  pub third-corner : (x : ℕ) → Filled ts a b x → (x ≡ h.c) ⊎ (x ≡ h.d)
  third-corner x (one_way t) = pick k.ends
    where
      pick : ((h.u ≡ a) × (h.v ≡ b)) ⊎ ((h.u ≡ b) × (h.v ≡ a)) → (x ≡ h.c) ⊎ (x ≡ h.d)
      pick (inl e) = inl (third ((closed_surface_lem c).once a b) t (has-eq e.0 e.1 refl ahead))
      pick (inr e) = inr (third ((closed_surface_lem c).once a b) t (has-eq e.1 e.0 refl back))
  third-corner x (other_way t) = pick k.ends
    where
      pick : ((h.u ≡ a) × (h.v ≡ b)) ⊎ ((h.u ≡ b) × (h.v ≡ a)) → (x ≡ h.c) ⊎ (x ≡ h.d)
      pick (inl e) = inr (third ((closed_surface_lem c).once b a) (spin (spin t)) (has-eq e.1 e.0 refl back))
      pick (inr e) = inl (third ((closed_surface_lem c).once b a) (spin (spin t)) (has-eq e.0 e.1 refl ahead))
