-- The hinge of a side of a closed list, by the place of the side and its twin.
use Prim.Native.Nat.{ℕ, ◌/◌, ◌%◌, ◌<◌}
use native.Mathlib.Omega.{arith}
use mathlib.Core.Path.{◌≡◌, refl, sym, ap, ◌∙◌}
use mathlib.Core.Logic.{◌⊎◌, inl, inr}
use mathlib.Core.List.{List}
use lib.ListN.{length}
use Rattle.surface.specs.Triangle.{triangles}
use Rattle.surface.specs.Closed.{sides, Closed}
use Rattle.surface.specs.Edit.{Hinge, hinge}
use Rattle.surface.proofs.Bridge.{closed_surface_lem}
use Rattle.surface.proofs.Hinged.{Hinged, hinged}
use Rattle.halfedges.specs.Place.{nx, pv, at}
use Rattle.sides.specs.Side.{Twin, Met}
use Rattle.sides.proofs.Meeting.{met_of}
use Rattle.chains.proofs.Flat.{runs-side, reads_spot}

abbrev pub hinge_at : ℕ → ℕ → ℕ → ℕ → ℕ → ℕ → Hinge
hinge_at i j x y z t = record { p1 = i; p2 = j; u = x; v = y; c = z; d = t }

-- the hinge where the place j comes before its twin l
abbrev pub hinge_of : List ℕ → ℕ → ℕ → Hinge
hinge_of c j l = hinge_at (j / 3) (l / 3) (at c j) (at c l) (at c (pv j)) (at c (pv l))

hinge-eq : (h : Hinge) (i j x y z t : ℕ) → h.p1 ≡ i → h.p2 ≡ j → h.u ≡ x → h.v ≡ y → h.c ≡ z → h.d ≡ t → h ≡ hinge_at i j x y z t
hinge-eq h i j x y z t a b d e f g = rw (← a, ← b, ← d, ← e, ← f, ← g) refl

module _ (c : List ℕ) (h : length c % 3 ≡ 0) (closed : Closed (triangles c)) where
  met : Met c
  met = met_of c h closed

  -- the two triangles of the hinge are those of k and of its twin, in their order
  module _ (k t : ℕ) (l : k < length c) (w : Twin c k t) where
    side-there : 0 < sides (triangles c) (at c k) (at c (nx k))
    side-there = runs-side c h k l

    H : Hinge
    H = hinge (triangles c) (at c k) (at c (nx k))

    is : Hinged (triangles c) (at c k) (at c (nx k)) (hinge (triangles c) (at c k) (at c (nx k)))
    is = hinged (closed_surface_lem closed) (at c k) (at c (nx k)) side-there

    pub data Ordered : Type 0 where
      ahead : k / 3 < t / 3 → hinge (triangles c) (at c k) (at c (nx k)) ≡ hinge_of c k t → Ordered
      behind : t / 3 < k / 3 → hinge (triangles c) (at c k) (at c (nx k)) ≡ hinge_of c t k → Ordered

    pub ordered : Ordered
    ordered = go is.ends
      where
        p : Hinged (triangles c) (at c k) (at c (nx k)) (hinge (triangles c) (at c k) (at c (nx k)))
        p = is

        go : (((hinge (triangles c) (at c k) (at c (nx k))).u ≡ at c k) × ((hinge (triangles c) (at c k) (at c (nx k))).v ≡ at c (nx k))) ⊎ (((hinge (triangles c) (at c k) (at c (nx k))).u ≡ at c (nx k)) × ((hinge (triangles c) (at c k) (at c (nx k))).v ≡ at c k)) → Ordered
        go (inl e) =
            let s = reads_spot c h (hinge (triangles c) (at c k) (at c (nx k))).p1 (omega (arith, p.order, p.fits)) p.ahead in
            let r = reads_spot c h (hinge (triangles c) (at c k) (at c (nx k))).p2 p.fits p.back in
            let a : s.k ≡ k = met.once s.k k s.low l (s.one ∙ e.0) (s.two ∙ e.1) in
            let b : r.k ≡ t = met.once r.k t r.low w.low (r.one ∙ e.1 ∙ sym w.from) (r.two ∙ e.0 ∙ sym w.to) in
            let f : k / 3 ≡ (hinge (triangles c) (at c k) (at c (nx k))).p1 = ap (λ (n : ℕ). n / 3) (sym a) ∙ s.third in
            let g : t / 3 ≡ (hinge (triangles c) (at c k) (at c (nx k))).p2 = ap (λ (n : ℕ). n / 3) (sym b) ∙ r.third in
            ahead (omega (arith, f, g, p.order)) (hinge-eq (hinge (triangles c) (at c k) (at c (nx k))) (k / 3) (t / 3) (at c k) (at c t) (at c (pv k)) (at c (pv t)) (sym f) (sym g) e.0 (e.1 ∙ sym w.from) (sym s.three ∙ ap (λ (n : ℕ). at c (pv n)) a) (sym r.three ∙ ap (λ (n : ℕ). at c (pv n)) b))
        go (inr e) =
            let s = reads_spot c h (hinge (triangles c) (at c k) (at c (nx k))).p1 (omega (arith, p.order, p.fits)) p.ahead in
            let r = reads_spot c h (hinge (triangles c) (at c k) (at c (nx k))).p2 p.fits p.back in
            let a : s.k ≡ t = met.once s.k t s.low w.low (s.one ∙ e.0 ∙ sym w.from) (s.two ∙ e.1 ∙ sym w.to) in
            let b : r.k ≡ k = met.once r.k k r.low l (r.one ∙ e.1) (r.two ∙ e.0) in
            let f : t / 3 ≡ (hinge (triangles c) (at c k) (at c (nx k))).p1 = ap (λ (n : ℕ). n / 3) (sym a) ∙ s.third in
            let g : k / 3 ≡ (hinge (triangles c) (at c k) (at c (nx k))).p2 = ap (λ (n : ℕ). n / 3) (sym b) ∙ r.third in
            behind (omega (arith, f, g, p.order)) (hinge-eq (hinge (triangles c) (at c k) (at c (nx k))) (t / 3) (k / 3) (at c t) (at c k) (at c (pv t)) (at c (pv k)) (sym f) (sym g) (e.0 ∙ sym w.from) e.1 (sym s.three ∙ ap (λ (n : ℕ). at c (pv n)) a) (sym r.three ∙ ap (λ (n : ℕ). at c (pv n)) b))
