-- The triangles of a corner list by its places: a place reads its triangle from its corner on.
use Prim.Native.Nat.{ℕ, ◌+◌, ◌*◌, ◌/◌, ◌%◌, ◌<◌}
use native.Mathlib.Omega.{arith}
use mathlib.Core.Path.{◌≡◌, refl, sym, ap, ◌∙◌}
use mathlib.Core.Bool.{Bool, true, false}
use mathlib.Core.List.{List}
use lib.Dec.{eqb}
use lib.ListN.{length}
use borrow.Author.Tests.{eqb-true, eqb-false}
use Rattle.surface.specs.Triangle.{Tri, tri, triangles}
use Rattle.surface.specs.Closed.{sides, around}
use Rattle.surface.specs.Edit.{place}
use Rattle.surface.proofs.Reading.{Reads, r0, r1, r2, Has, has-side, side-has}
use Rattle.surface.proofs.Places.{place-has, has-place}
use Rattle.surface.proofs.Flat.{place-triangles, length-triangles}
use Rattle.halfedges.specs.Place.{nx, pv, at, uses}
use Rattle.halfedges.proofs.Steps.{around-places, length_pl}
use Rattle.chains.specs.Flat.{Runs}

-- a list of thirds has a triangle for each three places
pub thirds-length : (c : List ℕ) → length c % 3 ≡ 0 → 3 * length (triangles c) ≡ length c
thirds-length c h = let z : length c ≡ 3 * (length c / 3) = omega arith in omega (arith, length-triangles (length c / 3) c z)

pub triangle_low : (c : List ℕ) (k : ℕ) → length c % 3 ≡ 0 → k < length c → k / 3 < length (triangles c)
triangle_low c k h l = omega (arith, thirds-length c h)

-- a place of the triangle i that reads it from x on, and a place that runs from x to y
pub record Spot (c : List ℕ) (i x y z : ℕ) : Type 0 where
  pub k : ℕ
  pub low : k < length c
  pub third : k / 3 ≡ i
  pub one : at c k ≡ x
  pub two : at c (nx k) ≡ y
  pub three : at c (pv k) ≡ z

module _ (c : List ℕ) (h : length c % 3 ≡ 0) where
  -- the three places of a triangle
  corner-tri : (i : ℕ) → i < length (triangles c) → place (triangles c) i ≡ tri (at c (3 * i)) (at c (3 * i + 1)) (at c (3 * i + 2))
  corner-tri i l = place-triangles c i (omega (arith, thirds-length c h))

  -- a place reads its triangle
  pub place_reads : (k : ℕ) → k < length c → Reads (place (triangles c) (k / 3)) (at c k) (at c (nx k)) (at c (pv k))
  place_reads k l = go (eqb (k % 3) 0) refl (eqb (k % 3) 1) refl
    where
      e : place (triangles c) (k / 3) ≡ tri (at c (3 * (k / 3))) (at c (3 * (k / 3) + 1)) (at c (3 * (k / 3) + 2))
      e = corner-tri (k / 3) (triangle_low c k h l)

      go : (a : Bool) → eqb (k % 3) 0 ≡ a → (b : Bool) → eqb (k % 3) 1 ≡ b → Reads (place (triangles c) (k / 3)) (at c k) (at c (nx k)) (at c (pv k))
      go true p b q =
          let z = eqb-true (k % 3) 0 p in
          r0 (ap (λ (t : Tri). t.a) e ∙ ap (at c) (omega (arith, z))) (ap (λ (t : Tri). t.b) e ∙ ap (at c) (omega (arith, z))) (ap (λ (t : Tri). t.c) e ∙ ap (at c) (omega (arith, z)))
      go false p true q =
          let z = eqb-true (k % 3) 1 q in
          r1 (ap (λ (t : Tri). t.b) e ∙ ap (at c) (omega (arith, z))) (ap (λ (t : Tri). t.c) e ∙ ap (at c) (omega (arith, z))) (ap (λ (t : Tri). t.a) e ∙ ap (at c) (omega (arith, z)))
      go false p false q =
          let y = eqb-false (k % 3) 0 p in
          let z = eqb-false (k % 3) 1 q in
          r2 (ap (λ (t : Tri). t.c) e ∙ ap (at c) (omega (arith, y, z))) (ap (λ (t : Tri). t.a) e ∙ ap (at c) (omega (arith, y, z))) (ap (λ (t : Tri). t.b) e ∙ ap (at c) (omega (arith, y, z)))

  pub place_at : (k : ℕ) → k < length c → Has (at c k) (at c (nx k)) (at c (pv k)) (triangles c)
  place_at k l = place-has (triangles c) (k / 3) (triangle_low c k h l) (place_reads k l)

  -- and every reading is a place's
  pub reads_spot : (i : ℕ) {x y z : ℕ} → i < length (triangles c) → Reads (place (triangles c) i) x y z → Spot c i x y z
  reads_spot i {x} {y} {z} l r = go r
    where
      e : place (triangles c) i ≡ tri (at c (3 * i)) (at c (3 * i + 1)) (at c (3 * i + 2))
      e = corner-tri i l

      n : 3 * length (triangles c) ≡ length c
      n = thirds-length c h

      go : Reads (place (triangles c) i) x y z → Spot c i x y z
      go (r0 p q s) = record { k = 3 * i; low = omega (arith, n); third = omega arith; one = sym (ap (λ (t : Tri). t.a) e) ∙ p; two = ap (at c) (omega arith) ∙ sym (ap (λ (t : Tri). t.b) e) ∙ q; three = ap (at c) (omega arith) ∙ sym (ap (λ (t : Tri). t.c) e) ∙ s }
      go (r1 p q s) = record { k = 3 * i + 1; low = omega (arith, n); third = omega arith; one = sym (ap (λ (t : Tri). t.b) e) ∙ p; two = ap (at c) (omega arith) ∙ sym (ap (λ (t : Tri). t.c) e) ∙ q; three = ap (at c) (omega arith) ∙ sym (ap (λ (t : Tri). t.a) e) ∙ s }
      go (r2 p q s) = record { k = 3 * i + 2; low = omega (arith, n); third = omega arith; one = sym (ap (λ (t : Tri). t.c) e) ∙ p; two = ap (at c) (omega arith) ∙ sym (ap (λ (t : Tri). t.a) e) ∙ q; three = ap (at c) (omega arith) ∙ sym (ap (λ (t : Tri). t.b) e) ∙ s }

  -- a side by its place, and the place of a side
  pub runs-side : (k : ℕ) → k < length c → 0 < sides (triangles c) (at c k) (at c (nx k))
  runs-side k l = has-side (place_at k l)

  pub side-runs : (x y : ℕ) → 0 < sides (triangles c) x y → Runs c x y
  side-runs x y g =
      let s = side-has (triangles c) x y g in
      let p = has-place (triangles c) s.1 in
      let q = reads_spot p.at p.fits p.reads in
      record { k = q.k; low = q.low; from = q.one; to = q.two }

  -- as many triangles around a corner as places name it
  pub around-uses : (v : ℕ) → length (around (triangles c) v) ≡ uses c v (length c)
  around-uses v = ap length (around-places c v h) ∙ length_pl c v (length c)
