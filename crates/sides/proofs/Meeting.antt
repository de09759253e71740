-- A closed list is met: each side is found once, and once the other way.
use Prim.Native.Nat.{ℕ, ◌%◌, ◌<◌}
use native.Mathlib.Omega.{arith}
use mathlib.Core.Path.{◌≡◌, refl, sym, ap, ◌∙◌}
use mathlib.Core.Bool.{Bool, true, false}
use mathlib.Core.List.{List}
use lib.Dec.{ltb}
use lib.ListN.{length}
use borrow.Author.Tests.{ltb-true, ltb-false}
use Rattle.surface.specs.Triangle.{triangles}
use Rattle.surface.specs.Closed.{Step, Closed}
use Rattle.halfedges.specs.Place.{nx, at, st}
use Rattle.halfedges.proofs.Steps.{pl, pl_in, pl_place, in_froms}
use Rattle.halfedges.proofs.Fine.{Fine, fine_of, fine-once, from_of, sides_pl}
use Rattle.halfedges.proofs.Whole.{closed-rounded, closed_differing}
use Rattle.sides.specs.Side.{Twin, Met}

record Back (c : List ℕ) (k : ℕ) : Type 0 where
  t : ℕ
  is : Twin c k t

module _ (c : List ℕ) (h : length c % 3 ≡ 0) (closed : Closed (triangles c)) where
  fine : (v : ℕ) → Fine c v
  fine = fine_of c h (closed-rounded c closed)

  back_of : (k : ℕ) → k < length c → Back c k
  back_of k l =
      let u = at c k in
      let v = at c (nx k) in
      let there = in_froms v (st c k) (pl c u 0 (length c)) (pl_in c u 0 (length c) k (omega arith) (omega arith) refl) refl in
      let e = closed.paired.back u v (omega (arith, there, sides_pl c h fine u v)) in
      let f = from_of u (pl c v 0 (length c)) (omega (arith, e, sides_pl c h fine v u)) in
      let q = pl_place c v 0 (length c) (length c) f.s (omega arith) f.among in
      record { t = q.k; is = record { low = q.low; from = q.names; to = ap (λ (y : Step). y.from) (sym q.makes) ∙ f.starts } }

  pick-back : (k : ℕ) (b : Bool) → ltb k (length c) ≡ b → ℕ
  pick-back k true e = (back_of k (ltb-true k (length c) e)).t
  pick-back k false e = 0

  pick_is : (k : ℕ) (b : Bool) (e : ltb k (length c) ≡ b) → k < length c → Twin c k (pick-back k b e)
  unfolding pick-back
  pick_is k true e l = (back_of k (ltb-true k (length c) e)).is
  pick_is k false e l = let g = ltb-false k (length c) e in absurd (omega (arith, g))

  pub met_of : Met c
  met_of = record {
    once = λ j k lj lk e f. fine-once c (at c k) (fine (at c k)) j k lj lk e refl f;
    twin = λ k. pick-back k (ltb k (length c)) refl;
    back = λ k l. pick_is k (ltb k (length c)) refl l;
    differ = λ k l. closed_differing c h closed k l;
  }
