-- A list of triangles is paired and ringed exactly where each corner is fine by itself.
use Prim.Native.Nat.{ℕ, zero, suc, ◌%◌, ◌<◌, ◌≤◌}
use native.Mathlib.Omega.{arith}
use mathlib.Core.Path.{◌≡◌, refl, sym, ap, ◌∙◌, subst}
use mathlib.Core.Logic.{◌⊎◌, inl, inr, ⊎_elim}
use mathlib.Core.Bool.{Bool, true, false}
use mathlib.Core.List.{List, [], ◌∷◌}
use lib.Dec.{eqb, ltb}
use lib.ListN.{length}
use borrow.Author.Tests.{eqb-true, eqb-false, eq-eqb, ltb-true, ltb-false}
use Rattle.surface.specs.Triangle.{triangles}
use Rattle.surface.specs.Closed.{Step, one, sides, Ring, Manifold}
use Rattle.halfedges.specs.Place.{nx, pv, at, st, Once}
use Rattle.halfedges.proofs.Steps.{starts, ends, froms, tos, In, Place, pl, pl_in, pl_place, pl_two, sides_froms, around-places}
use Rattle.halfedges.proofs.Perms.{leads_even, tally_perm}

-- the steps of v's places, no two of which leave one corner, are one ring
pub record Fine (c : List ℕ) (v : ℕ) : Type 0 where
  pub single : (x : ℕ) → froms x (pl c v 0 (length c)) ≤ 1
  pub ring : 0 < length (pl c v 0 (length c)) → Ring (pl c v 0 (length c))

-- the place arithmetic
pub nx-below : (n k : ℕ) → n % 3 ≡ 0 → k < n → nx k < n
nx-below n k h l = omega arith

pub pv-below : (n k : ℕ) → n % 3 ≡ 0 → k < n → pv k < n
pv-below n k h l = omega arith

pub pv-nx : (k : ℕ) → pv (nx k) ≡ k
pv-nx k = omega arith

pub fine_of : (c : List ℕ) → length c % 3 ≡ 0 → Manifold (triangles c) → (v : ℕ) → Fine c v
fine_of c h r v =
    let e = around-places c v h in
    record {
      single = λ x.
          let q : sides (triangles c) v x ≡ froms x (pl c v 0 (length c)) = sides_froms (triangles c) v x ∙ ap (froms x) e in
          go (sides (triangles c) v x) refl (froms x (pl c v 0 (length c))) q (r.paired.once v x);
      ring = λ u. subst Ring e (r.ringed v (subst (λ (l : List Step). 0 < length l) (sym e) u));
    }
  where
    go : (m : ℕ) {k : ℕ} → k ≡ m → (n : ℕ) → k ≡ n → (0 < k → k ≡ 1) → n ≤ 1
    go zero z n q f = omega arith
    go (suc m) z n q f = let o = f (omega arith) in omega arith

-- a step that starts at x
pub record From (x : ℕ) (l : List Step) : Type 0 where
  pub s : Step
  pub among : In s l
  pub starts : s.from ≡ x

pub from_of : (x : ℕ) (l : List Step) → 0 < froms x l → From x l
from_of x [] h = absurd (omega arith)
from_of x (s ∷ l) h = go (from_of x l) (eqb s.from x) refl
  where
    go : (0 < froms x l → From x l) → (b : Bool) → eqb s.from x ≡ b → From x (s ∷ l)
    go ih true e = record { s = s; among = inl refl; starts = eqb-true s.from x e }
    go ih false e = let u = ih (omega (arith, ap one e)) in record { s = u.s; among = inr u.among; starts = u.starts }

in_tos : (x : ℕ) (s : Step) (l : List Step) → In s l → s.to ≡ x → 0 < tos x l
in_tos x s [] i e = absurd i
in_tos x s (t ∷ l) (inl q) e = omega (arith, ap one (eq-eqb t.to x (ap (λ (y : Step). y.to) (sym q) ∙ e)))
in_tos x s (t ∷ l) (inr i) e = omega (arith, in_tos x s l i e)

pub in_length : (s : Step) (l : List Step) → In s l → 0 < length l
in_length s [] i = absurd i
in_length s (t ∷ l) i = omega arith

-- a ring starts where it ends
pub ring_even : (x : ℕ) (l : List Step) → Ring l → tos x l ≡ froms x l
ring_even x l r = omega (arith, leads_even x r.start r.start r.order r.leads, tally_perm (starts x) r.same, tally_perm (ends x) r.same)

module _ (c : List ℕ) (h : length c % 3 ≡ 0) (fine : (v : ℕ) → Fine c v) where
  pub sides_pl : (u x : ℕ) → sides (triangles c) u x ≡ froms x (pl c u 0 (length c))
  sides_pl u x = sides_froms (triangles c) u x ∙ ap (froms x) (around-places c u h)

  back : (u v : ℕ) → 0 < froms v (pl c u 0 (length c)) → froms u (pl c v 0 (length c)) ≡ 1
  back u v q =
      let f = from_of v (pl c u 0 (length c)) q in
      let k = pl_place c u 0 (length c) (length c) f.s (omega arith) f.among in
      let names : at c (nx k.k) ≡ v = ap (λ (y : Step). y.from) (sym k.makes) ∙ f.starts in
      let i : In (st c (nx k.k)) (pl c v 0 (length c)) = pl_in c v 0 (length c) (nx k.k) (omega arith) (omega (arith, nx-below (length c) k.k h k.low)) names in
      let t : 0 < tos u (pl c v 0 (length c)) = in_tos u (st c (nx k.k)) (pl c v 0 (length c)) i (ap (at c) (pv-nx k.k) ∙ k.names) in
      let e = ring_even u (pl c v 0 (length c)) ((fine v).ring (in_length (st c (nx k.k)) (pl c v 0 (length c)) i)) in
      let m = (fine v).single u in
      omega (arith, e, m, t)

  pub rounded_of : Manifold (triangles c)
  rounded_of = record {
    paired = record {
      once = λ u v q. let m = (fine u).single v in omega (arith, m, sides_pl u v);
      back = λ u v q. sides_pl v u ∙ back u v (omega (arith, sides_pl u v));
    };
    ringed = λ v u. subst Ring (sym (around-places c v h)) ((fine v).ring (subst (λ (l : List Step). 0 < length l) (around-places c v h) u));
  }

-- two places that run from v to one corner are one
pub apart-cases : (j k : ℕ) → (j ≡ k → ⊥) → (j < k) ⊎ (k < j)
apart-cases j k ne = go (ltb j k) refl
  where
    go : (b : Bool) → ltb j k ≡ b → (j < k) ⊎ (k < j)
    go true e = inl (ltb-true j k e)
    go false e = let l = ltb-false j k e in inr (omega (arith, ne))

pub fine-once : (c : List ℕ) (v : ℕ) → Fine c v → Once c v
fine-once c v fine j k lj lk ej ek same = go (eqb j k) refl
  where
    go : (b : Bool) → eqb j k ≡ b → j ≡ k
    go true e = eqb-true j k e
    go false e =
        let m = fine.single (at c (nx k)) in
        ⊎_elim
        (λ (q : j < k). absurd (omega (arith, m, pl_two c v (at c (nx k)) 0 (length c) j k (omega arith) q (omega arith) ej ek same refl)))
        (λ (q : k < j). absurd (omega (arith, m, pl_two c v (at c (nx k)) 0 (length c) k j (omega arith) q (omega arith) ek ej refl same)))
        (apart-cases j k (eqb-false j k e))

-- a corner that no place names is fine
none-tally : (l : List Step) (x : ℕ) → length l ≡ 0 → froms x l ≡ 0
none-tally [] x e = refl
none-tally (s ∷ l) x e = absurd (omega arith)

pub fine-unused : (c : List ℕ) (v : ℕ) → length (pl c v 0 (length c)) ≡ 0 → Fine c v
fine-unused c v e = record {
  single = λ x. omega (arith, none-tally (pl c v 0 (length c)) x e);
  ring = λ u. absurd (omega arith);
}

pub unused-past : (c : List ℕ) (v p : ℕ) → ((k : ℕ) → k < length c → at c k < p) → p ≤ v → length (pl c v 0 (length c)) ≡ 0
unused-past c v p below h = none (pl c v 0 (length c)) (λ s i. pl_place c v 0 (length c) (length c) s (omega arith) i)
  where
    none : (l : List Step) → ((s : Step) → In s l → Place c v (length c) s) → length l ≡ 0
    none [] f = refl
    none (s ∷ l) f = let u = f s (inl refl) in let b = below u.k u.low in absurd (omega (arith, u.names, b))
