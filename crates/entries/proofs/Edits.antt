-- The flip and the collapse on the lists that a program holds.
use Prim.Native.Nat.{ℕ, zero, suc, ◌+◌, ◌*◌, ◌-◌, ◌≤◌, ◌<◌}
use mathlib.Core.Path.{◌≡◌, refl, sym, ◌∙◌, ap, subst}
use mathlib.Core.List.{List, [], ◌∷◌, map}
use native.Mathlib.Omega.{arith}
use lib.ListN.{length, take, drop, set}
use Rattle.surface.specs.Triangle.{Tri, tri}
use Rattle.surface.specs.Edit.{Hinge, without, renamed, flip, collapse}
use Rattle.surface.specs.Flat.{held, put_at}
use Rattle.surface.proofs.Held.{set-held, length-put, drop-put}
use Rattle.history.specs.History.{made}
use Rattle.history.specs.Flat.{pair_of, entry_of}
use Rattle.verdicts.specs.Found.{Hung}
use Rattle.verdicts.specs.declared.Found.{Found}
use Rattle.entries.specs.Moved.{Zero, TakenOut, Reduced}
use Rattle.entries.specs.Marks.{Mapped}
use Rattle.entries.proofs.Moved.{drop-same-zero}
use Rattle.entries.proofs.TakenOut.{taken_out_zero, taken_out_held, taken_out_take}

-- two triangles put at their places
pub two-put : (l : List ℕ) {n p q : ℕ} (t s : Tri) (r : List ℕ) → 3 * n ≤ length l → p < n → q < n → r ≡ put_at (put_at l p t) q s → held r n ≡ set (set (held l n) p t) q s
two-put l {n} {p} {q} t s r a b c e =
    ap (λ (k : List ℕ). held k n) e ∙ set-held (put_at l p t) n q s (omega (arith, length-put l p t)) c ∙ ap (λ (k : List Tri). set k q s) (set-held l n p t a b)

pub two-rest : (l : List ℕ) {n p q : ℕ} (t s : Tri) (r : List ℕ) → p < n → q < n → r ≡ put_at (put_at l p t) q s → drop (3 * n) r ≡ drop (3 * n) l
two-rest l {n} {p} {q} t s r b c e = ap (drop (3 * n)) e ∙ drop-put (put_at l p t) q s (3 * n) (omega arith) ∙ drop-put l p t (3 * n) (omega arith)

-- with the hinge's corners, that is the flip
module _ {l ls : List ℕ} {n a b : ℕ} (f : Found) (h : Hung l ls n a b f) (r : List ℕ) (e : r ≡ put_at (put_at l f.earlier (tri f.c f.d f.v)) f.later (tri f.d f.c f.u)) where
  first_in : f.earlier < n
  first_in = omega (arith, h.places.order, h.places.fits)

  pub flip-made : pair_of r ls n ≡ made (pair_of l ls n) (entry_of 1 a b)
  unfolding flip
  flip-made =
      let g : held r n ≡ flip a b (held l n) = two-put l (tri f.c f.d f.v) (tri f.d f.c f.u) r h.ready.room first_in h.places.fits e
      ∙ ap (λ (k : Hinge). set (set (held l n) k.p1 (tri k.c k.d k.v)) k.p2 (tri k.d k.c k.u)) h.is in
      λ q. record { tris = g q; labels = take n ls }

  pub flip-rest : drop (3 * n) r ≡ drop (3 * n) l
  flip-rest = two-rest l (tri f.c f.d f.v) (tri f.d f.c f.u) r first_in h.places.fits e

-- the collapse in its steps
map_out : (f : Tri → Tri) (i : ℕ) (ts : List Tri) → map f (without i ts) ≡ without i (map f ts)
unfolding without
map_out f i [] = refl
map_out f zero (t ∷ ts) = refl
map_out f (suc i) (t ∷ ts) = ap (λ (k : List Tri). f t ∷ k) (map_out f i ts)

module _ {l ls : List ℕ} {n a b : ℕ} (f : Found) (h : Hung l ls n a b f) {l1 l2 ls1 : List ℕ} (m1 : Mapped (renamed a b) n l l1)
    (m2 : TakenOut (3 * f.earlier) (3 * f.later) 3 l1 l2) (n1 : TakenOut f.earlier f.later 1 ls ls1) where
  order : f.earlier < f.later
  order = h.places.order

  fits : f.later < n
  fits = h.places.fits

  count : n - 2 + 2 ≡ n
  count = omega (arith, order, fits)

  tris-made : held l2 (n - 2) ≡ map (renamed a b) (without f.earlier (without f.later (held l n)))
  tris-made =
      taken_out_held l1 l2 n (n - 2) f.earlier f.later count (omega (arith, h.ready.room, m1.size)) order fits m2 ∙ ap (λ (k : List Tri). without f.earlier (without f.later k)) m1.is
      ∙ sym (map_out (renamed a b) f.earlier (without f.later (held l n)) ∙ ap (without f.earlier) (map_out (renamed a b) f.later (held l n)))

  labels-made : take (n - 2) ls1 ≡ without f.earlier (without f.later (take n ls))
  labels-made = taken_out_take ls ls1 n (n - 2) f.earlier f.later count h.labels order fits n1

  pub collapse-made : Reduced l ls n a b l2 ls1 (n - 2)
  unfolding collapse
  collapse-made =
      let t = fits in
      let i : 3 * n ≡ 3 * (n - 2) + 3 + 3 = omega (arith, count) in
      let j : n ≡ n - 2 + 1 + 1 = omega (arith, count) in
      record {
        count = count;
        is = λ q. record {
          tris = (tris-made ∙ ap (λ (g : Hinge). map (renamed a b) (without g.p1 (without g.p2 (held l n)))) h.is) q;
          labels = (labels-made ∙ ap (λ (g : Hinge). without g.p1 (without g.p2 (take n ls))) h.is) q;
        };
        freed = λ z. taken_out_zero (3 * (n - 2)) m2 (omega (arith, count)) (subst (λ (k : ℕ). Zero k l1) i (drop-same-zero (3 * n) l l1 m1.rest z));
        unlabelled = λ z. taken_out_zero (n - 2) n1 (omega (arith, count)) (subst (λ (k : ℕ). Zero k ls) j z);
      }

-- the same where the places and the triangles were computed
pub two_puts : (l : List ℕ) {m r : List ℕ} {i j p q : ℕ} {t s t' s' : Tri} → i ≡ p → j ≡ q → t ≡ t' → s ≡ s' → m ≡ put_at l i t → r ≡ put_at m j s → r ≡ put_at (put_at l p t') q s'
two_puts l {m} {r} {i} {j} ei ej et es em er = er ∙ (λ k. put_at (em k) (ej k) (es k)) ∙ (λ k. put_at (put_at l (ei k) (et k)) (ej 1) (es 1))
