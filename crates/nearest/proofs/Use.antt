-- Corners in use: the test decides `InUse`, and the head of a corner's chain is not 0 exactly where it is in use. Assumes nothing.
use Prim.Native.Nat.{ℕ, zero, suc, ◌%◌, ◌≤◌, ◌<◌}
use mathlib.Core.Path.{◌≡◌, refl, sym, ap, ◌∙◌}
use mathlib.Core.Logic.{◌↔◌}
use mathlib.Core.Bool.{true, not}
use mathlib.Core.List.{List}
use native.Mathlib.Nat.{lt_of_not-le}
use native.Mathlib.Omega.{arith}
use lib.Dec.{eqb, ltb}
use lib.ListN.{length}
use borrow.Author.Tests.{ltb-true, lt-ltb, ne_eqb, le-ltb}
use Rattle.surface.specs.Triangle.{Tri, triangles}
use Rattle.surface.specs.Closed.{around, InUse}
use Rattle.halfedges.specs.Place.{at, last, uses, Linked}
use Rattle.halfedges.proofs.Steps.{around-places, length_pl}
use Rattle.halfedges.proofs.Chains.{last-names, last_skip, uses-last, uses-suc, uses-zero}
use Rattle.halfedges.proofs.Fine.{unused-past}
use Rattle.nearest.specs.Nearest.{used?}
use Rattle.nearest.specs.Stages.{has_head}

pub used_iff : (ts : List Tri) (v : ℕ) → (used? ts v ≡ true) ↔ InUse ts v
unfolding used?
used_iff ts v = (ltb-true 0 (length (around ts v)), lt-ltb 0 (length (around ts v)))

module _ (c : List ℕ) (thirds : length c % 3 ≡ 0) where
  -- the triangles name a corner at as many places as the list does
  named : (v : ℕ) → length (around (triangles c) v) ≡ uses c v (length c)
  named v = ap length (around-places c v thirds) ∙ length_pl c v (length c)

  by-head : (v n : ℕ) → last c v (length c) ≡ n → ltb 0 (uses c v (length c)) ≡ not (eqb n 0)
  by-head v zero e = le-ltb 0 (uses c v (length c)) (none (sym (uses-last c v (length c)) ∙ ap (uses c v) e ∙ uses-zero c v))
    where
      none : {n : ℕ} → n ≡ 0 → n ≤ 0
      none {n} p = omega arith
  by-head v (suc k) e = lt-ltb 0 (uses c v (length c)) (some (sym (uses-last c v (length c)) ∙ ap (uses c v) e ∙ uses-suc c v k (last-names c v (length c) k e))) ∙ ap not (sym (ne_eqb (suc k) 0 (λ h. omega arith)))
    where
      some : {n m : ℕ} → n ≡ suc m → 0 < n
      some {n} {m} p = omega arith

  pub head-used : (p : ℕ) (w : List ℕ) → Linked c p w (length c) → (v : ℕ) → v < p → has_head w v ≡ used? (triangles c) v
  unfolding used?
  head-used p w h v l = sym (ap (ltb 0) (named v) ∙ by-head v (at w v) (sym (h.heads v l)))

  -- a corner on the list of corners is in use
  pub first-used : 0 < length c → InUse (triangles c) (at c 0)
  first-used h = ltb-true 0 (length (around (triangles c) (at c 0))) (ap (ltb 0) (named (at c 0)) ∙ go (last c (at c 0) (length c)) refl)
    where
      go : (n : ℕ) → last c (at c 0) (length c) ≡ n → ltb 0 (uses c (at c 0) (length c)) ≡ true
      go zero e = absurd (last_skip c (at c 0) (length c) 0 (omega arith) h refl)
      go (suc k) e = by-head (at c 0) (suc k) e ∙ ap not (ne_eqb (suc k) 0 (λ z. omega arith))

  -- and one in use is below p where the list is
  pub on_list : (p : ℕ) → ((k : ℕ) → k < length c → at c k < p) → (v : ℕ) → InUse (triangles c) v → v < p
  on_list p below v u = lt_of_not-le (λ (h : p ≤ v). let e = ap length (around-places c v thirds) ∙ unused-past c v p below h in nothing e u)
    where
      nothing : {n : ℕ} → n ≡ 0 → 0 < n → ⊥
      nothing {n} e g = omega arith
