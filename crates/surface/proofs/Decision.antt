-- The test decides.
use Prim.Native.Nat.{ℕ, zero, suc, ◌≤◌, ◌<◌}
use mathlib.Core.Path.{◌≡◌, refl, ap}
use mathlib.Core.Logic.{◌↔◌}
use mathlib.Core.Bool.{Bool, true, false, ◌&&◌, not, false≢true}
use mathlib.Core.List.{List, [], ◌∷◌}
use native.Mathlib.Omega.{arith}
use native.Mathlib.Decide.{dec_lt}
use lib.Dec.{eqb}
use lib.ListN.{length}
use borrow.Author.Tests.{eqb-true, eqb-false, eq-eqb, ne_eqb}
use Rattle.surface.specs.Triangle.{Tri}
use Rattle.surface.specs.Closed.{sides, Step, around, InUse, Differing, Paired, Ringed, Distinct, Closed}
use Rattle.surface.specs.Check.{leftover, empty, every, differ?, side?, sides?, corner?, corners?, closed?}
use Rattle.surface.specs.Edit.{place}
use Rattle.surface.proofs.Bools.{true_false, both, join, not_true}
use Rattle.surface.proofs.Reading.{Reads, r0, r1, r2, Has, here, there, spin, has-side, side-has}
use Rattle.surface.proofs.Places.{place-has}
use Rattle.surface.proofs.Around.{nothing_left, joined_ring}
use Rattle.surface.proofs.Bridge.{in_use, closed_surface_lem}
use Rattle.surface.proofs.Euler.{use_has}
use Rattle.surface.proofs.Valence.{distinct_iff}

every-place : (f : Tri → Bool) (ts : List Tri) → every f ts ≡ true → (i : ℕ) → i < length ts → f (place ts i) ≡ true
unfolding every
every-place f [] e i l = absurd (omega arith)
every-place f (t ∷ ts) e zero l = (both (f t) (every f ts) e).0
every-place f (t ∷ ts) e (suc i) l = every-place f ts (both (f t) (every f ts) e).1 i (omega arith)

place-every : (f : Tri → Bool) (ts : List Tri) → ((i : ℕ) → i < length ts → f (place ts i) ≡ true) → every f ts ≡ true
unfolding every
place-every f [] h = refl
place-every f (t ∷ ts) h = join (f t) (every f ts) (h 0 (omega arith)) (place-every f ts (λ i l. h (suc i) (omega arith)))

every-has : (f : Tri → Bool) {x y z : ℕ} {ts : List Tri} → every f ts ≡ true → Has x y z ts → (t : Tri) × (f t ≡ true) × Reads t x y z
unfolding every
every-has f e (here {t = t} {ts = ts} r) = (t, (both (f t) (every f ts) e).0, r)
every-has f e (there {t = t} {ts = ts} h) = every-has f (both (f t) (every f ts) e).1 h

no_empty : (l : List Step) → empty l ≡ true → l ≡ []
no_empty [] e = refl
no_empty (s ∷ l) e = absurd (false≢true e)

module _ (ts : List Tri) where
  -- a test of each triangle's corners is a test of each corner in use
  corner_of_lem : (t : Tri) {x y z : ℕ} → corners? ts t ≡ true → Reads t x y z → corner? ts x ≡ true
  corner_of_lem t e (r0 p q r) = rw (← p) (both (corner? ts t.a) (corner? ts t.b && corner? ts t.c) e).0
  corner_of_lem t e (r1 p q r) =
      rw (← p) (both (corner? ts t.b) (corner? ts t.c) (both (corner? ts t.a) (corner? ts t.b && corner? ts t.c) e).1).0
  corner_of_lem t e (r2 p q r) =
      rw (← p) (both (corner? ts t.b) (corner? ts t.c) (both (corner? ts t.a) (corner? ts t.b && corner? ts t.c) e).1).1

  side_of_lem : (t : Tri) {x y z : ℕ} → sides? ts t ≡ true → Reads t x y z → side? ts x y ≡ true
  side_of_lem t e (r0 p q r) = rw (← p, ← q) (both (side? ts t.a t.b) (side? ts t.b t.c && side? ts t.c t.a) e).0
  side_of_lem t e (r1 p q r) =
      rw (← p, ← q) (both (side? ts t.b t.c) (side? ts t.c t.a) (both (side? ts t.a t.b) (side? ts t.b t.c && side? ts t.c t.a) e).1).0
  side_of_lem t e (r2 p q r) =
      rw (← p, ← q) (both (side? ts t.b t.c) (side? ts t.c t.a) (both (side? ts t.a t.b) (side? ts t.b t.c && side? ts t.c t.a) e).1).1

  -- the test passes: the rules hold
  module _ (da : every differ? ts ≡ true) (pa : every (sides? ts) ts ≡ true) (ca : every (corners? ts) ts ≡ true) where
    differing : Differing ts
    differing i l =
        let t = place ts i in
        let e = both (not (eqb t.a t.b)) (not (eqb t.b t.c) && not (eqb t.c t.a)) (every-place differ? ts da i l) in
        let f = both (not (eqb t.b t.c)) (not (eqb t.c t.a)) e.1 in
        record { ab = eqb-false t.a t.b (not_true _ e.0); bc = eqb-false t.b t.c (not_true _ f.0); ca = eqb-false t.c t.a (not_true _ f.1) }

    one_side : (u v : ℕ) → 0 < sides ts u v → (sides ts u v ≡ 1) × (sides ts v u ≡ 1)
    one_side u v p =
        let h = side-has ts u v p in
        let k = every-has (sides? ts) pa h.1 in
        let e = both (eqb (sides ts u v) 1) (eqb (sides ts v u) 1) (side_of_lem k.0 k.1 k.2) in
        (eqb-true (sides ts u v) 1 e.0, eqb-true (sides ts v u) 1 e.1)

    paired : Paired ts
    paired = record { once = λ u v p. (one_side u v p).0; back = λ u v p. (one_side u v p).1 }

    at-corner : (v : ℕ) → InUse ts v → corner? ts v ≡ true
    at-corner v u =
        let h = use_has ts v u in
        let k = every-has (corners? ts) ca h.2 in
        corner_of_lem k.0 k.1 k.2

    once : (x y : ℕ) → sides ts x y ≤ 1
    once x y = pick (dec_lt 0 (sides ts x y))
      where
        pick : Dec (0 < sides ts x y) → sides ts x y ≤ 1
        pick (yes p) = omega (arith, (one_side x y p).0)
        pick (no n) = omega arith

    even : (x y : ℕ) → sides ts x y ≡ sides ts y x
    even x y = pick (dec_lt 0 (sides ts x y)) (dec_lt 0 (sides ts y x))
      where
        pick : Dec (0 < sides ts x y) → Dec (0 < sides ts y x) → sides ts x y ≡ sides ts y x
        pick (yes p) q = omega (arith, one_side x y p)
        pick (no n) (yes q) = omega (arith, one_side y x q)
        pick (no n) (no m) = omega arith

    ringed : Ringed ts
    ringed v u = joined_ring ts v once even u (no_empty (leftover (around ts v)) (both (empty (leftover (around ts v))) (not (eqb (length (around ts v)) 2)) (at-corner v u)).0)

    distinct : Distinct ts
    distinct = (distinct_iff differing paired ringed).1 (λ v e.
        let k = both (empty (leftover (around ts v))) (not (eqb (length (around ts v)) 2)) (at-corner v (omega arith)) in
        eqb-false (length (around ts v)) 2 (not_true _ k.1) e)

    passed : Closed ts
    passed = record { differ = differing; paired = paired; ringed = ringed; distinct = distinct }

  -- the rules hold: the test passes
  module _ (c : Closed ts) where
    here-at : (i : ℕ) → i < length ts → Has (place ts i).a (place ts i).b (place ts i).c ts
    here-at i l = place-has ts i l (r0 refl refl refl)

    side-passes : (u v : ℕ) → 0 < sides ts u v → side? ts u v ≡ true
    side-passes u v p = join _ _ (eq-eqb (sides ts u v) 1 (c.paired.once u v p)) (eq-eqb (sides ts v u) 1 (c.paired.back u v p))

    corner-passes : (v : ℕ) → InUse ts v → corner? ts v ≡ true
    corner-passes v u =
        let s = closed_surface_lem c in
        join _ _ (ap empty (nothing_left ts v s.once s.even u (s.joined v)))
        (ap not (ne_eqb (length (around ts v)) 2 ((distinct_iff c.differ c.paired c.ringed).0 c.distinct v)))

    passes : closed? ts ≡ true
    unfolding closed? every
    passes = join _ _
        (place-every differ? ts (λ i l. let d = c.differ i l in join _ _ (ap not (ne_eqb _ _ d.ab)) (join _ _ (ap not (ne_eqb _ _ d.bc)) (ap not (ne_eqb _ _ d.ca)))))
        (join _ _
        (place-every (sides? ts) ts (λ i l. let h = here-at i l in
        join _ _ (side-passes _ _ (has-side h)) (join _ _ (side-passes _ _ (has-side (spin h))) (side-passes _ _ (has-side (spin (spin h)))))))
        (place-every (corners? ts) ts (λ i l. let h = here-at i l in
        join _ _ (corner-passes _ (in_use h)) (join _ _ (corner-passes _ (in_use (spin h))) (corner-passes _ (in_use (spin (spin h))))))))

-- T1
pub closed?_iff : (ts : List Tri) → (closed? ts ≡ true) ↔ Closed ts
unfolding closed? every
closed?_iff ts = (
  (λ e. let p = both (every differ? ts) (every (sides? ts) ts && every (corners? ts) ts) e in
      let q = both (every (sides? ts) ts) (every (corners? ts) ts) p.1 in
      passed ts p.0 q.0 q.1),
  λ c. passes ts c,
)

pub closed_dec : (ts : List Tri) → Dec (Closed ts)
closed_dec ts = pick (closed? ts) refl
  where
    pick : (k : Bool) → closed? ts ≡ k → Dec (Closed ts)
    pick true e = yes ((closed?_iff ts).0 e)
    pick false e = no (λ c. true_false ((closed?_iff ts).1 c) e)
