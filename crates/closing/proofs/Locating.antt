-- What a turn of each loop leaves that finds the place of an open surface, and what the stages make of it together.
use Prim.Native.Nat.{ℕ, suc, ◌%◌, ◌<◌, ◌≤◌, min}
use native.Mathlib.Omega.{arith}
use native.Mathlib.Decide.{dec_lt, ℕ_discrete}
use mathlib.Core.Path.{◌≡◌, refl, sym, ap, ◌∙◌, subst}
use mathlib.Core.Logic.{inl, inr, ⊎_elim}
use mathlib.Core.Bool.{Bool, true, false, not}
use mathlib.Core.List.{List}
use Rattle.std.specs.Prelude.{Option, None, Some}
use lib.Dec.{eqb}
use lib.ListN.{length}
use borrow.Author.Tests.{eqb-true, eqb-false}
use Rattle.surface.specs.Triangle.{triangles}
use Rattle.surface.specs.Closed.{Step, sides, around, InUse, Ring, Paired}
use Rattle.surface.specs.Finding.{IsLone, IsSplit, NoneRepeated, PairBefore, SmallestPair, Finds}
use Rattle.surface.specs.declared.Finding.TheVariants as finds
use Rattle.surface.proofs.Findings.{paired-once, none-paired}
use Rattle.halfedges.specs.Place.{nx, pv, at, last, stamp}
use Rattle.halfedges.proofs.Steps.{froms, pl, around-places, sides_froms}
use Rattle.halfedges.proofs.Fine.{Fine, nx-below, pv-below, from_of, in_length, ring_even}
use Rattle.halfedges.proofs.Turns.{same_or}
use Rattle.closing.specs.Locating.{hits, Two, Unmet, IsLeast, Least, smaller, lower, StampsMean, Wrong, IsFirst, NoneBelow}
use Rattle.closing.specs.Stages.{FirstUnringed}
use Rattle.closing.specs.declared.Fault.{Fault}
use Rattle.closing.specs.declared.Fault.TheVariants.{Repeated, Lone}
use Rattle.closing.proofs.Hits.{hits-zero, hits-last, hits-place, hits-runs, sides_tos, hits_comes}
use Rattle.closing.proofs.Stamping.{Turn, count-here, count_other, count-on, some-here}

-- ---- the smallest number so far

-- a turn at x adds at most x to what is sought, and the test tells whether x is of it
module _ {P Q : ℕ → Type 0} (p x : ℕ) (low : x < p) (on : (y : ℕ) → P y → Q y) (back : (y : ℕ) → (y ≡ x → ⊥) → Q y → P y) where
  -- x is found
  sooner : (best : Option ℕ) → Q x → Least P p best → Least Q p (Some (smaller x best))
  sooner None q h = record { within = low; holds = q; before = λ y m s. h y (omega arith) (back y (λ z. omega arith) s) }
  sooner (Some b) q h = pick (dec_lt b x)
    where
      pick : Dec (b < x) → IsLeast Q p (min b x)
      pick (yes l) =
          let e : b ≡ min b x = omega arith in
          subst (IsLeast Q p) e (record { within = h.within; holds = on b h.holds; before = λ y m s. h.before y m (back y (λ z. omega arith) s) })
      pick (no n) =
          let e : x ≡ min b x = omega (arith, n) in
          subst (IsLeast Q p) e (record { within = low; holds = q; before = λ y m s. h.before y (omega (arith, n)) (back y (λ z. omega arith) s) })

  -- it is not
  as-before : (best : Option ℕ) → (Q x → ⊥) → Least P p best → Least Q p best
  as-before None n h = λ y m s. ⊎_elim (λ (z : y ≡ x). n (subst Q z s)) (λ (z : y ≡ x → ⊥). h y m (back y z s)) (same_or y x)
  as-before (Some b) n h = record {
    within = h.within;
    holds = on b h.holds;
    before = λ y m s. ⊎_elim (λ (z : y ≡ x). n (subst Q z s)) (λ (z : y ≡ x → ⊥). h.before y m (back y z s)) (same_or y x);
  }

  best_turn : (best best' : Option ℕ) (b : Bool) → (b ≡ true → Q x) → (b ≡ false → Q x → ⊥) → best' ≡ lower b x best → Least P p best → Least Q p best'
  best_turn best best' b here away e h = subst (Least Q p) (sym e) (go b here away)
    where
      go : (b : Bool) → (b ≡ true → Q x) → (b ≡ false → Q x → ⊥) → Least Q p (lower b x best)
      go true here away = sooner best (here refl) h
      go false here away = as-before best (away refl) h

pub least-map : {P Q : ℕ → Type 0} {p : ℕ} (r : Option ℕ) → ((y : ℕ) → y < p → P y → Q y) → ((y : ℕ) → y < p → Q y → P y) → Least P p r → Least Q p r
least-map None on back h = λ y l q. h y l (back y l q)
least-map (Some x) on back h =
    record { within = h.within; holds = on x h.within h.holds; before = λ y l q. h.before y l (back y (omega (arith, h.within)) q) }

-- ---- the smallest corner to which two places of u run

pub two-start : (c : List ℕ) (p u : ℕ) {q : ℕ} → q ≡ last c u (length c) → Least (Two c u q) p None
two-start c p u e y l s = omega (arith, s, ap (hits nx c u y) e, hits-last nx c u y (length c))

pub two_turn : {c : List ℕ} {p u q k x q' : ℕ} {w : List ℕ} (turn : Turn nx c p u q k x) → q' ≡ last c u k → (seen mark : ℕ) (best best' : Option ℕ) → seen ≡ stamp p w x → mark ≡ suc u → best' ≡ lower (eqb seen mark) x best → StampsMean nx c p w u q → Least (Two c u q) p best → Least (Two c u q') p best'
two_turn {p = p} {x = x} turn on seen mark best best' s m e met h =
    let here = count-here turn on in
    best_turn p x turn.x-low
    (λ y q. omega (arith, q, count-on turn on y))
    (λ y n q. omega (arith, q, count_other turn on y n))
    best best' (eqb seen mark)
    (λ t. let f = met.found x turn.x-low (sym s ∙ eqb-true seen mark t ∙ m) in omega arith)
    (λ t q. eqb-false seen mark t (s ∙ met.known x turn.x-low (omega (arith, q)) ∙ sym m))
    e h

pub two_repeated : (c : List ℕ) (p u : ℕ) (r : Option ℕ) → length c % 3 ≡ 0 → Least (Two c u 0) p r → Least (Wrong Repeated (triangles c) u) p r
two_repeated c p u r h l =
    least-map r
    (λ y m q. omega (arith, q, hits-zero nx c u y, hits-runs c u y h))
    (λ y m q. omega (arith, q, hits-zero nx c u y, hits-runs c u y h))
    l

-- ---- the smallest corner to which a place of u runs and from which none comes

pub unmet-start : (c : List ℕ) (p : ℕ) (w : List ℕ) (u : ℕ) {q : ℕ} → q ≡ last c u (length c) → Least (Unmet c p w u q) p None
unmet-start c p w u e y l s = omega (arith, s.0, ap (hits nx c u y) e, hits-last nx c u y (length c))

pub unmet_turn : {c : List ℕ} {p u q k x q' : ℕ} (w : List ℕ) (turn : Turn nx c p u q k x) → q' ≡ last c u k → (seen mark : ℕ) (best best' : Option ℕ) → seen ≡ stamp p w x → mark ≡ suc u → best' ≡ lower (not (eqb seen mark)) x best → Least (Unmet c p w u q) p best → Least (Unmet c p w u q') p best'
unmet_turn {p = p} {x = x} w turn on seen mark best best' s m e h =
    best_turn p x turn.x-low
    (λ y q. (omega (arith, q.0, count-on turn on y), q.1))
    (λ y n q. (omega (arith, q.0, count_other turn on y n), q.1))
    best best' (not (eqb seen mark))
    (λ t. (some-here turn on, λ q. eqb-false seen mark (away (eqb seen mark) t) (s ∙ q ∙ sym m)))
    (λ t q. q.1 (sym s ∙ eqb-true seen mark (here (eqb seen mark) t) ∙ m))
    e h
  where
    away : (b : Bool) → not b ≡ true → b ≡ false
    away true q = sym q
    away false q = refl

    here : (b : Bool) → not b ≡ false → b ≡ true
    here true q = refl
    here false q = sym q

pub unmet-lone : (c : List ℕ) (p : ℕ) (w : List ℕ) (u : ℕ) (r : Option ℕ) → length c % 3 ≡ 0 → StampsMean pv c p w u 0 → Least (Unmet c p w u 0) p r → Least (Wrong Lone (triangles c) u) p r
unmet-lone c p w u r h met l = least-map r on back l
  where
    none : (y : ℕ) → y < p → (stamp p w y ≡ suc u → ⊥) → Dec (sides (triangles c) y u ≡ 0) → sides (triangles c) y u ≡ 0
    none y m n (yes e) = e
    none y m n (no k) = absurd (n (met.known y m (omega (arith, k, hits-zero pv c u y, hits_comes c u y h))))

    on : (y : ℕ) → y < p → Unmet c p w u 0 y → Wrong Lone (triangles c) u y
    on y m q = (omega (arith, q.0, hits-zero nx c u y, hits-runs c u y h), none y m q.1 (ℕ_discrete (sides (triangles c) y u) 0))

    back : (y : ℕ) → y < p → Wrong Lone (triangles c) u y → Unmet c p w u 0 y
    back y m q = (omega (arith, q.0, hits-zero nx c u y, hits-runs c u y h), λ s. omega (arith, q.1, met.found y m s, hits-zero pv c u y, hits_comes c u y h))

-- ---- the smallest side

module _ (c : List ℕ) (p : ℕ) (thirds : length c % 3 ≡ 0) (below : (k : ℕ) → k < length c → at c k < p) where
  side-below : (u v : ℕ) → 0 < sides (triangles c) u v → (u < p) × (v < p)
  side-below u v l =
      let i = hits-place pv c v u (length c) (omega (arith, hits_comes c v u thirds)) in
      let j = hits-place nx c u v (length c) (omega (arith, hits-runs c u v thirds)) in
      (omega (arith, i.2, below (pv i.0) (pv-below (length c) i.0 thirds i.1)), omega (arith, j.2, below (nx j.0) (nx-below (length c) j.0 thirds j.1)))

  wrong_below : (fault : Fault) (u v : ℕ) → Wrong fault (triangles c) u v → (u < p) × (v < p)
  wrong_below Repeated u v q = side-below u v (omega arith)
  wrong_below Lone u v q = side-below u v q.0

  -- at u there is none
  pub none-at : (fault : Fault) (u : ℕ) → Least (Wrong fault (triangles c) u) p None → (v : ℕ) → Wrong fault (triangles c) u v → ⊥
  none-at fault u h v q = h v (wrong_below fault u v q).1 q

  -- at u is the first
  pub first-at : (fault : Fault) (u r : ℕ) → IsLeast (Wrong fault (triangles c) u) p r → ((x : ℕ) → x < u → (y : ℕ) → Wrong fault (triangles c) x y → ⊥) → SmallestPair (Wrong fault (triangles c)) u r
  first-at fault u r h passed = record { holds = h.holds; smallest = smallest }
    where
      smallest : (x y : ℕ) → PairBefore x y u r → Wrong fault (triangles c) x y → ⊥
      smallest x y (inl m) q = passed x m y q
      smallest x y (inr m) q = h.before y m.1 (subst (λ (z : ℕ). Wrong fault (triangles c) z y) m.0 q)

  -- there is none at all
  pub none_below : (fault : Fault) → ((x : ℕ) → x < p → (y : ℕ) → Wrong fault (triangles c) x y → ⊥) → (u v : ℕ) → Wrong fault (triangles c) u v → ⊥
  none_below fault passed u v q = passed u (wrong_below fault u v q).0 v q

-- no such side starts at a corner whose steps are one ring
module _ (c : List ℕ) (thirds : length c % 3 ≡ 0) where
  fine-answered : (u y : ℕ) → Fine c u → 0 < sides (triangles c) u y → 0 < sides (triangles c) y u
  fine-answered u y fine q =
      let l = pl c u 0 (length c) in
      let e = sides_froms (triangles c) u y ∙ ap (froms y) (around-places c u thirds) in
      let f = from_of y l (omega arith) in
      omega (arith, sides_tos c u y thirds, ring_even y l (fine.ring (in_length f.s l f.among)))

  none_wrong : (fault : Fault) (u y : ℕ) → Fine c u → Wrong fault (triangles c) u y → ⊥
  none_wrong Repeated u y fine q = omega (arith, q, sides_froms (triangles c) u y ∙ ap (froms y) (around-places c u thirds), fine.single y)
  none_wrong Lone u y fine q = omega (arith, q.1, fine-answered u y fine q.0)

  pub none_before : (fault : Fault) {p m v : ℕ} → FirstUnringed c p m v → NoneBelow fault (triangles c) v
  none_before fault h x l y q = none_wrong fault x y (h.fine x l) q

-- what the answer says
pub first_found : (P : ℕ → ℕ → Type 0) {r : Option (ℕ × ℕ)} {u v : ℕ} → r ≡ Some (u, v) → IsFirst P r → SmallestPair P u v
unfolding IsFirst
first_found P e h = subst (IsFirst P) e h

pub first-some : {P : ℕ → ℕ → Type 0} {u v : ℕ} → SmallestPair P u v → IsFirst P (Some (u, v))
unfolding IsFirst
first-some h = h

pub first-none : (P : ℕ → ℕ → Type 0) {r : Option (ℕ × ℕ)} → r ≡ None → IsFirst P r → (u v : ℕ) → P u v → ⊥
unfolding IsFirst
first-none P e h = subst (IsFirst P) e h

-- ---- the finding

pub finds_repeated : (c : List ℕ) {u v : ℕ} → SmallestPair (Wrong Repeated (triangles c)) u v → Finds (triangles c) (finds.Repeated u v)
unfolding Finds
finds_repeated c h = h

module _ (c : List ℕ) (single : NoneRepeated (triangles c)) where
  once : (u v : ℕ) → sides (triangles c) u v ≤ 1
  once u v = pick (dec_lt 1 (sides (triangles c) u v))
    where
      pick : Dec (1 < sides (triangles c) u v) → sides (triangles c) u v ≤ 1
      pick (yes q) = absurd (single u v q)
      pick (no n) = omega arith

  wrong_lone : (u v : ℕ) → Wrong Lone (triangles c) u v → IsLone (triangles c) u v
  wrong_lone u v q = (omega (arith, q.0, once u v), q.1)

  lone_wrong : (u v : ℕ) → IsLone (triangles c) u v → Wrong Lone (triangles c) u v
  lone_wrong u v q = (omega (arith, q.0), q.1)

  pub finds-lone : {u v : ℕ} → SmallestPair (Wrong Lone (triangles c)) u v → Finds (triangles c) (finds.Lone u v)
  unfolding Finds
  finds-lone {u} {v} h = (single, record { holds = wrong_lone u v h.holds; smallest = λ x y before q. h.smallest x y before (lone_wrong x y q) })

  pub paired_of : ((u v : ℕ) → Wrong Lone (triangles c) u v → ⊥) → Paired (triangles c)
  paired_of none = none-paired (triangles c) single (λ u v q. none u v (lone_wrong u v q))

module _ (c : List ℕ) (p : ℕ) (thirds : length c % 3 ≡ 0) (paired : Paired (triangles c)) where
  fine-at : (v : ℕ) → (InUse (triangles c) v → Ring (around (triangles c) v)) → Fine c v
  fine-at v ring =
      let e = around-places c v thirds in
      record {
        single = λ x. omega (arith, paired-once (triangles c) paired v x, sides_froms (triangles c) v x ∙ ap (froms x) e);
        ring = λ u. subst Ring e (ring (subst (λ (l : List Step). 0 < length l) (sym e) u));
      }

  not_fine : (v : ℕ) → IsSplit (triangles c) v → Fine c v → ⊥
  not_fine v s fine =
      let e = around-places c v thirds in
      s.1 (subst Ring (sym e) (fine.ring (subst (λ (l : List Step). 0 < length l) e s.0)))

  split_of : (v : ℕ) → (Fine c v → ⊥) → IsSplit (triangles c) v
  split_of v n = (used (dec_lt 0 (length (around (triangles c) v))), λ r. n (fine-at v (λ u. r)))
    where
      used : Dec (0 < length (around (triangles c) v)) → 0 < length (around (triangles c) v)
      used (yes u) = u
      used (no m) = absurd (n (fine-at v (λ u. absurd (m u))))

  pub finds_split : (v : ℕ) → FirstUnringed c p 1 v → Finds (triangles c) (finds.Split v)
  unfolding Finds
  finds_split v h = (paired, record { holds = split_of v (λ f. h.nay f (λ q. q)); smallest = λ x m s. not_fine x s (h.fine x m) })
