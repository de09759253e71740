-- Chains of places: where a chain leads next, and what a walk along one makes of a state, step by step.
use Prim.Native.Nat.{ℕ, zero, suc, ◌+◌, ◌-◌, ◌<◌, ◌≤◌}
use native.Mathlib.Omega.{arith}
use mathlib.Core.Path.{◌≡◌, refl, sym, ap, ◌∙◌, subst}
use mathlib.Core.Logic.{◌⊎◌, inl, inr}
use mathlib.Core.Bool.{Bool, true, false}
use mathlib.Core.List.{List}
use lib.Dec.{eqb}
use lib.ListN.{length}
use borrow.Author.Tests.{eqb-true, eqb-false, eq-eqb, ne_eqb}
use Rattle.halfedges.specs.Place.{at}
use Rattle.halfedges.proofs.Turns.{same_or}
use Rattle.halfedges.proofs.Fine.{apart-cases}
use Rattle.chains.specs.Chain.{first_if, from, step_if, walk}

-- the place that a walk comes to next, of n places: q is one more than it, or 0 at the end
abbrev pub spot : ℕ → ℕ → ℕ
spot n zero = n
spot n (suc k) = k

-- ---- laws of the chains

pub record Next (c : List ℕ) (v i e q : ℕ) : Type 0 where
  pub past : i ≤ spot e q
  pub low : spot e q ≤ e
  pub names : (k : ℕ) → q ≡ suc k → (at c k ≡ v) × (k < e)
  pub none : (k : ℕ) → i ≤ k → k < spot e q → at c k ≡ v → ⊥

pub from_next : (c : List ℕ) (v i d e : ℕ) → i + d ≡ e → Next c v i e (from c v i d)
unfolding from
from_next c v i zero e s = record { past = omega arith; low = omega arith; names = λ k q. absurd (omega arith); none = λ k l m n. omega arith }
from_next c v i (suc d) e s = go (eqb (at c i) v) refl (from_next c v (suc i) d e (omega arith))
  where
    go : (b : Bool) → eqb (at c i) v ≡ b → Next c v (suc i) e (from c v (suc i) d) → Next c v i e (first_if b i (from c v (suc i) d))
    go true t ih = record {
      past = omega arith;
      low = omega arith;
      names = λ k q. let z : i ≡ k = omega arith in (ap (at c) (sym z) ∙ eqb-true (at c i) v t, omega arith);
      none = λ k l m n. omega arith;
    }
    go false t ih = record {
      past = let h = ih.past in omega arith;
      low = ih.low;
      names = ih.names;
      none = λ k l m n. split k l m n (eqb k i) refl;
    }
      where
        split : (k : ℕ) → i ≤ k → k < spot e (from c v (suc i) d) → at c k ≡ v → (b : Bool) → eqb k i ≡ b → ⊥
        split k l m n true z = eqb-false (at c i) v t (ap (at c) (sym (eqb-true k i z)) ∙ n)
        split k l m n false z = let ne = eqb-false k i z in ih.none k (omega (arith, ne)) m n

pub from-here : (c : List ℕ) (v i d : ℕ) → at c i ≡ v → from c v i (suc d) ≡ suc i
unfolding from
from-here c v i d e = ap (λ (b : Bool). first_if b i (from c v (suc i) d)) (eq-eqb (at c i) v e)

pub from_on : (c : List ℕ) (v i d : ℕ) → (at c i ≡ v → ⊥) → from c v i (suc d) ≡ from c v (suc i) d
unfolding from
from_on c v i d e = ap (λ (b : Bool). first_if b i (from c v (suc i) d)) (ne_eqb (at c i) v e)

pub from-none : (c : List ℕ) (v i : ℕ) → from c v i 0 ≡ 0
unfolding from
from-none c v i = refl

-- ---- laws of the walks

module _ {S : Type 0} (f : ℕ → S → S) (c : List ℕ) (v : ℕ) (s : S) where
  pub walk_none : walk f c v 0 s ≡ s
  unfolding walk
  walk_none = refl

  pub walk_here : (i : ℕ) → at c i ≡ v → walk f c v (suc i) s ≡ f i (walk f c v i s)
  unfolding walk
  walk_here i e = ap (λ (b : Bool). step_if b (f i) (walk f c v i s)) (eq-eqb (at c i) v e)

  pub walk-on : (i : ℕ) → (at c i ≡ v → ⊥) → walk f c v (suc i) s ≡ walk f c v i s
  unfolding walk
  walk-on i e = ap (λ (b : Bool). step_if b (f i) (walk f c v i s)) (ne_eqb (at c i) v e)

  -- nothing happens where v has no place
  pub walk_skip : (i d : ℕ) → ((k : ℕ) → i ≤ k → k < i + d → at c k ≡ v → ⊥) → walk f c v (i + d) s ≡ walk f c v i s
  walk_skip i zero h = let z : i + 0 ≡ i = omega arith in ap (λ (n : ℕ). walk f c v n s) z
  walk_skip i (suc d) h =
      let z : i + suc d ≡ suc (i + d) = omega arith in
      ap (λ (n : ℕ). walk f c v n s) z ∙ walk-on (i + d) (h (i + d) (omega arith) (omega arith)) ∙ walk_skip i d (λ k l m. h k l (omega arith))

  pub walk_reach : (i j : ℕ) → i ≤ j → ((k : ℕ) → i ≤ k → k < j → at c k ≡ v → ⊥) → walk f c v j s ≡ walk f c v i s
  walk_reach i j l h =
      let z : i + (j - i) ≡ j = omega arith in
      ap (λ (n : ℕ). walk f c v n s) (sym z) ∙ walk_skip i (j - i) (λ k m n. h k m (omega arith))

-- What a loop along a chain keeps: q is where the walk comes to next. With the state it is the walk up to there.
pub record Onward (c : List ℕ) (v q : ℕ) : Type 0 where
  pub low : spot (length c) q ≤ length c
  pub names : (k : ℕ) → q ≡ suc k → (at c k ≡ v) × (k < length c)

module _ {S : Type 0} (f : ℕ → S → S) (c : List ℕ) (v : ℕ) (s : S) where
  pub onward-start : (q : ℕ) → q ≡ from c v 0 (length c) → Onward c v q × (walk f c v (spot (length c) q) s ≡ s)
  onward-start q e =
      let n = from_next c v 0 (length c) (length c) (omega arith) in
      let m : Next c v 0 (length c) q = rw e n in
      (record { low = m.low; names = m.names }, walk_reach f c v s 0 (spot (length c) q) (omega arith) m.none ∙ walk_none f c v s)

  pub onward-next : (q r k : ℕ) → q ≡ suc k → Onward c v q → r ≡ from c v (suc k) (length c - suc k) → Onward c v r × (walk f c v (spot (length c) r) s ≡ f k (walk f c v k s))
  onward-next q r k e o h =
      let a = o.names k e in
      let l = a.1 in
      let n = from_next c v (suc k) (length c - suc k) (length c) (omega arith) in
      let m : Next c v (suc k) (length c) r = rw h n in
      (record { low = m.low; names = m.names }, walk_reach f c v s (suc k) (spot (length c) r) m.past m.none ∙ walk_here f c v s k a.0)

-- the walk comes nearer to the end
pub onward-less : (c : List ℕ) (v q r k : ℕ) → q ≡ suc k → Onward c v q → r ≡ from c v (suc k) (length c - suc k) → length c - spot (length c) r < length c - spot (length c) q
onward-less c v q r k e o h =
    let l = (o.names k e).1 in
    let n = from_next c v (suc k) (length c - suc k) (length c) (omega arith) in
    let m : Next c v (suc k) (length c) r = rw h n in
    let p = m.past in
    let z : spot (length c) q ≡ k = ap (spot (length c)) e in
    omega arith

-- what a property of states does along a walk
pub walk-keeps : {S : Type 0} (P : S → Type 0) (f : ℕ → S → S) (c : List ℕ) (v i : ℕ) (s : S) → ((k : ℕ) (t : S) → k < i → at c k ≡ v → P t → P (f k t)) → P s → P (walk f c v i s)
unfolding walk
walk-keeps P f c v zero s h p = p
walk-keeps P f c v (suc i) s h p = go (eqb (at c i) v) refl (walk-keeps P f c v i s (λ k t l. h k t (omega arith)) p)
  where
    go : (b : Bool) → eqb (at c i) v ≡ b → P (walk f c v i s) → P (step_if b (f i) (walk f c v i s))
    go true e q = h i (walk f c v i s) (omega arith) (eqb-true (at c i) v e) q
    go false e q = q

-- what holds of each place of v below i, one place further
abbrev pub Upto : (ℕ → Type 0) → List ℕ → ℕ → ℕ → Type 0
Upto P c v i = (k : ℕ) → k < i → at c k ≡ v → P k

module _ (P : ℕ → Type 0) (c : List ℕ) (v : ℕ) where
  pub upto_start : (q : ℕ) → q ≡ from c v 0 (length c) → Upto P c v (spot (length c) q)
  upto_start q e k l n =
      let m : Next c v 0 (length c) q = rw e (from_next c v 0 (length c) (length c) (omega arith)) in
      absurd (m.none k (omega arith) l n)

  pub upto_next : (q r k : ℕ) → q ≡ suc k → Onward c v q → r ≡ from c v (suc k) (length c - suc k) → Upto P c v k → P k → Upto P c v (spot (length c) r)
  upto_next q r k e o h u p j l n = go (same_or j k)
    where
      m : Next c v (suc k) (length c) r
      m = let a = (o.names k e).1 in rw h (from_next c v (suc k) (length c - suc k) (length c) (omega arith))

      go : (j ≡ k) ⊎ (j ≡ k → ⊥) → P j
      go (inl z) = subst P (sym z) p
      go (inr z) = later (apart-cases j k z)
        where
          later : (j < k) ⊎ (k < j) → P j
          later (inl i) = u j i n
          later (inr i) = absurd (m.none j i l n)
