-- The chains of the places of a corner, and what the marks make of a walk.
use Prim.Native.Nat.{ℕ, zero, suc, ◌<◌, ◌≤◌}
use native.Mathlib.Omega.{arith}
use mathlib.Core.Path.{◌≡◌, refl, sym, ap, ◌∙◌, subst}
use mathlib.Core.Bool.{Bool, true, false, cond}
use mathlib.Core.List.{List}
use Rattle.std.specs.Prelude.{Option, None, Some}
use Rattle.std.proofs.lemmas.Option.{none-some, same_Some}
use lib.Dec.{eqb}
use lib.ListN.{length}
use borrow.Author.Tests.{eqb-true, eqb-false, eq-eqb, ne_eqb}
use Rattle.halfedges.specs.Place.{nx, pv, at, last, last_if, uses, plus, Sized, stamp, note, Noted, Inside, follower, hop_to, landed, trip}
use Rattle.halfedges.proofs.Steps.{pl, length_pl}
use Rattle.halfedges.proofs.Rings.{Hops, round_of, trip_of}
use Rattle.halfedges.proofs.Fine.{Fine, pv-below, fine-unused}

no : {A : Type 0} → false ≡ true → A
no e = let z : ◌≡◌ {A = ℕ} 0 1 = cc in absurd (omega arith)

pub last_le : (c : List ℕ) (v i : ℕ) → last c v i ≤ i
unfolding last
last_le c v zero = omega arith
last_le c v (suc i) = go (last_le c v i) (eqb (at c i) v)
  where
    go : last c v i ≤ i → (b : Bool) → last_if b i (last c v i) ≤ suc i
    go h true = omega arith
    go h false = omega arith

pub last-names : (c : List ℕ) (v i k : ℕ) → last c v i ≡ suc k → at c k ≡ v
unfolding last
last-names c v zero k h = absurd (omega arith)
last-names c v (suc i) k h = go (last-names c v i k) (eqb (at c i) v) refl h
  where
    go : (last c v i ≡ suc k → at c k ≡ v) → (b : Bool) → eqb (at c i) v ≡ b → last_if b i (last c v i) ≡ suc k → at c k ≡ v
    go ih true e q = let z : i ≡ k = omega arith in ap (at c) (sym z) ∙ eqb-true (at c i) v e
    go ih false e q = ih q

pub last_skip : (c : List ℕ) (v i k : ℕ) → last c v i ≤ k → k < i → at c k ≡ v → ⊥
unfolding last
last_skip c v zero k h l e = omega arith
last_skip c v (suc i) k h l e = go (last_skip c v i k) (eqb (at c i) v) refl h
  where
    go : (last c v i ≤ k → k < i → at c k ≡ v → ⊥) → (b : Bool) → eqb (at c i) v ≡ b → last_if b i (last c v i) ≤ k → ⊥
    go ih true q m = omega arith
    go ih false q m =
        at_top (eqb k i) refl
      where
        at_top : (b : Bool) → eqb k i ≡ b → ⊥
        at_top true z = eqb-false (at c i) v q (ap (at c) (sym (eqb-true k i z)) ∙ e)
        at_top false z = let ne = eqb-false k i z in ih m (omega (arith, ne)) e

pub uses-last : (c : List ℕ) (v i : ℕ) → uses c v (last c v i) ≡ uses c v i
unfolding last uses
uses-last c v zero = refl
uses-last c v (suc i) = go (uses-last c v i) (eqb (at c i) v) refl
  where
    go : uses c v (last c v i) ≡ uses c v i → (b : Bool) → eqb (at c i) v ≡ b → uses c v (last_if b i (last c v i)) ≡ plus (eqb (at c i) v) (uses c v i)
    go ih true e = refl
    go ih false e = ih ∙ ap (λ (b : Bool). plus b (uses c v i)) (sym e)

pub uses-suc : (c : List ℕ) (v i : ℕ) → at c i ≡ v → uses c v (suc i) ≡ suc (uses c v i)
unfolding uses
uses-suc c v i e = ap (λ (b : Bool). plus b (uses c v i)) (eq-eqb (at c i) v e)

pub uses-zero : (c : List ℕ) (v : ℕ) → uses c v 0 ≡ 0
unfolding uses
uses-zero c v = refl

-- the links of one place more
pub last-same : (c : List ℕ) (v i : ℕ) → at c i ≡ v → last c v (suc i) ≡ suc i
unfolding last
last-same c v i e = ap (λ (b : Bool). last_if b i (last c v i)) (eq-eqb (at c i) v e)

pub last_other : (c : List ℕ) (v i : ℕ) → (at c i ≡ v → ⊥) → last c v (suc i) ≡ last c v i
unfolding last
last_other c v i e = ap (λ (b : Bool). last_if b i (last c v i)) (ne_eqb (at c i) v e)

pub last-zero : (c : List ℕ) (v : ℕ) → last c v 0 ≡ 0
unfolding last
last-zero c v = refl

-- the hops by the notes of v
hop_own : (p v : ℕ) (w : List ℕ) (x y : ℕ) → hop_to p v w x ≡ Some y → (stamp p w x ≡ suc v) × (note p w x ≡ y)
hop_own p v w x y h = go (eqb (stamp p w x) (suc v)) refl h
  where
    go : (b : Bool) → eqb (stamp p w x) (suc v) ≡ b → follower b (note p w x) ≡ Some y → (stamp p w x ≡ suc v) × (note p w x ≡ y)
    go true e q = (eqb-true (stamp p w x) (suc v) e, same_Some (note p w x) y q)
    go false e q = absurd (none-some y q)

pub hop_yes : (p v : ℕ) (w : List ℕ) (x : ℕ) → stamp p w x ≡ suc v → hop_to p v w x ≡ Some (note p w x)
hop_yes p v w x e = ap (λ (b : Bool). follower b (note p w x)) (eq-eqb (stamp p w x) (suc v) e)

pub hop_no : (p v : ℕ) (w : List ℕ) (x : ℕ) → (stamp p w x ≡ suc v → ⊥) → hop_to p v w x ≡ None
hop_no p v w x e = ap (λ (b : Bool). follower b (note p w x)) (ne_eqb (stamp p w x) (suc v) e)

pub hop_below : (p v : ℕ) (w : List ℕ) (x y : ℕ) → Inside p v w → x < p → hop_to p v w x ≡ Some y → y < p
hop_below p v w x y inside l q = let o = hop_own p v w x y q in omega (arith, o.1, inside.stays x l o.0)

module _ (c : List ℕ) (p : ℕ) (w : List ℕ) (v : ℕ) (sized : Sized c p w) (noted : Noted c p w v 0) where
  pub inside_of : Inside p v w
  inside_of = record {
    points = sized.points;
    room = omega (arith, sized.room);
    stays = λ x l e. let u = noted.found x l e in omega (arith, u.lands, sized.below (pv u.k) (pv-below (length c) u.k sized.thirds u.low));
  }

  pub hops_of : Hops c p v (hop_to p v w)
  hops_of = record {
    lands = λ x y l q.
        let o = hop_own p v w x y q in
        let u = noted.found x l o.0 in
        record { k = u.k; past = u.past; low = u.low; names = u.names; leaves = u.leaves; lands = u.lands ∙ o.1 };
    within = λ x y l q. hop_below p v w x y inside_of l q;
    finds = λ k l e. hop_yes p v w (at c (nx k)) (noted.known k (omega arith) l e) ∙ ap Some (noted.noted k (omega arith) l e);
  }

  pub fine_walked : (x₀ n : ℕ) → x₀ < p → n ≡ uses c v (length c) → trip (hop_to p v w) x₀ n x₀ ≡ true → Fine c v
  fine_walked x₀ n l size t =
      let same : n ≡ length (pl c v 0 (length c)) = size ∙ sym (length_pl c v (length c)) in
      let r = round_of c p v (hop_to p v w) x₀ hops_of l (subst (λ (m : ℕ). trip (hop_to p v w) x₀ m x₀ ≡ true) same t) in
      record { single = r.single; ring = λ u. r.ring }

  pub walked_fine : (k₀ x₀ n : ℕ) → k₀ < length c → at c k₀ ≡ v → at c (nx k₀) ≡ x₀ → n ≡ uses c v (length c) → 0 < n → Fine c v → trip (hop_to p v w) x₀ n x₀ ≡ true
  walked_fine k₀ x₀ n l e x-is size pos fine =
      let same : n ≡ length (pl c v 0 (length c)) = size ∙ sym (length_pl c v (length c)) in
      subst (λ (m : ℕ). trip (hop_to p v w) x₀ m x₀ ≡ true) (sym same)
      (trip_of c p v (hop_to p v w) x₀ hops_of k₀ l e x-is (fine.ring (subst (λ (m : ℕ). 0 < m) same pos)) fine.single)

pub fine-empty : (c : List ℕ) (v : ℕ) → last c v (length c) ≡ 0 → Fine c v
fine-empty c v e = fine-unused c v (length_pl c v (length c) ∙ sym (uses-last c v (length c)) ∙ ap (uses c v) e ∙ uses-zero c v)

-- the turns of a walk
pub trip-none : (h : ℕ → Option ℕ) (x₀ n x : ℕ) → n ≡ 0 → trip h x₀ n x ≡ false
unfolding trip
trip-none h x₀ n x e = ap (λ (m : ℕ). trip h x₀ m x) e

pub trip_stop : (h : ℕ → Option ℕ) (x₀ n x : ℕ) → h x ≡ None → trip h x₀ n x ≡ false
unfolding trip
trip_stop h x₀ zero x e = refl
trip_stop h x₀ (suc n) x e = ap (landed (trip h x₀ n) x₀ n) e

pub trip_home : (h : ℕ → Option ℕ) (x₀ n f x y : ℕ) → n ≡ suc f → h x ≡ Some y → y ≡ x₀ → trip h x₀ n x ≡ eqb f 0
unfolding trip
trip_home h x₀ n f x y e q z =
    ap (λ (m : ℕ). trip h x₀ m x) e ∙ ap (landed (trip h x₀ f) x₀ f) q ∙ ap (λ (b : Bool). cond b (eqb f 0) (trip h x₀ f y)) (eq-eqb y x₀ z)

pub trip-on : (h : ℕ → Option ℕ) (x₀ n f x y : ℕ) → n ≡ suc f → h x ≡ Some y → (y ≡ x₀ → ⊥) → trip h x₀ n x ≡ trip h x₀ f y
unfolding trip
trip-on h x₀ n f x y e q z =
    ap (λ (m : ℕ). trip h x₀ m x) e ∙ ap (landed (trip h x₀ f) x₀ f) q ∙ ap (λ (b : Bool). cond b (eqb f 0) (trip h x₀ f y)) (ne_eqb y x₀ z)
