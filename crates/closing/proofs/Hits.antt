-- Places counted: how many places of a corner lead to another is how often a side occurs; and what one place adds.
use Prim.Native.Nat.{ℕ, zero, suc, ◌+◌, ◌%◌, ◌<◌, ◌≤◌}
use native.Mathlib.Omega.{arith}
use native.Mathlib.Nat.{add-zero}
use mathlib.Core.Path.{◌≡◌, refl, sym, ap, ◌∙◌, subst}
use mathlib.Core.Bool.{Bool, true, false, ◌&&◌, cond}
use mathlib.Core.List.{List, [], ◌∷◌}
use lib.Dec.{eqb}
use lib.ListN.{length}
use borrow.Author.Tests.{eqb-true, eqb-false, eq-eqb, ne_eqb}
use Rattle.surface.specs.Triangle.{triangles}
use Rattle.surface.specs.Closed.{Step, keep, one, around, sides}
use Rattle.surface.proofs.Rings as rings
use Rattle.surface.proofs.Steps.{tos_around}
use Rattle.halfedges.specs.Place.{nx, pv, at, st, last, last_if, plus}
use Rattle.halfedges.proofs.Steps.{tally, starts, ends, tos, pl, around-places, sides_froms}
use Rattle.closing.specs.Locating.{hits}

-- ---- what a place adds

plus_one : (a b : Bool) (n : ℕ) → plus (a && b) n ≡ n + cond a (one b) 0
plus_one true true n = omega arith
plus_one true false n = omega arith
plus_one false b n = omega arith

plus_le : (b : Bool) (n : ℕ) → n ≤ plus b n
plus_le true n = omega arith
plus_le false n = omega arith

module _ (g : ℕ → ℕ) (c : List ℕ) (u y : ℕ) where
  pub hits-zero : hits g c u y 0 ≡ 0
  unfolding hits
  hits-zero = refl

  pub hits_yes : (i : ℕ) → at c i ≡ u → at c (g i) ≡ y → hits g c u y (suc i) ≡ suc (hits g c u y i)
  unfolding hits
  hits_yes i p q = rw (eq-eqb (at c i) u p, eq-eqb (at c (g i)) y q)

  pub hits_no : (i : ℕ) → (at c (g i) ≡ y → ⊥) → hits g c u y (suc i) ≡ hits g c u y i
  unfolding hits
  hits_no i n = go (eqb (at c i) u) (ne_eqb (at c (g i)) y n)
    where
      go : (b : Bool) → eqb (at c (g i)) y ≡ false → plus (b && eqb (at c (g i)) y) (hits g c u y i) ≡ hits g c u y i
      go true e = ap (λ (k : Bool). plus k (hits g c u y i)) e
      go false e = refl

  pub hits_le : (i j : ℕ) → i ≤ j → hits g c u y i ≤ hits g c u y j
  unfolding hits
  hits_le i zero l = let z : i ≡ 0 = omega arith in omega (arith, ap (hits g c u y) z)
  hits_le i (suc j) l = go (hits_le i j) (eqb i (suc j)) refl
    where
      go : (i ≤ j → hits g c u y i ≤ hits g c u y j) → (b : Bool) → eqb i (suc j) ≡ b → hits g c u y i ≤ plus (eqb (at c j) u && eqb (at c (g j)) y) (hits g c u y j)
      go ih true e = subst (λ (n : ℕ). hits g c u y i ≤ hits g c u y n) (eqb-true i (suc j) e) (omega arith)
      go ih false e = let n = eqb-false i (suc j) e in omega (arith, ih (omega (arith, n)), plus_le (eqb (at c j) u && eqb (at c (g j)) y) (hits g c u y j))

  -- the places between the last one of u below i and i add nothing
  pub hits-last : (i : ℕ) → hits g c u y (last c u i) ≡ hits g c u y i
  unfolding last hits
  hits-last zero = refl
  hits-last (suc i) = go (hits-last i) (eqb (at c i) u) refl
    where
      go : hits g c u y (last c u i) ≡ hits g c u y i → (b : Bool) → eqb (at c i) u ≡ b → hits g c u y (last_if b i (last c u i)) ≡ plus (eqb (at c i) u && eqb (at c (g i)) y) (hits g c u y i)
      go ih true e = refl
      go ih false e = ih ∙ ap (λ (b : Bool). plus (b && eqb (at c (g i)) y) (hits g c u y i)) (sym e)

  -- what is counted has a place
  pub hits-place : (i : ℕ) → 0 < hits g c u y i → (k : ℕ) × (k < i) × (at c (g k) ≡ y)
  unfolding hits
  hits-place zero h = absurd (omega arith)
  hits-place (suc i) h = go (hits-place i) (eqb (at c i) u) (eqb (at c (g i)) y) refl h
    where
      go : (0 < hits g c u y i → (k : ℕ) × (k < i) × (at c (g k) ≡ y)) → (a b : Bool) → eqb (at c (g i)) y ≡ b → 0 < plus (a && b) (hits g c u y i) → (k : ℕ) × (k < suc i) × (at c (g k) ≡ y)
      go ih true true e h = (i, omega arith, eqb-true (at c (g i)) y e)
      go ih true false e h = let r = ih h in (r.0, omega (arith, r.1), r.2)
      go ih false b e h = let r = ih h in (r.0, omega (arith, r.1), r.2)

-- ---- counted are sides

tally-keep : (f : Step → ℕ) (b : Bool) (s : Step) (l : List Step) → tally f (keep b s l) ≡ cond b (f s) 0 + tally f l
tally-keep f true s l = refl
tally-keep f false s l = omega arith

-- the steps of one place more
tally-more : (f : Step → ℕ) (c : List ℕ) (v o n : ℕ) → tally f (pl c v o (suc n)) ≡ tally f (pl c v o n) + cond (eqb (at c (o + n)) v) (f (st c (o + n))) 0
unfolding pl
tally-more f c v o zero =
    tally-keep f (eqb (at c o) v) (st c o) [] ∙ ap (λ (m : ℕ). cond (eqb (at c m) v) (f (st c m)) 0 + 0) (sym (add-zero o)) ∙ omega arith
tally-more f c v o (suc n) =
    let e = ap (λ (m : ℕ). cond (eqb (at c m) v) (f (st c m)) 0) (omega_eq o n) in
    omega (arith, tally-keep f (eqb (at c o) v) (st c o) (pl c v (suc o) (suc n)), tally-keep f (eqb (at c o) v) (st c o) (pl c v (suc o) n), tally-more f c v (suc o) n, e)
  where
    omega_eq : (o n : ℕ) → suc o + n ≡ o + suc n
    omega_eq o n = omega arith

module _ (g : ℕ → ℕ) (f : ℕ → Step → ℕ) (c : List ℕ) (u y : ℕ) (is : (k : ℕ) → f y (st c k) ≡ one (eqb (at c (g k)) y)) where
  hits-tally : (n : ℕ) → hits g c u y n ≡ tally (f y) (pl c u 0 n)
  unfolding hits
  hits-tally zero = unfold pl in refl
  hits-tally (suc n) =
      plus_one (eqb (at c n) u) (eqb (at c (g n)) y) (hits g c u y n)
      ∙ ap (λ (m : ℕ). hits g c u y n + cond (eqb (at c n) u) m 0) (sym (is n))
      ∙ ap (λ (m : ℕ). m + cond (eqb (at c n) u) (f y (st c n)) 0) (hits-tally n)
      ∙ ap (λ (m : ℕ). tally (f y) (pl c u 0 n) + cond (eqb (at c m) u) (f y (st c m)) 0) (zero-add n)
      ∙ sym (tally-more (f y) c u 0 n)
    where
      zero-add : (n : ℕ) → n ≡ 0 + n
      zero-add n = omega arith

pub hits-runs : (c : List ℕ) (u y : ℕ) → length c % 3 ≡ 0 → hits nx c u y (length c) ≡ sides (triangles c) u y
hits-runs c u y h = hits-tally nx starts c u y (λ k. refl) (length c) ∙ ap (tally (starts y)) (sym (around-places c u h)) ∙ sym (sides_froms (triangles c) u y)

same_tos : (l : List Step) (z : ℕ) → tos z l ≡ rings.tos l z
unfolding rings.tos rings.is
same_tos [] z = refl
same_tos (s ∷ l) z = ap (λ (n : ℕ). one (eqb s.to z) + n) (same_tos l z)

pub sides_tos : (c : List ℕ) (u y : ℕ) → length c % 3 ≡ 0 → sides (triangles c) y u ≡ tos y (pl c u 0 (length c))
sides_tos c u y h = sym (tos_around (triangles c) u y) ∙ sym (same_tos (around (triangles c) u) y) ∙ ap (tos y) (around-places c u h)

pub hits_comes : (c : List ℕ) (u y : ℕ) → length c % 3 ≡ 0 → hits pv c u y (length c) ≡ sides (triangles c) y u
hits_comes c u y h = hits-tally pv ends c u y (λ k. refl) (length c) ∙ sym (sides_tos c u y h)
