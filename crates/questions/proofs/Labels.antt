-- The labels of a corner by the places of the corner list: the place k belongs to the triangle k / 3, and has that triangle's label.
use Prim.Native.Nat.{ℕ, zero, suc, ◌+◌, ◌/◌, ◌%◌, ◌<◌}
use native.Mathlib.Omega.{arith}
use mathlib.Core.Path.{◌≡◌, refl, sym, ap, ◌∙◌, subst}
use mathlib.Core.Logic.{◌⊎◌, inl, inr}
use mathlib.Core.Bool.{Bool, true, false, ◌&&◌, ◌||◌, not, false≢true}
use mathlib.Core.List.{List, [], ◌∷◌}
use lib.Dec.{eqb}
use lib.ListN.{length}
use borrow.Author.Tests.{eqb-true, eq-eqb}
use Rattle.surface.specs.Triangle.{tri, triangles, names}
use Rattle.surface.proofs.Bools.{join, not_true, true_false, or_cases}
use Rattle.surface.proofs.Bools as bools
use Rattle.halfedges.specs.Place.{at}
use Rattle.questions.specs.Questions.{unopposed?}
use Rattle.surface.specs.Label.{carries}
use Rattle.questions.specs.Labels.{opposed}
use Rattle.questions.specs.Stages.{opp}
use Rattle.surface.proofs.All.{all-at, at_all}

-- the place j, below n, names v and has the label l
pub record Labelled (c ls : List ℕ) (n v l : ℕ) : Type 0 where
  pub j : ℕ
  pub low : j < n
  pub names : at c j ≡ v
  pub has : at ls (j / 3) ≡ l

or_split : (p q : Bool) → (p || q) ≡ true → (p ≡ true) ⊎ (q ≡ true)
or_split true q e = inl refl
or_split false q e = inr e

or_left : (p q : Bool) → p ≡ true → (p || q) ≡ true
or_left p q e = rw e

or_right : (p q : Bool) → q ≡ true → (p || q) ≡ true
or_right true q e = refl
or_right false q e = e

pub carries-place : (c ls : List ℕ) (v l : ℕ) → carries (triangles c) ls v l ≡ true → Labelled c ls (length c) v l
unfolding carries triangles
carries-place [] ls v l e = absurd (false≢true e)
carries-place (x ∷ []) ls v l e = absurd (false≢true e)
carries-place (x ∷ y ∷ []) ls v l e = absurd (false≢true e)
carries-place (x ∷ y ∷ z ∷ c) [] v l e = absurd (false≢true e)
carries-place (x ∷ y ∷ z ∷ c) (m ∷ ls) v l e = go (carries-place c ls v l) (or_split (names (tri x y z) v && eqb m l) (carries (triangles c) ls v l) e)
  where
    first : (eqb x v ≡ true) ⊎ ((eqb y v ≡ true) ⊎ (eqb z v ≡ true)) → m ≡ l → Labelled (x ∷ y ∷ z ∷ c) (m ∷ ls) (length (x ∷ y ∷ z ∷ c)) v l
    first (inl p) k = record { j = 0; low = omega arith; names = eqb-true x v p; has = k }
    first (inr (inl p)) k = record { j = 1; low = omega arith; names = eqb-true y v p; has = k }
    first (inr (inr p)) k = record { j = 2; low = omega arith; names = eqb-true z v p; has = k }

    go : (carries (triangles c) ls v l ≡ true → Labelled c ls (length c) v l) → ((names (tri x y z) v && eqb m l) ≡ true) ⊎ (carries (triangles c) ls v l ≡ true) → Labelled (x ∷ y ∷ z ∷ c) (m ∷ ls) (length (x ∷ y ∷ z ∷ c)) v l
    go ih (inl p) = let k = bools.both (names (tri x y z) v) (eqb m l) p in first (or_cases (eqb x v) (eqb y v) (eqb z v) k.0) (eqb-true m l k.1)
    go ih (inr p) =
        let r = ih p in
        let third : suc (suc (suc r.j)) / 3 ≡ suc (r.j / 3) = omega arith in
        record { j = suc (suc (suc r.j)); low = omega (arith, r.low); names = r.names; has = ap (at (m ∷ ls)) third ∙ r.has }

pub place-carries : (c ls : List ℕ) (v l : ℕ) → length c % 3 ≡ 0 → length ls ≡ length c / 3 → Labelled c ls (length c) v l → carries (triangles c) ls v l ≡ true
unfolding carries triangles
place-carries [] ls v l h k r = absurd (omega (arith, r.low))
place-carries (x ∷ []) ls v l h k r = absurd (omega arith)
place-carries (x ∷ y ∷ []) ls v l h k r = absurd (omega arith)
place-carries (x ∷ y ∷ z ∷ c) [] v l h k r = absurd (omega arith)
place-carries (x ∷ y ∷ z ∷ c) (m ∷ ls) v l h k r = go (place-carries c ls v l (omega arith) (omega arith)) r.j r.low r.names r.has
  where
    here : names (tri x y z) v ≡ true → m ≡ l → ((names (tri x y z) v && eqb m l) || carries (triangles c) ls v l) ≡ true
    here p q = or_left _ _ (join _ _ p (eq-eqb m l q))

    go : (Labelled c ls (length c) v l → carries (triangles c) ls v l ≡ true) → (j : ℕ) → j < length (x ∷ y ∷ z ∷ c) → at (x ∷ y ∷ z ∷ c) j ≡ v → at (m ∷ ls) (j / 3) ≡ l → ((names (tri x y z) v && eqb m l) || carries (triangles c) ls v l) ≡ true
    go ih zero low n e = here (or_left _ _ (eq-eqb x v n)) e
    go ih (suc zero) low n e = here (or_right (eqb x v) _ (or_left _ _ (eq-eqb y v n))) e
    go ih (suc (suc zero)) low n e = here (or_right (eqb x v) _ (or_right (eqb y v) _ (eq-eqb z v n))) e
    go ih (suc (suc (suc j))) low n e =
        let third : suc (suc (suc j)) / 3 ≡ suc (j / 3) = omega arith in
        or_right (names (tri x y z) v && eqb m l) (carries (triangles c) ls v l) (ih (record { j = j; low = omega arith; names = n; has = sym (ap (at (m ∷ ls)) third) ∙ e }))

-- ---- opposed labels

abbrev four : (ℕ → Bool) → Bool
four f = (f 0 && f 1) || ((f 2 && f 3) || ((f 4 && f 5) || (f 6 && f 7)))

pair-four : (f : ℕ → Bool) (l : ℕ) → l < 8 → f l ≡ true → f (opp l) ≡ true → four f ≡ true
pair-four f zero h p q = or_left _ _ (join _ _ p q)
pair-four f (suc zero) h p q = or_left _ _ (join _ _ q p)
pair-four f (suc (suc zero)) h p q = or_right (f 0 && f 1) _ (or_left _ _ (join _ _ p q))
pair-four f (suc (suc (suc zero))) h p q = or_right (f 0 && f 1) _ (or_left _ _ (join _ _ q p))
pair-four f (suc (suc (suc (suc zero)))) h p q = or_right (f 0 && f 1) _ (or_right (f 2 && f 3) _ (or_left _ _ (join _ _ p q)))
pair-four f (suc (suc (suc (suc (suc zero))))) h p q = or_right (f 0 && f 1) _ (or_right (f 2 && f 3) _ (or_left _ _ (join _ _ q p)))
pair-four f (suc (suc (suc (suc (suc (suc zero)))))) h p q = or_right (f 0 && f 1) _ (or_right (f 2 && f 3) _ (or_right (f 4 && f 5) _ (join _ _ p q)))
pair-four f (suc (suc (suc (suc (suc (suc (suc zero))))))) h p q = or_right (f 0 && f 1) _ (or_right (f 2 && f 3) _ (or_right (f 4 && f 5) _ (join _ _ q p)))
pair-four f (suc (suc (suc (suc (suc (suc (suc (suc l)))))))) h p q = absurd (omega arith)

record Pair (f : ℕ → Bool) : Type 0 where
  l : ℕ
  one : f l ≡ true
  other : f (opp l) ≡ true

pair_of : (f : ℕ → Bool) (l : ℕ) → l % 2 ≡ 0 → (f l && f (l + 1)) ≡ true → Pair f
pair_of f l h e = let k = bools.both (f l) (f (l + 1)) e in let z : l + 1 ≡ opp l = omega arith in record { l = l; one = k.0; other = ap f (sym z) ∙ k.1 }

four-pair : (f : ℕ → Bool) → four f ≡ true → Pair f
four-pair f e = go (or_split (f 0 && f 1) _ e)
  where
    third : ((f 4 && f 5) ≡ true) ⊎ ((f 6 && f 7) ≡ true) → Pair f
    third (inl p) = pair_of f 4 refl p
    third (inr p) = pair_of f 6 refl p

    second : ((f 2 && f 3) ≡ true) ⊎ (((f 4 && f 5) || (f 6 && f 7)) ≡ true) → Pair f
    second (inl p) = pair_of f 2 refl p
    second (inr p) = third (or_split (f 4 && f 5) _ p)

    go : ((f 0 && f 1) ≡ true) ⊎ (((f 2 && f 3) || ((f 4 && f 5) || (f 6 && f 7))) ≡ true) → Pair f
    go (inl p) = pair_of f 0 refl p
    go (inr p) = second (or_split (f 2 && f 3) _ p)

-- two places below n that name one corner, with opposed labels
pub record Clash (c ls : List ℕ) (n : ℕ) : Type 0 where
  pub i : ℕ
  pub j : ℕ
  pub low_i : i < n
  pub low_j : j < n
  pub same : at c i ≡ at c j
  pub against : at ls (j / 3) ≡ opp (at ls (i / 3))

module _ (c ls : List ℕ) where
  pub opposed_clash : (v : ℕ) → opposed (triangles c) ls v ≡ true → Clash c ls (length c)
  opposed_clash v e =
      let p = four-pair (carries (triangles c) ls v) e in
      let a = carries-place c ls v p.l p.one in
      let b = carries-place c ls v (opp p.l) p.other in
      record { i = a.j; j = b.j; low_i = a.low; low_j = b.low; same = a.names ∙ sym b.names; against = b.has ∙ ap opp (sym a.has) }

  module _ (thirds : length c % 3 ≡ 0) (many : length ls ≡ length c / 3) where
    pub clash_opposed : (k : Clash c ls (length c)) → at ls (k.i / 3) < 8 → opposed (triangles c) ls (at c k.i) ≡ true
    clash_opposed k l =
        pair-four (carries (triangles c) ls (at c k.i)) (at ls (k.i / 3)) l
        (place-carries c ls (at c k.i) (at ls (k.i / 3)) thirds many (record { j = k.i; low = k.low_i; names = refl; has = refl }))
        (place-carries c ls (at c k.i) (opp (at ls (k.i / 3))) thirds many (record { j = k.j; low = k.low_j; names = sym k.same; has = k.against }))

    -- question 11
    pub some-opposed : (k : Clash c ls (length c)) → at ls (k.i / 3) < 8 → unopposed? c ls ≡ false
    some-opposed k l = go (unopposed? c ls) refl
      where
        go : (b : Bool) → unopposed? c ls ≡ b → b ≡ false
        go true e = absurd (true_false (clash_opposed k l) (not_true _ (all-at (λ (v : ℕ). not (opposed (triangles c) ls v)) 0 c e k.i k.low_i)))
        go false e = refl

  pub none-opposed : (Clash c ls (length c) → ⊥) → unopposed? c ls ≡ true
  none-opposed n = at_all (λ (v : ℕ). not (opposed (triangles c) ls v)) 0 c (λ i l. go (at c i) (opposed (triangles c) ls (at c i)) refl)
    where
      go : (v : ℕ) (b : Bool) → opposed (triangles c) ls v ≡ b → not b ≡ true
      go v true e = absurd (n (opposed_clash v e))
      go v false e = refl

  -- question 11 of the corners in use, and of every corner
  pub unopposed-every : unopposed? c ls ≡ true → (v : ℕ) → opposed (triangles c) ls v ≡ false
  unopposed-every e v = go (opposed (triangles c) ls v) refl
    where
      go : (b : Bool) → opposed (triangles c) ls v ≡ b → b ≡ false
      go true q =
          let p = four-pair (carries (triangles c) ls v) q in
          let r = carries-place c ls v p.l p.one in
          let n : not (opposed (triangles c) ls v) ≡ true = subst (λ (u : ℕ). not (opposed (triangles c) ls u) ≡ true) r.names (all-at (λ (u : ℕ). not (opposed (triangles c) ls u)) 0 c e r.j r.low) in
          absurd (true_false q (not_true _ n))
      go false q = refl

  pub every-unopposed : ((v : ℕ) → opposed (triangles c) ls v ≡ false) → unopposed? c ls ≡ true
  every-unopposed h = at_all (λ (v : ℕ). not (opposed (triangles c) ls v)) 0 c (λ i l. ap not (h (at c i)))
