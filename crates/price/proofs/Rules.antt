-- The rules of a price sheet: the test decides them, and the turns of the loops that test upper volumes and prices. Assumes nothing.
use Prim.Native.Nat.{ℕ, zero, suc, ◌+◌, ◌-◌, ◌≤◌, ◌<◌}
use mathlib.Core.Path.{◌≡◌, refl, sym, ◌∙◌, subst}
use mathlib.Core.Logic.{◌↔◌}
use mathlib.Core.Bool.{Bool, true, false, ◌&&◌, false≢true}
use mathlib.Core.List.{List, [], ◌∷◌}
use native.Mathlib.Numerals.{add-one}
use native.Mathlib.Omega.{arith}
use lib.Dec.{eqb, leb, ltb}
use lib.ListN.{length, get_or, drop}
use borrow.Author.Tests.{eqb-true, leb-true, ltb-true, eq-eqb, ne_eqb, le-leb, lt-leb, lt-ltb}
use Rattle.std.specs.List.{IsAllAdjacentAnswer}
use Rattle.surface.proofs.Bools.{both, join}
use Rattle.surface.proofs.All.{all-at, at_all, all-on}
use Rattle.price.specs.Tariff.{rises, rising?, capped?, tariff?, Tariff}

-- ---- rising, place by place

rises-at : (v : ℕ) (l : List ℕ) → rises v l ≡ true → (k : ℕ) → suc k < length (v ∷ l) → get_or (v ∷ l) k 0 < get_or (v ∷ l) (suc k) 0
unfolding rises
rises-at v [] e k h = absurd (omega arith)
rises-at v (w ∷ l) e zero h = ltb-true v w (both (ltb v w) (rises w l) e).0
rises-at v (w ∷ l) e (suc k) h = rises-at w l (both (ltb v w) (rises w l) e).1 k (omega arith)

at-rises : (v : ℕ) (l : List ℕ) → ((k : ℕ) → suc k < length (v ∷ l) → get_or (v ∷ l) k 0 < get_or (v ∷ l) (suc k) 0) → rises v l ≡ true
unfolding rises
at-rises v [] h = refl
at-rises v (w ∷ l) h = join (ltb v w) (rises w l) (lt-ltb v w (h 0 (omega arith))) (at-rises w l (λ k i. h (suc k) (omega arith)))

rising-at : (l : List ℕ) → rising? l ≡ true → (k : ℕ) → k + 1 < length l → get_or l k 0 < get_or l (k + 1) 0
unfolding rising?
rising-at [] e k h = absurd (omega arith)
rising-at (v ∷ l) e k h = subst (λ (j : ℕ). get_or (v ∷ l) k 0 < get_or (v ∷ l) j 0) (sym (add-one k)) (rises-at v l e k (omega arith))

at-rising : (l : List ℕ) → ((k : ℕ) → k + 1 < length l → get_or l k 0 < get_or l (k + 1) 0) → rising? l ≡ true
unfolding rising?
at-rising [] h = refl
at-rising (v ∷ l) h = at-rises v l (λ k i. subst (λ (j : ℕ). get_or (v ∷ l) k 0 < get_or (v ∷ l) j 0) (add-one k) (h k (omega arith)))

-- ---- the rules

abbrev cap? : ℕ → Bool
cap? p = leb p 100000

module _ (us ps : List ℕ) where
  abbrev matching : Bool
  matching = eqb (length us + 1) (length ps)

  abbrev few : Bool
  few = leb (length ps) 8

  by_rules : {a b c d : Bool} → matching ≡ a → few ≡ b → rising? us ≡ c → capped? ps ≡ d → tariff? us ps ≡ (a && (b && (c && d)))
  unfolding tariff?
  by_rules p q r s = λ i. p i && (q i && (r i && s i))

  -- by the lengths
  pub no_steps : length ps ≡ 0 → false ≡ tariff? us ps
  no_steps e = sym (by_rules (ne_eqb (length us + 1) (length ps) (λ q. omega arith)) refl refl refl)

  module _ (some : length ps ≡ 0 → ⊥) where
    pub unmatched : (length us ≡ length ps - 1 → ⊥) → false ≡ tariff? us ps
    unmatched n = sym (by_rules (ne_eqb (length us + 1) (length ps) (λ q. n (omega arith))) refl refl refl)

    module _ (e : length us ≡ length ps - 1) where
      fit : matching ≡ true
      fit = eq-eqb (length us + 1) (length ps) (omega arith)

      pub too_many : 8 < length ps → false ≡ tariff? us ps
      too_many l = sym (by_rules fit (lt-leb (length ps) 8 l) refl refl)

      pub asked : length ps ≤ 8 → {c d : Bool} → rising? us ≡ c → capped? ps ≡ d → (c && d) ≡ tariff? us ps
      asked l r d = sym (by_rules fit (le-leb (length ps) 8 l) r d)

  pub record Tested : Type 0 where
    pub matches : length us + 1 ≡ length ps
    pub at-most_eight : length ps ≤ 8
    pub risen : rising? us ≡ true
    pub capped : capped? ps ≡ true

  pub tested : tariff? us ps ≡ true → Tested
  tested e =
      let a = both matching (few && (rising? us && capped? ps)) (sym (by_rules refl refl refl refl) ∙ e) in
      let b = both few (rising? us && capped? ps) a.1 in
      let c = both (rising? us) (capped? ps) b.1 in
      record { matches = eqb-true (length us + 1) (length ps) a.0; at-most_eight = leb-true (length ps) 8 b.0; risen = c.0; capped = c.1 }

  is-tariff : tariff? us ps ≡ true → Tariff us ps
  is-tariff e =
      let t = tested e in
      record {
        some = omega (arith, t.matches);
        few = t.at-most_eight;
        one_fewer = t.matches;
        rising = rising-at us t.risen;
        capped = λ k i. leb-true (get_or ps k 0) 100000 (all-at cap? 0 ps t.capped k i);
      }

  pub tariff_iff : (tariff? us ps ≡ true) ↔ Tariff us ps
  tariff_iff = (
    is-tariff,
    λ h. by_rules (eq-eqb (length us + 1) (length ps) h.one_fewer) (le-leb (length ps) 8 h.few) (at-rising us h.rising)
        (at_all cap? 0 ps (λ k i. le-leb (get_or ps k 0) 100000 (h.capped k i))),
  )

-- ---- what the code asks of neighbours, and of each price

pub rising-all : (us : List ℕ) (r : Bool) → IsAllAdjacentAnswer (λ x y b. b ≡ ltb x y) us r → r ≡ rising? us
rising-all us true h = sym (at-rising us (λ k i. ltb-true _ _ (sym (h k 0 i))))
rising-all us false (k, i, h) = go (rising? us) refl
  where
    go : (b : Bool) → rising? us ≡ b → false ≡ rising? us
    go true e = absurd (false≢true (h 0 ∙ lt-ltb _ _ (rising-at us e k i)))
    go false e = sym e

-- ---- a capped price more

pub capped-on : (ps : List ℕ) (k : ℕ) → k < length ps → get_or ps k 0 ≤ 100000 → capped? (drop k ps) ≡ capped? (drop (k + 1) ps)
capped-on ps k h l = all-on cap? 0 ps k h (le-leb (get_or ps k 0) 100000 l)
