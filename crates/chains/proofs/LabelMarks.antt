-- The labels that a corner carries, by its places, and the turns of the loop that marks them.
use Prim.Native.Nat.{ℕ, zero, suc, ◌+◌, ◌*◌, ◌/◌, ◌%◌, ◌<◌, ◌≤◌}
use native.Mathlib.Omega.{arith}
use mathlib.Core.Path.{◌≡◌, refl, sym, ap, ◌∙◌, subst}
use mathlib.Core.Logic.{◌⊎◌, inl, inr}
use mathlib.Core.Bool.{Bool, true, false, ◌&&◌, ◌||◌, false≢true}
use mathlib.Core.List.{List, [], ◌∷◌}
use lib.Dec.{eqb}
use lib.ListN.{length, get_or, set}
use lib.Seq.{get_or-set_same, get_or-set_other}
use borrow.Author.Tests.{eqb-true, eq-eqb, ne_eqb}
use Rattle.surface.specs.Triangle.{Tri, triangles, names}
use Rattle.surface.specs.Closed.{one}
use Rattle.surface.specs.Edit.{place}
use Rattle.surface.proofs.Bools.{both, join, or_cases}
use Rattle.surface.proofs.Bridge.{reads_name}
use Rattle.surface.proofs.Reading.{Reads, r0, r1, r2}
use Rattle.surface.specs.Label.{carries}
use Rattle.halfedges.specs.Place.{nx, pv, at}
use Rattle.halfedges.proofs.Turns.{same_or}
use Rattle.chains.proofs.Flat.{thirds-length, triangle_low, place_reads, reads_spot}
use Rattle.chains.proofs.Common.{same_test}
use Rattle.chains.specs.LabelMarks.{Carried}

-- a place of v below i is in a triangle with the label l
unfoldable pub carries_to : List ℕ → List ℕ → ℕ → ℕ → ℕ → Bool
carries_to c ls v l zero = false
carries_to c ls v l (suc i) = (eqb (at c i) v && eqb (get_or ls (i / 3) 0) l) || carries_to c ls v l i

pub record Carrier (c ls : List ℕ) (v l i : ℕ) : Type 0 where
  pub k : ℕ
  pub low : k < i
  pub names : at c k ≡ v
  pub label : get_or ls (k / 3) 0 ≡ l

or_second : (p q : Bool) → q ≡ true → (p || q) ≡ true
or_second true q e = refl
or_second false q e = e

or_first : (p q : Bool) → p ≡ true → (p || q) ≡ true
or_first p q e = rw e refl

either : (p q : Bool) → (p || q) ≡ true → (p ≡ true) ⊎ (q ≡ true)
either true q e = inl refl
either false q e = inr e

carried_by : (c ls : List ℕ) (v l i : ℕ) → carries_to c ls v l i ≡ true → Carrier c ls v l i
unfolding carries_to
carried_by c ls v l zero e = absurd (false≢true e)
carried_by c ls v l (suc i) e = go (carried_by c ls v l i) (either (eqb (at c i) v && eqb (get_or ls (i / 3) 0) l) (carries_to c ls v l i) e)
  where
    go : (carries_to c ls v l i ≡ true → Carrier c ls v l i) → ((eqb (at c i) v && eqb (get_or ls (i / 3) 0) l) ≡ true) ⊎ (carries_to c ls v l i ≡ true) → Carrier c ls v l (suc i)
    go ih (inl q) = let b = both _ _ q in record { k = i; low = omega arith; names = eqb-true (at c i) v b.0; label = eqb-true (get_or ls (i / 3) 0) l b.1 }
    go ih (inr q) = let b = ih q in record { k = b.k; low = omega (arith, b.low); names = b.names; label = b.label }

carries-by : (c ls : List ℕ) (v l i : ℕ) → Carrier c ls v l i → carries_to c ls v l i ≡ true
unfolding carries_to
carries-by c ls v l zero b = let m = b.low in absurd (omega arith)
carries-by c ls v l (suc i) b = go (carries-by c ls v l i) (same_or b.k i)
  where
    go : (Carrier c ls v l i → carries_to c ls v l i ≡ true) → (b.k ≡ i) ⊎ (b.k ≡ i → ⊥) → ((eqb (at c i) v && eqb (get_or ls (i / 3) 0) l) || carries_to c ls v l i) ≡ true
    go ih (inl z) = or_first (eqb (at c i) v && eqb (get_or ls (i / 3) 0) l) (carries_to c ls v l i) (join (eqb (at c i) v) (eqb (get_or ls (i / 3) 0) l) (eq-eqb (at c i) v (ap (at c) (sym z) ∙ b.names)) (eq-eqb (get_or ls (i / 3) 0) l (ap (λ (k : ℕ). get_or ls (k / 3) 0) (sym z) ∙ b.label)))
    go ih (inr z) = or_second (eqb (at c i) v && eqb (get_or ls (i / 3) 0) l) (carries_to c ls v l i) (ih (record { k = b.k; low = omega (arith, z, b.low); names = b.names; label = b.label }))

-- the same by triangles
pub record Holder (ts : List Tri) (ls : List ℕ) (v l : ℕ) : Type 0 where
  pub i : ℕ
  pub low : i < length ts
  pub fits : i < length ls
  pub names : names (place ts i) v ≡ true
  pub label : get_or ls i 0 ≡ l

pub held_by : (ts : List Tri) (ls : List ℕ) (v l : ℕ) → carries ts ls v l ≡ true → Holder ts ls v l
unfolding carries
held_by [] ls v l e = absurd (false≢true e)
held_by (t ∷ ts) [] v l e = absurd (false≢true e)
held_by (t ∷ ts) (m ∷ ls) v l e = go (held_by ts ls v l) (either (names t v && eqb m l) (carries ts ls v l) e)
  where
    go : (carries ts ls v l ≡ true → Holder ts ls v l) → ((names t v && eqb m l) ≡ true) ⊎ (carries ts ls v l ≡ true) → Holder (t ∷ ts) (m ∷ ls) v l
    go ih (inl q) = let b = both _ _ q in record { i = 0; low = omega arith; fits = omega arith; names = b.0; label = eqb-true m l b.1 }
    go ih (inr q) = let b = ih q in record { i = suc b.i; low = omega (arith, b.low); fits = omega (arith, b.fits); names = b.names; label = b.label }

pub holds_by : (ts : List Tri) (ls : List ℕ) (v l : ℕ) (i : ℕ) → i < length ts → i < length ls → names (place ts i) v ≡ true → get_or ls i 0 ≡ l → carries ts ls v l ≡ true
unfolding carries
holds_by [] ls v l i a b n e = absurd (omega arith)
holds_by (t ∷ ts) [] v l i a b n e = absurd (omega arith)
holds_by (t ∷ ts) (m ∷ ls) v l zero a b n e = or_first (names t v && eqb m l) (carries ts ls v l) (join (names t v) (eqb m l) n (eq-eqb m l e))
holds_by (t ∷ ts) (m ∷ ls) v l (suc i) a b n e = or_second (names t v && eqb m l) (carries ts ls v l) (holds_by ts ls v l i (omega arith) (omega arith) n e)

-- a corner that a triangle names is one from which it is read
pub record ReadFrom (t : Tri) (v : ℕ) : Type 0 where
  pub y : ℕ
  pub z : ℕ
  pub reads : Reads t v y z

pub names-read : (t : Tri) (v : ℕ) → names t v ≡ true → ReadFrom t v
names-read t v e = go (or_cases (eqb t.a v) (eqb t.b v) (eqb t.c v) e)
  where
    go : (eqb t.a v ≡ true) ⊎ ((eqb t.b v ≡ true) ⊎ (eqb t.c v ≡ true)) → ReadFrom t v
    go (inl q) = record { y = t.b; z = t.c; reads = r0 (eqb-true t.a v q) refl refl }
    go (inr (inl q)) = record { y = t.c; z = t.a; reads = r1 (eqb-true t.b v q) refl refl }
    go (inr (inr q)) = record { y = t.a; z = t.b; reads = r2 (eqb-true t.c v q) refl refl }

pub carries-places : (c ls : List ℕ) (v l : ℕ) → length c % 3 ≡ 0 → length ls * 3 ≡ length c → carries_to c ls v l (length c) ≡ carries (triangles c) ls v l
carries-places c ls v l h n = same_test _ _ to back
  where
    size : 3 * length (triangles c) ≡ length c
    size = thirds-length c h

    to : carries_to c ls v l (length c) ≡ true → carries (triangles c) ls v l ≡ true
    to e =
        let b = carried_by c ls v l (length c) e in
        let m = b.low in
        let r : Reads (place (triangles c) (b.k / 3)) (at c b.k) (at c (nx b.k)) (at c (pv b.k)) = place_reads c h b.k m in
        holds_by (triangles c) ls v l (b.k / 3) (triangle_low c b.k h m) (omega (arith, m)) (subst (λ (x : ℕ). names (place (triangles c) (b.k / 3)) x ≡ true) b.names (reads_name r)) b.label

    back : carries (triangles c) ls v l ≡ true → carries_to c ls v l (length c) ≡ true
    back e =
        let b = held_by (triangles c) ls v l e in
        let r = names-read (place (triangles c) b.i) v b.names in
        let s = reads_spot c h b.i b.low r.reads in
        carries-by c ls v l (length c) (record { k = s.k; low = s.low; names = s.one; label = ap (λ (i : ℕ). get_or ls i 0) s.third ∙ b.label })

-- ---- the words

pub record Carrying (c ls : List ℕ) (p : ℕ) (w : List ℕ) (i : ℕ) : Type 0 where
  pub each : (v l : ℕ) → v < p → l < 8 → at w (v * 8 + l) ≡ one (carries_to c ls v l i)

pub carry_first : (c ls : List ℕ) (p : ℕ) (w : List ℕ) → ((j : ℕ) → j < p * 8 → at w j ≡ 0) → Carrying c ls p w 0
unfolding carries_to
carry_first c ls p w z = record { each = λ v l a b. z (v * 8 + l) (omega arith) }

miss : (p q r : Bool) → (p ≡ false) ⊎ (q ≡ false) → r ≡ ((p && q) || r)
miss true true r (inl e) = absurd (false≢true (sym e))
miss true true r (inr e) = absurd (false≢true (sym e))
miss true false r e = refl
miss false q r e = refl

pub carry_turn : (c ls : List ℕ) (p : ℕ) (w : List ℕ) (k u m : ℕ) → u ≡ at c k → m ≡ get_or ls (k / 3) 0 → u < p → m < 8 → p * 8 ≤ length w → Carrying c ls p w k → Carrying c ls p (set w (u * 8 + m) 1) (suc k)
unfolding carries_to
carry_turn c ls p w k u m e f a b room g = record { each = λ v l x y. go v l x y (same_or u v) (same_or m l) }
  where
    go : (v l : ℕ) → v < p → l < 8 → (u ≡ v) ⊎ (u ≡ v → ⊥) → (m ≡ l) ⊎ (m ≡ l → ⊥) → at (set w (u * 8 + m) 1) (v * 8 + l) ≡ one ((eqb (at c k) v && eqb (get_or ls (k / 3) 0) l) || carries_to c ls v l k)
    go v l x y (inl i) (inl j) =
        ap (at (set w (u * 8 + m) 1)) (omega arith) ∙ get_or-set_same w (u * 8 + m) 1 0 (omega arith)
        ∙ ap one (sym (or_first (eqb (at c k) v && eqb (get_or ls (k / 3) 0) l) (carries_to c ls v l k) (join (eqb (at c k) v) (eqb (get_or ls (k / 3) 0) l) (eq-eqb (at c k) v (sym e ∙ i)) (eq-eqb (get_or ls (k / 3) 0) l (sym f ∙ j)))))
    go v l x y (inl i) (inr j) =
        get_or-set_other w (u * 8 + m) (v * 8 + l) 1 0 (λ z. j (omega arith)) ∙ g.each v l x y
        ∙ ap one (miss (eqb (at c k) v) (eqb (get_or ls (k / 3) 0) l) (carries_to c ls v l k) (inr (ne_eqb (get_or ls (k / 3) 0) l (λ z. j (f ∙ z)))))
    go v l x y (inr i) j =
        get_or-set_other w (u * 8 + m) (v * 8 + l) 1 0 (λ z. i (omega arith)) ∙ g.each v l x y
        ∙ ap one (miss (eqb (at c k) v) (eqb (get_or ls (k / 3) 0) l) (carries_to c ls v l k) (inl (ne_eqb (at c k) v (λ z. i (e ∙ z)))))

pub carry_last : (c ls : List ℕ) (p : ℕ) (w : List ℕ) → length c % 3 ≡ 0 → length ls * 3 ≡ length c → Carrying c ls p w (length c) → Carried c ls p w 0
carry_last c ls p w h n g = record { each = λ v l a b. ap (at w) (omega arith) ∙ g.each v l a b ∙ ap one (carries-places c ls v l h n) }
