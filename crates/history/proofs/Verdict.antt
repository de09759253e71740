-- What an entry does to a history, by its kind.
use Prim.Native.Nat.{ℕ, suc, ◌≤◌, ◌<◌}
use mathlib.Core.Path.{◌≡◌, refl, sym, ◌∙◌, ap, subst}
use mathlib.Core.Logic.{◌⊎◌, inl, inr}
use mathlib.Core.Bool.{Bool, true, false, not, cond}
use mathlib.Core.List.{List, [], ◌∷◌}
use native.Mathlib.Omega.{arith}
use native.Mathlib.Decide.{ℕ_discrete}
use lib.Dec.{eqb, ltb}
use lib.ListN.{length, drop}
use borrow.Author.Tests.{eqb-true, eqb-false, eq-eqb, ne_eqb, ltb-true, ltb-false, leb-false, not-false}
use Rattle.surface.specs.Triangle.{Tri}
use Rattle.surface.specs.Closed.{sides, Closed}
use Rattle.surface.specs.Edit.{hinge, has, first, place}
use Rattle.surface.specs.Check.{closed?}
use Rattle.surface.proofs.Decision.{closed?_iff}
use Rattle.surface.proofs.Laws.{side-exists}
use Rattle.history.specs.History.{Pair, Entry, is_flip, exists, alike, label, covered, flipped, collapsed, words, made, History, last, in_force, full, when, verdict, accepted, next}
use Rattle.history.specs.Safe.{allowed}
pub use Rattle.history.specs.Accepted.{Edit, flips, collapses}

-- the first triangle on the side has it
pub first-has : (a b : ℕ) (ts : List Tri) → first a b ts < length ts → has a b (place ts (first a b ts)) ≡ true
unfolding first
first-has a b [] l = absurd (omega arith)
first-has a b (t ∷ ts) l = go (has a b t) refl l (first-has a b ts)
  where
    go : (k : Bool) → has a b t ≡ k → first a b (t ∷ ts) < suc (length ts) → (first a b ts < length ts → has a b (place ts (first a b ts)) ≡ true)
        → has a b (place (t ∷ ts) (first a b (t ∷ ts))) ≡ true
    go true e m f = rw (e, first) e
    go false e m f = rw (e, first) (f (let q : suc (first a b ts) < suc (length ts) = rw (e, first) at m in omega arith))

pub exists-side : (p : Pair) → Closed p.tris → (a b : ℕ) → exists p a b ≡ true → 0 < sides p.tris a b
exists-side p c a b e =
    let l = ltb-true (first a b p.tris) (length p.tris) e in
    side-exists c a b (first a b p.tris) l (first-has a b p.tris l)

made-flip : (p : Pair) (e : Entry) → e.kind ≡ 1 → made p e ≡ flipped p e.a e.b
made-flip p e k = ap (λ (t : Bool). cond t (flipped p e.a e.b) (collapsed p e.a e.b)) (eq-eqb e.kind 1 k)

made-collapse : (p : Pair) (e : Entry) → e.kind ≡ 2 → made p e ≡ collapsed p e.a e.b
made-collapse p e k = ap (λ (t : Bool). cond t (flipped p e.a e.b) (collapsed p e.a e.b)) (ne_eqb e.kind 1 (λ f. omega arith))

pub edit_of : (p : Pair) (e : Entry) → Closed p.tris → (e.kind ≡ 1) ⊎ (e.kind ≡ 2) → exists p e.a e.b ≡ true → allowed p e ≡ true → Closed (made p e).tris → Edit p e
edit_of p e c (inl k) s a m =
    let i = label p (hinge p.tris e.a e.b).p1 in
    let j = label p (hinge p.tris e.a e.b).p2 in
    let q = made-flip p e k in
    let t : eqb i j ≡ true = ap (λ (t : Bool). cond t (eqb i j) (covered p e.a e.b)) (sym (eq-eqb e.kind 1 k)) ∙ a in
    flips k (exists-side p c e.a e.b s) (eqb-true i j t) (subst (λ (r : Pair). Closed r.tris) q m) q
edit_of p e c (inr k) s a m =
    let q = made-collapse p e k in
    let t : covered p e.a e.b ≡ true = ap (λ (t : Bool). cond t (alike p e.a e.b) (covered p e.a e.b)) (sym (ne_eqb e.kind 1 (λ f. omega arith))) ∙ a in
    collapses k (exists-side p c e.a e.b s) t (subst (λ (r : Pair). Closed r.tris) q m) q

pub data Kind (k : ℕ) : Type 0 where
  edit : (k ≡ 1) ⊎ (k ≡ 2) → Kind k
  back : k ≡ 3 → Kind k
  other : (k ≡ 1 → ⊥) → (k ≡ 2 → ⊥) → (k ≡ 3 → ⊥) → Kind k

pub kind_of_lem : (k : ℕ) → Kind k
kind_of_lem k = go (ℕ_discrete k 1) (ℕ_discrete k 2) (ℕ_discrete k 3)
  where
    go : Dec (k ≡ 1) → Dec (k ≡ 2) → Dec (k ≡ 3) → Kind k
    go (yes e) d f = edit (inl e)
    go (no m) (yes e) f = edit (inr e)
    go (no m) (no n) (yes e) = back e
    go (no m) (no n) (no o) = other m n o

-- the verdict word by the entry's kind
module _ (capacity : ℕ) (h : History) (e : Entry) where
  pub verdict-edit : (e.kind ≡ 1) ⊎ (e.kind ≡ 2)
      → verdict capacity h e ≡ when (not (exists (last h) e.a e.b)) 22 (when (not (allowed (last h) e)) (cond (is_flip e) 23 24) (when (not (closed? (made (last h) e).tris)) 25 (when (full capacity h) 27 0)))
  unfolding verdict
  verdict-edit (inl k) = rw (eq-eqb e.kind 1 k, ne_eqb e.kind 2 (λ (f : e.kind ≡ 2). omega arith), ne_eqb e.kind 3 (λ (f : e.kind ≡ 3). omega arith))
  verdict-edit (inr k) = rw (eq-eqb e.kind 2 k, ne_eqb e.kind 1 (λ (f : e.kind ≡ 1). omega arith), ne_eqb e.kind 3 (λ (f : e.kind ≡ 3). omega arith))

  pub verdict-back : e.kind ≡ 3 → verdict capacity h e ≡ when (not (eqb e.b 0)) 21 (when (ltb (in_force h) e.a) 26 0)
  unfolding verdict
  verdict-back k = rw (eq-eqb e.kind 3 k, ne_eqb e.kind 1 (λ (f : e.kind ≡ 1). omega arith), ne_eqb e.kind 2 (λ (f : e.kind ≡ 2). omega arith))

  pub verdict_other : (e.kind ≡ 1 → ⊥) → (e.kind ≡ 2 → ⊥) → (e.kind ≡ 3 → ⊥) → verdict capacity h e ≡ 21
  unfolding verdict
  verdict_other i j k = rw (ne_eqb e.kind 1 i, ne_eqb e.kind 2 j, ne_eqb e.kind 3 k)

-- a test that does not refuse
pub passed : (t : Bool) (n m : ℕ) → (n ≡ 0 → ⊥) → when t n m ≡ 0 → (t ≡ false) × (m ≡ 0)
passed true n m f e = absurd (f e)
passed false n m f e = (refl, e)

-- what an entry does to the history
pub data Outcome (capacity : ℕ) (h : History) (e : Entry) : Type 0 where
  edited : Edit (last h) e → in_force h < capacity
      → next capacity h e ≡ record { lent = h.lent; edits = record { pair = made (last h) e; words = words (last h) e } ∷ h.edits } → Outcome capacity h e
  returned : e.kind ≡ 3 → e.a ≤ in_force h → next capacity h e ≡ record { lent = h.lent; edits = drop e.a h.edits } → Outcome capacity h e
  refused : (verdict capacity h e ≡ 0 → ⊥) → next capacity h e ≡ h → Outcome capacity h e

module _ (capacity : ℕ) (h : History) (e : Entry) where
  abbrev kept : Bool → History
  kept t = record { lent = h.lent; edits = cond t (drop e.a h.edits) (record { pair = made (last h) e; words = words (last h) e } ∷ h.edits) }

  next-accepted : verdict capacity h e ≡ 0 → next capacity h e ≡ accepted h e
  unfolding next
  next-accepted z = rw (next, eq-eqb (verdict capacity h e) 0 z)

  pub next-edit : verdict capacity h e ≡ 0 → (e.kind ≡ 1) ⊎ (e.kind ≡ 2) → next capacity h e ≡ record { lent = h.lent; edits = record { pair = made (last h) e; words = words (last h) e } ∷ h.edits }
  next-edit z (inl k) = next-accepted z ∙ ap kept (ne_eqb e.kind 3 (λ f. omega arith))
  next-edit z (inr k) = next-accepted z ∙ ap kept (ne_eqb e.kind 3 (λ f. omega arith))

  pub next-back : verdict capacity h e ≡ 0 → e.kind ≡ 3 → next capacity h e ≡ record { lent = h.lent; edits = drop e.a h.edits }
  next-back z k = next-accepted z ∙ ap kept (eq-eqb e.kind 3 k)

  pub next-refused : (verdict capacity h e ≡ 0 → ⊥) → next capacity h e ≡ h
  unfolding next
  next-refused n = rw (next, ne_eqb (verdict capacity h e) 0 n)

  flip_23 : (t : Bool) → cond {A = ℕ} t 23 24 ≡ 0 → ⊥
  flip_23 true f = omega arith
  flip_23 false f = omega arith

  edit_parts : Closed (last h).tris → verdict capacity h e ≡ 0 → (e.kind ≡ 1) ⊎ (e.kind ≡ 2) → Edit (last h) e × (in_force h < capacity)
  edit_parts c z k =
      let p = last h in
      let w4 : ℕ = when (full capacity h) 27 0 in
      let w3 : ℕ = when (not (closed? (made p e).tris)) 25 w4 in
      let w2 : ℕ = when (not (allowed p e)) (cond (is_flip e) 23 24) w3 in
      let t1 = passed (not (exists p e.a e.b)) 22 w2 (λ q. omega arith) (sym (verdict-edit capacity h e k) ∙ z) in
      let t2 = passed (not (allowed p e)) (cond (is_flip e) 23 24) w3 (flip_23 (is_flip e)) t1.1 in
      let t3 = passed (not (closed? (made p e).tris)) 25 w4 (λ q. omega arith) t2.1 in
      let t4 = passed (full capacity h) 27 0 (λ q. omega arith) t3.1 in (
        edit_of p e c k (not-false (exists p e.a e.b) t1.0) (not-false (allowed p e) t2.0) ((closed?_iff (made p e).tris).0 (not-false (closed? (made p e).tris) t3.0)),
        leb-false capacity (in_force h) t4.0,
      )

  pub outcome : Closed (last h).tris → Outcome capacity h e
  outcome c = go (eqb (verdict capacity h e) 0) refl
    where
      pick : verdict capacity h e ≡ 0 → Kind e.kind → Outcome capacity h e
      pick z (edit k) = let p = edit_parts c z k in edited p.0 p.1 (next-edit z k)
      pick z (back k) =
          let w : ℕ = when (ltb (in_force h) e.a) 26 0 in
          let t = passed (not (eqb e.b 0)) 21 w (λ q. omega arith) (sym (verdict-back capacity h e k) ∙ z) in
          let s = passed (ltb (in_force h) e.a) 26 0 (λ q. omega arith) t.1 in
          returned k (ltb-false (in_force h) e.a s.0) (next-back z k)
      pick z (other i j k) = absurd (let y = sym (verdict_other capacity h e i j k) ∙ z in omega arith)

      go : (k : Bool) → eqb (verdict capacity h e) 0 ≡ k → Outcome capacity h e
      go true f = pick (eqb-true (verdict capacity h e) 0 f) (kind_of_lem e.kind)
      go false f = let n = eqb-false (verdict capacity h e) 0 f in refused n (next-refused n)
