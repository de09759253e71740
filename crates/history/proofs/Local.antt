-- The verdict word 25, and the local tests that decide it.
use Prim.Native.Nat.{ℕ, ◌<◌}
use mathlib.Core.Path.{◌≡◌, refl, sym, ◌∙◌}
use mathlib.Core.Logic.{◌⊎◌, inl, inr, ◌↔◌}
use mathlib.Core.Bool.{Bool, true, false, not, ◌&&◌, ◌||◌, cond}
use mathlib.Core.List.{List, [], ◌∷◌, Memᴰ}
use native.Mathlib.Omega.{arith}
use lib.Dec.{eqb}
use lib.ListN.{length}
use borrow.Author.Tests.{eqb-true, eqb-false, eq-eqb, ne_eqb}
use Rattle.surface.specs.Triangle.{Tri}
use Rattle.surface.specs.Closed.{sides, Step, step, around, Closed}
use Rattle.surface.specs.Edit.{Hinge, hinge, flip, collapse}
use Rattle.surface.specs.Check.{closed?}
use Rattle.surface.proofs.Bools.{true_false, both, join, or_second, not_true}
use Rattle.surface.proofs.Reading.{has-side, side-has}
use Rattle.surface.proofs.Steps.{has-around, around-has}
use Rattle.surface.proofs.Decision.{closed?_iff}
use Rattle.surface.proofs.Laws.{flip-closed}
use Rattle.surface.proofs.Counts.{collapse-closed-by-count}
use Rattle.surface.specs.Check.{every}
use Rattle.history.specs.History.{Pair, Entry, is_flip, covered, alike, exists, made, History, last, full, when, verdict}
use Rattle.history.specs.Safe.{allowed}
use Rattle.history.specs.Local.{else, flip?, apart?, no_common?, collapse?, edit_word}
use Rattle.history.proofs.Verdict.{exists-side, verdict-edit}

pub same_bool : (p q : Bool) → (p ≡ true → q ≡ true) → (q ≡ true → p ≡ true) → p ≡ q
same_bool true true f g = refl
same_bool true false f g = sym (f refl)
same_bool false true f g = g refl
same_bool false false f g = refl

-- tests that refuse by a number
pub else-zero : (n m : ℕ) → else n m ≡ 0 → (n ≡ 0) × (m ≡ 0)
else-zero n m e = go (eqb n 0) refl e
  where
    go : (k : Bool) → eqb n 0 ≡ k → cond k m n ≡ 0 → (n ≡ 0) × (m ≡ 0)
    go true f g = (eqb-true n 0 f, g)
    go false f g = absurd (eqb-false n 0 f g)

pub holds : (k : Bool) (n : ℕ) → (n ≡ 0 → ⊥) → cond k 0 n ≡ 0 → k ≡ true
holds true n f e = refl
holds false n f e = absurd (f e)

-- on an existing side whose labels allow the edit, the verdict is 25 if and only if the list made is not closed
pub not_closed_25 : (capacity : ℕ) (h : History) (e : Entry) → (e.kind ≡ 1) ⊎ (e.kind ≡ 2) → exists (last h) e.a e.b ≡ true → allowed (last h) e ≡ true
    → (verdict capacity h e ≡ 25) ↔ (Closed (made (last h) e).tris → ⊥)
not_closed_25 capacity h e k s a = go (closed? (made (last h) e).tris) refl
  where
    word : verdict capacity h e ≡ when (not (closed? (made (last h) e).tris)) 25 (when (full capacity h) 27 0)
    word = verdict-edit capacity h e k ∙ rw (s, a)

    no25 : (k : Bool) → cond {A = ℕ} k 27 0 ≡ 25 → ⊥
    no25 true f = omega arith
    no25 false f = omega arith

    go : (t : Bool) → closed? (made (last h) e).tris ≡ t → (verdict capacity h e ≡ 25) ↔ (Closed (made (last h) e).tris → ⊥)
    go true f = ((λ v. absurd (no25 (full capacity h) (sym (word ∙ rw f refl) ∙ v))), λ n. absurd (n ((closed?_iff (made (last h) e).tris).0 f)))
    go false f = ((λ v c. true_false ((closed?_iff (made (last h) e).tris).1 c) f), λ n. word ∙ rw f refl)

all_mem : (f : Step → Bool) {s : Step} (l : List Step) → every f l ≡ true → Memᴰ s l → f s ≡ true
unfolding every
all_mem f (t ∷ l) e (Memᴰ.head p) = rw p (both (f t) (every f l) e).0
all_mem f (t ∷ l) e (Memᴰ.tail m) = all_mem f l (both (f t) (every f l) e).1 m
all_mem f {s = s} [] e x'' = elim x'' [ ]

mem_all : (f : Step → Bool) (l : List Step) → ((s : Step) → Memᴰ s l → f s ≡ true) → every f l ≡ true
unfolding every
mem_all f [] g = refl
mem_all f (t ∷ l) g = join (f t) (every f l) (g t (Memᴰ.head refl)) (mem_all f l (λ s m. g s (Memᴰ.tail m)))

module _ {ts : List Tri} (c : Closed ts) (a b : ℕ) (given : 0 < sides ts a b) where
  abbrev h : Hinge
  h = hinge ts a b

  pub flip?_iff : (flip? ts a b ≡ true) ↔ Closed (flip a b ts)
  unfolding flip?
  flip?_iff = let k = flip-closed c a b given in ((λ e. k.1 (eqb-true (sides ts h.c h.d) 0 e)), λ t. eq-eqb (sides ts h.c h.d) 0 (k.0 t))

  apart_of : (x : ℕ) → (0 < sides ts b x → (x ≡ h.c) ⊎ (x ≡ h.d)) → apart? ts b h.c h.d x ≡ true
  apart_of x f = go (eqb (sides ts b x) 0) refl
    where
      pick : (x ≡ h.c) ⊎ (x ≡ h.d) → (eqb x h.c || eqb x h.d) ≡ true
      pick (inl e) = rw (eq-eqb x h.c e)
      pick (inr e) = go (eqb x h.c)
        where
          go : (k : Bool) → (k || eqb x h.d) ≡ true
          go true = refl
          go false = eq-eqb x h.d e

      go : (k : Bool) → eqb (sides ts b x) 0 ≡ k → apart? ts b h.c h.d x ≡ true
      go true e = rw e
      go false e = rw e (pick (f (let n = eqb-false (sides ts b x) 0 e in omega arith)))

  of_apart : (x : ℕ) → apart? ts b h.c h.d x ≡ true → 0 < sides ts b x → (x ≡ h.c) ⊎ (x ≡ h.d)
  of_apart x e p = go (eqb x h.c) refl (or_second (eqb (sides ts b x) 0) (eqb x h.c || eqb x h.d) e (ne_eqb (sides ts b x) 0 (λ q. omega arith)))
    where
      go : (k : Bool) → eqb x h.c ≡ k → (k || eqb x h.d) ≡ true → (x ≡ h.c) ⊎ (x ≡ h.d)
      go true f g = inl (eqb-true x h.c f)
      go false f g = inr (eqb-true x h.d g)

  three : (length (around ts a) ≡ 3 → length (around ts b) ≡ 3 → ⊥) → not (eqb (length (around ts a)) 3 && eqb (length (around ts b)) 3) ≡ true
  three f = go (eqb (length (around ts a)) 3) refl (eqb (length (around ts b)) 3) refl
    where
      go : (p : Bool) → eqb (length (around ts a)) 3 ≡ p → (q : Bool) → eqb (length (around ts b)) 3 ≡ q → not (p && q) ≡ true
      go true i true j = absurd (f (eqb-true _ 3 i) (eqb-true _ 3 j))
      go true i false j = refl
      go false i q j = refl

  pub collapse?_iff : (collapse? ts a b ≡ true) ↔ Closed (collapse a b ts)
  unfolding collapse? no_common?
  collapse?_iff = (to, from)
    where
      f : Step → Bool
      f s = apart? ts b h.c h.d s.from

      to : collapse? ts a b ≡ true → Closed (collapse a b ts)
      to e =
          let t = both (every f (around ts a)) (not (eqb (length (around ts a)) 3 && eqb (length (around ts b)) 3)) e in
          (collapse-closed-by-count c a b given).1 (
            (λ x p q. let k = side-has ts a x p in of_apart x (all_mem f {s = step x k.0} (around ts a) t.0 (has-around k.1)) q),
            λ m n. true_false (join _ _ (eq-eqb (length (around ts a)) 3 m) (eq-eqb (length (around ts b)) 3 n)) (not_true _ t.1),
          )

      from : Closed (collapse a b ts) → collapse? ts a b ≡ true
      from t =
          let k = (collapse-closed-by-count c a b given).0 t in
          join (every f (around ts a)) (not (eqb (length (around ts a)) 3 && eqb (length (around ts b)) 3))
          (mem_all f (around ts a) (λ s m. apart_of s.from (λ p. k.0 s.from (has-side (around-has a s ts m)) p))) (three k.1)

-- the verdict word of a flip or collapse by the local tests is the verdict word
module _ (capacity : ℕ) (h : History) (e : Entry) (c : Closed (last h).tris) where
  abbrev p : Pair
  p = last h

  flip-same : exists p e.a e.b ≡ true → closed? (flip e.a e.b p.tris) ≡ flip? p.tris e.a e.b
  flip-same s =
      let q = closed?_iff (flip e.a e.b p.tris) in
      let r = flip?_iff c e.a e.b (exists-side p c e.a e.b s) in
      same_bool (closed? (flip e.a e.b p.tris)) (flip? p.tris e.a e.b) (λ t. r.1 (q.0 t)) (λ t. q.1 (r.0 t))

  collapse-same : exists p e.a e.b ≡ true → closed? (collapse e.a e.b p.tris) ≡ collapse? p.tris e.a e.b
  collapse-same s =
      let q = closed?_iff (collapse e.a e.b p.tris) in
      let r = collapse?_iff c e.a e.b (exists-side p c e.a e.b s) in
      same_bool (closed? (collapse e.a e.b p.tris)) (collapse? p.tris e.a e.b) (λ t. r.1 (q.0 t)) (λ t. q.1 (r.0 t))

  -- tests one after the other, written the two ways
  row : (t u w : Bool) (n : ℕ) → (n ≡ 0 → ⊥) → when (not t) n (when (not u) 25 (when w 27 0)) ≡ else (cond t 0 n) (else (cond u 0 25) (cond (not w) 0 27))
  row true true true n f = refl
  row true true false n f = refl
  row true false w n f = refl
  row false u w n f = rw (ne_eqb n 0 f)

  pub local_verdict : (e.kind ≡ 1) ⊎ (e.kind ≡ 2) → verdict capacity h e ≡ edit_word p e (not (full capacity h))
  local_verdict k = verdict-edit capacity h e k ∙ go (exists p e.a e.b) refl k
    where
      go : (t : Bool) → exists p e.a e.b ≡ t → (e.kind ≡ 1) ⊎ (e.kind ≡ 2)
          → when (not (exists p e.a e.b)) 22 (when (not (allowed p e)) (cond (is_flip e) 23 24) (when (not (closed? (made p e).tris)) 25 (when (full capacity h) 27 0))) ≡ edit_word p e (not (full capacity h))
      go false s k = rw s
      go true s (inl k) = rw (s, eq-eqb e.kind 1 k, flip-same s) (row (alike p e.a e.b) (flip? p.tris e.a e.b) (full capacity h) 23 (λ q. omega arith))
      go true s (inr k) =
          rw (s, ne_eqb e.kind 1 (λ (f : e.kind ≡ 1). omega arith), collapse-same s) (row (covered p e.a e.b) (collapse? p.tris e.a e.b) (full capacity h) 24 (λ q. omega arith))
