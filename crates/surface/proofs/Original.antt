-- The original's test, `closed_oriented_manifold`, answers as the rules (b) and (c) do, for every list whose corners are below n: question 5 is asked before 7.
-- Rule (a) is not needed.
use Prim.Native.Nat.{ℕ, zero, suc, ◌+◌, ◌≤◌, ◌<◌}
use native.Mathlib.Decide.{ℕ_discrete}
use native.Mathlib.Nat.{add-zero}
use mathlib.Core.Path.{◌≡◌, refl, sym, ◌∙◌, ap}
use mathlib.Core.Logic.{◌↔◌}
use mathlib.Core.Bool.{Bool, true, false, ◌&&◌, cond}
use mathlib.Core.List.Memᴰ
use mathlib.Core.List.{List, [], ◌∷◌, Memᴰ}
use mathlib.Core.Option.{some}
use native.Mathlib.Omega.{arith}
use lib.Dec.{eqb}
use lib.ListN.{length, length-append}
use borrow.Author.Tests.{eqb-true, eq-eqb, ne_eqb}
use Rattle.surface.specs.Triangle.{Tri, tri}
use Rattle.surface.specs.Closed.{sides, Step, around, Leads, Ring, InUse, Paired, Manifold}
use Rattle.surface.specs.Check.{unused, leftover}
use Rattle.surface.specs.Euler.{Below}
use Rattle.surface.specs.Links.{ring_at}
use Rattle.surface.specs.Original.{directed, equal?, sorted, distinct?, reversed?, find, walk, ring?, all, closed_oriented, original_closed}
use Rattle.surface.proofs.Bools.{both, join}
use Rattle.surface.proofs.Reading.{sides_cons}
use Rattle.surface.proofs.Rings.{is_yes, is_no, froms, tos, froms_cons, tos_cons, mem_perm, mem_froms, length_perm, path, Balanced, follow}
use Rattle.surface.proofs.Steps.{froms_around}
use Rattle.surface.proofs.Around.{ring_joined, balanced_around, nothing_left, joined_ring}
use Rattle.surface.proofs.Links.{ring_around}
use Rattle.surface.proofs.Pairs.{tally, tally_perm, sorted_perm, sorted-rising, distinct-once, once-distinct, reversed_back, back_reversed}

-- the sides: the sorted list holds each as often as the triangles run along it
pub directed-sides : (ts : List Tri) (u v : ℕ) → tally (directed ts) u v ≡ sides ts u v
unfolding tally directed sides
directed-sides [] u v = refl
directed-sides (t ∷ ts) u v = omega (arith, sides_cons t ts u v, directed-sides ts u v)

sorted-sides : (ts : List Tri) (u v : ℕ) → tally (sorted (directed ts)) u v ≡ sides ts u v
sorted-sides ts u v = tally_perm u v (sorted_perm (directed ts)) ∙ directed-sides ts u v

-- the walk: where each corner is left once, the step found is the one that leaves it
find-step : {e : Step} {l : List Step} → Memᴰ e l → froms l e.from ≤ 1 → find e.from l ≡ some e
unfolding find froms
find-step {e} (Memᴰ.head {x = x} {xs = xs} p) h = rw (eq-eqb x.from e.from (ap (λ (s : Step). s.from) (sym p))) (ap some (sym p))
find-step {e} (Memᴰ.tail {x = x} {xs = xs} m) h = go (ℕ_discrete x.from e.from) (λ k. find-step m k)
  where
    go : Dec (x.from ≡ e.from) → (froms xs e.from ≤ 1 → find e.from xs ≡ some e) → cond (eqb x.from e.from) (some x) (find e.from xs) ≡ some e
    go (yes q) f = absurd (omega (arith, is_yes x.from e.from q, mem_froms m))
    go (no n) f = rw (ne_eqb x.from e.from n) (f (omega (arith, is_no x.from e.from n)))

module _ (e : Step) (l : List Step) (once : (z : ℕ) → froms (e ∷ l) z ≤ 1) where
  one_turn : (left steps : ℕ) (s : Step) → Memᴰ s (e ∷ l)
      → walk (suc left) steps s.from e (e ∷ l) ≡ cond (equal? s e) (eqb steps (length (e ∷ l))) (walk left (suc steps) s.to e (e ∷ l))
  unfolding walk
  one_turn left steps s m = rw (find-step m (once s.from), walk)

  arrives : equal? e e ≡ true
  arrives = join _ _ (eq-eqb e.from e.from refl) (eq-eqb e.to e.to refl)

  goes_on : (s : Step) → Memᴰ s l → equal? s e ≡ false
  unfolding froms
  goes_on s m =
      rw (ne_eqb s.from e.from (λ q. omega (arith, once e.from, is_yes e.from e.from refl, mem_froms m, ap (froms l) q)))

  -- it follows a path t among the further steps, back to the first, and counts its steps
  walk-back : (left steps current : ℕ) (t : List Step) → ((s : Step) → Memᴰ s t → Memᴰ s l) → Leads current t e.from → length t < left
      → walk left steps current e (e ∷ l) ≡ eqb (steps + length t) (length (e ∷ l))
  unfolding Leads
  walk-back zero steps current t f p h = absurd (omega arith)
  walk-back (suc left) steps current [] f p h = rw (p, one_turn left steps e (Memᴰ.head refl), arrives, add-zero)
  walk-back (suc left) steps current (s ∷ t) f p h =
      let m = f s (Memᴰ.head refl) in
      let w = walk-back left (suc steps) s.to t (λ r k. f r (Memᴰ.tail k)) p.1 (omega arith) in
      rw (← p.0, one_turn left steps s (Memᴰ.tail m), goes_on s m, w) (ap (λ (k : ℕ). eqb k (length (e ∷ l))) (omega arith))

none_over : (l : List Step) → length l ≡ 0 → l ≡ []
none_over [] h = refl
none_over (s ∷ l) h = absurd (omega arith)

-- so it counts the whole list if and only if the ring of the first step leaves nothing over
ring_over : (l : List Step) → ((z : ℕ) → froms l z ≤ 1) → ((z : ℕ) → froms l z ≡ tos l z) → (ring? l ≡ true) ↔ (leftover l ≡ [])
unfolding ring? leftover Balanced
ring_over [] once even = ((λ h. refl), λ h. refl)
ring_over (e ∷ l) once even =
    let f = follow (length l) e.to e.from l (omega arith) (λ z. omega (arith, even z, froms_cons e l z, tos_cons e l z)) in
    let t = path (length l) e.to e.from l in
    let over = unused (length l) e.to e.from l in
    let n : length t + length over ≡ length l = sym (length-append t over) ∙ length_perm f.all in
    let w = walk-back e l once (suc (length l)) 1 e.to t (λ s m. mem_perm f.all (Memᴰ.append_left over m)) f.way (omega arith) in (
      (λ h. none_over over (omega (arith, eqb-true (1 + length t) (suc (length l)) (sym w ∙ h)))),
      λ h. w ∙ eq-eqb (1 + length t) (suc (length l)) (omega (arith, ap length h)),
    )

all-below : (n : ℕ) (f : ℕ → Bool) → all n f ≡ true → (v : ℕ) → v < n → f v ≡ true
unfolding all
all-below zero f e v h = absurd (omega arith)
all-below (suc n) f e v h = let k = both (all n f) (f n) e in go (ℕ_discrete v n) k.1 (λ l. all-below n f k.0 v l)
  where
    go : Dec (v ≡ n) → f n ≡ true → (v < n → f v ≡ true) → f v ≡ true
    go (yes q) k g = ap f q ∙ k
    go (no m) k g = g (omega arith)

below_all : (n : ℕ) (f : ℕ → Bool) → ((v : ℕ) → v < n → f v ≡ true) → all n f ≡ true
unfolding all
below_all zero f h = refl
below_all (suc n) f h = join _ _ (below_all n f (λ v l. h v (omega arith))) (h n (omega arith))

-- (b) as the sorted list shows it: no side twice, and none without its reverse
record Matched (ts : List Tri) : Type 0 where
  once : (u v : ℕ) → sides ts u v ≤ 1
  back : (u v : ℕ) → 0 < sides ts u v → 0 < sides ts v u

matched_paired : {ts : List Tri} → Matched ts → Paired ts
matched_paired m = record { once = λ u v p. omega (arith, m.once u v); back = λ u v p. omega (arith, m.once v u, m.back u v p) }

at_most_one : (n : ℕ) → (0 < n → n ≡ 1) → n ≤ 1
at_most_one zero f = omega arith
at_most_one (suc n) f = omega (arith, f (omega arith))

paired_matched : {ts : List Tri} → Paired ts → Matched ts
paired_matched p = record { once = λ u v. at_most_one _ (p.once u v); back = λ u v h. omega (arith, p.back u v h) }

module _ (ts : List Tri) where
  list : List Step
  list = sorted (directed ts)

  found_matched : distinct? list ≡ true → reversed? list list ≡ true → Matched ts
  unfolding list
  found_matched d r = record {
    once = λ u v. omega (arith, sorted-sides ts u v, distinct-once (sorted-rising (directed ts)) d u v);
    back = λ u v p. omega (arith, sorted-sides ts v u, reversed_back list (sorted-rising (directed ts)) list r u v (omega (arith, sorted-sides ts u v)));
  }

  matched_found : Matched ts → (distinct? list ≡ true) × (reversed? list list ≡ true)
  unfolding list
  matched_found m = (
    once-distinct list (λ u v. omega (arith, sorted-sides ts u v, m.once u v)),
    back_reversed list (sorted-rising (directed ts)) list (λ u v p. omega (arith, sorted-sides ts v u, m.back u v (omega (arith, sorted-sides ts u v)))),
  )

-- (c) as the walks show it
as_often : (m n : ℕ) → m ≤ 1 → n ≤ 1 → (0 < m → 0 < n) → (0 < n → 0 < m) → m ≡ n
as_often zero zero p q f g = refl
as_often zero (suc n) p q f g = absurd (omega (arith, g (omega arith)))
as_often (suc m) zero p q f g = absurd (omega (arith, f (omega arith)))
as_often (suc m) (suc n) p q f g = omega arith

walked_ring : {ts : List Tri} → Matched ts → (v : ℕ) → InUse ts v → (ring? (around ts v) ≡ true) ↔ Ring (around ts v)
walked_ring {ts} m v u =
    let k = ring_over (around ts v) (λ z. omega (arith, froms_around ts v z, m.once v z)) (balanced_around ts v m.once even) in
    ((λ h. joined_ring ts v m.once even u (k.0 h)), λ g. k.1 (nothing_left ts v m.once even u (ring_joined ts v g)))
  where
    even : (x y : ℕ) → sides ts x y ≡ sides ts y x
    even x y = as_often (sides ts x y) (sides ts y x) (m.once x y) (m.once y x) (m.back x y) (m.back y x)

-- where no triangle names the corner, the test says true
ring_or_none : (l : List Step) → (0 < length l → ring? l ≡ true) → ring? l ≡ true
unfolding ring?
ring_or_none [] f = refl
ring_or_none (e ∷ l) f = f (omega arith)

-- the original's test and the rules (b) and (c)
pub original_iff : (ts : List Tri) (n : ℕ) → Below n ts → (original_closed ts n ≡ true) ↔ Manifold ts
unfolding original_closed closed_oriented list
original_iff ts n below = (
  (λ h. let k = both (distinct? (list ts)) (reversed? (list ts) (list ts) && all n (λ v. ring? (ring_at ts n v))) h in
      let j = both (reversed? (list ts) (list ts)) (all n (λ v. ring? (ring_at ts n v))) k.1 in
      let m = found_matched ts k.0 j.0 in
      record {
        paired = matched_paired m;
        ringed = λ v u. (walked_ring m v u).0 (ap ring? (sym (ring_around ts n below v (below v u))) ∙ all-below n (λ v. ring? (ring_at ts n v)) j.1 v (below v u));
      }),
  λ r. let m = paired_matched r.paired in
      let f = matched_found ts m in
      join _ _ f.0
      (join _ _ f.1 (below_all n (λ v. ring? (ring_at ts n v)) (λ v l. ap ring? (ring_around ts n below v l) ∙ ring_or_none (around ts v) (λ u. (walked_ring m v u).1 (r.ringed v u))))),
)

-- document 01's octahedron
octahedron : original_closed
    (tri 0 2 4 ∷ tri 2 1 4 ∷ tri 1 3 4 ∷ tri 3 0 4 ∷ tri 2 0 5 ∷ tri 1 2 5 ∷ tri 3 1 5 ∷ tri 0 3 5 ∷ []) 6 ≡ true
unfolding original_closed closed_oriented
octahedron = refl

-- two tetrahedra sharing one corner
two_tetrahedra : original_closed
    (tri 0 2 1 ∷ tri 0 1 3 ∷ tri 0 3 2 ∷ tri 1 2 3 ∷ tri 0 5 4 ∷ tri 0 4 6 ∷ tri 0 6 5 ∷ tri 4 5 6 ∷ []) 7 ≡ false
unfolding original_closed closed_oriented
two_tetrahedra = refl

-- rule (a) broken, (b) and (c) kept
folded : original_closed (tri 0 0 1 ∷ []) 2 ≡ true
unfolding original_closed closed_oriented
folded = refl
