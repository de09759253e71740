-- There is exactly one finding, and `finding` computes it; it is `Closed` exactly where (b) and (c) hold; and the order of the triangles does not affect it.
use Prim.Native.Nat.{ℕ, zero, suc, max, ◌≤◌, ◌<◌}
use mathlib.Core.Path.{◌≡◌, refl, sym, ap, ◌∙◌, subst}
use mathlib.Core.Logic.{◌↔◌, inl, inr}
use mathlib.Core.Bool.{Bool, true, false, not, cond, true≢false, false≢true}
use mathlib.Core.List.Permᴰ
use mathlib.Core.List.{List, [], ◌∷◌}
use native.Mathlib.Omega.{arith}
use native.Mathlib.Decide.{dec_lt, ℕ_discrete}
use lib.Dec.{eqb, ltb}
use lib.ListN.{length}
use borrow.Author.Tests.{ltb-true, ltb-false, eqb-true, eq-eqb}
use Rattle.surface.specs.Triangle.{Tri}
use Rattle.surface.specs.Closed.{sides, Step, around, InUse, Ring, Paired, Manifold}
use Rattle.surface.specs.Check.{leftover, empty}
use Rattle.surface.specs.PageTwelve.{Relisted}
use Rattle.surface.specs.Finding.{IsRepeated, IsLone, IsSplit, NoneRepeated, PairBefore, SmallestPair, Smallest, Finds, bound, smallest_below, pair_start, pair_end, repeated?, lone?, split?, finding, FindingLaws}
use Rattle.surface.specs.declared.Finding.{Finding}
use Rattle.surface.specs.declared.Finding.TheVariants.{Closed, Repeated, Lone, Split}
use Rattle.surface.proofs.Bools.{true_false, both, join}
use Rattle.surface.proofs.Reading.{Reads, r0, r1, r2, Has, here, there, spin, side-has}
use Rattle.surface.proofs.Around.{nothing_left, joined_ring, ring_joined}
use Rattle.surface.proofs.Surface.{Alike, alike_sym}
use Rattle.surface.proofs.Euler.{use_has, use_alike}
use Rattle.surface.proofs.PageTwelve.{relisted-alike, page_twelve}

-- ---- the smallest number that passes a test

least-holds : (n : ℕ) (f : ℕ → Bool) → smallest_below n f < n → f (smallest_below n f) ≡ true
unfolding smallest_below
least-holds zero f l = absurd (omega arith)
least-holds (suc n) f l = go (f 0) refl (least-holds n (λ i. f (suc i))) l
  where
    go : (b : Bool) → f 0 ≡ b → (smallest_below n (λ i. f (suc i)) < n → f (suc (smallest_below n (λ i. f (suc i)))) ≡ true) → cond b 0 (suc (smallest_below n (λ i. f (suc i)))) < suc n → f (cond b 0 (suc (smallest_below n (λ i. f (suc i))))) ≡ true
    go true e ih l = e
    go false e ih l = ih (omega arith)

least-before : (n : ℕ) (f : ℕ → Bool) (i : ℕ) → i < smallest_below n f → f i ≡ false
unfolding smallest_below
least-before zero f i l = absurd (omega arith)
least-before (suc n) f i l = go (f 0) refl (least-before n (λ i. f (suc i))) i l
  where
    go : (b : Bool) → f 0 ≡ b → ((i : ℕ) → i < smallest_below n (λ i. f (suc i)) → f (suc i) ≡ false) → (i : ℕ) → i < cond b 0 (suc (smallest_below n (λ i. f (suc i)))) → f i ≡ false
    go true e ih i l = absurd (omega arith)
    go false e ih zero l = e
    go false e ih (suc i) l = ih i (omega arith)

-- the smallest pair
module _ (n : ℕ) (f : ℕ → ℕ → Bool) where
  pair-holds : pair_start n f < n → f (pair_start n f) (pair_end n f) ≡ true
  pair-holds l = least-holds n (f (pair_start n f)) (ltb-true (pair_end n f) n (least-holds n (λ u. ltb (smallest_below n (f u)) n) l))

  pair-none : (x y : ℕ) → x < pair_start n f → y < n → f x y ≡ false
  pair-none x y l k = let h = ltb-false (smallest_below n (f x)) n (least-before n (λ u. ltb (smallest_below n (f u)) n) x l) in least-before n (f x) y (omega arith)

  pair-before : (x y : ℕ) → PairBefore x y (pair_start n f) (pair_end n f) → y < n → f x y ≡ false
  pair-before x y (inl l) k = pair-none x y l k
  pair-before x y (inr p) k = ap (λ (u : ℕ). f u y) p.0 ∙ least-before n (f (pair_start n f)) y p.1

-- ---- corners are below the bound

has-low : {x y z : ℕ} {ts : List Tri} → Has x y z ts → x < bound ts
unfolding bound
has-low (here {t = t} {ts = ts} r) = low r
  where
    low : {x y z : ℕ} → Reads t x y z → x < max (suc t.a) (max (suc t.b) (max (suc t.c) (bound ts)))
    low (r0 p q r) = omega arith
    low (r1 p q r) = omega arith
    low (r2 p q r) = omega arith
has-low (there {t = t} {ts = ts} h) = let l = has-low h in omega arith

module _ (ts : List Tri) where
  pub side-low : (u v : ℕ) → 0 < sides ts u v → (u < bound ts) × (v < bound ts)
  side-low u v p = let h = side-has ts u v p in (has-low h.1, has-low (spin h.1))

  pub use_low : (v : ℕ) → InUse ts v → v < bound ts
  use_low v p = let h = use_has ts v p in has-low h.2

  -- ---- (b), and one ring, tested

  pub paired-once : Paired ts → (x y : ℕ) → sides ts x y ≤ 1
  paired-once paired x y = pick (dec_lt 0 (sides ts x y))
    where
      pick : Dec (0 < sides ts x y) → sides ts x y ≤ 1
      pick (yes p) = omega (arith, paired.once x y p)
      pick (no n) = omega arith

  pub paired_even : Paired ts → (x y : ℕ) → sides ts x y ≡ sides ts y x
  paired_even paired x y = pick (dec_lt 0 (sides ts x y)) (dec_lt 0 (sides ts y x))
    where
      pick : Dec (0 < sides ts x y) → Dec (0 < sides ts y x) → sides ts x y ≡ sides ts y x
      pick (yes p) q = omega (arith, paired.once x y p, paired.back x y p)
      pick (no n) (yes q) = omega (arith, paired.once y x q, paired.back y x q)
      pick (no n) (no m) = omega arith

  -- no side is repeated or lone: (b) holds
  pub none-paired : NoneRepeated ts → ((u v : ℕ) → IsLone ts u v → ⊥) → Paired ts
  none-paired single answered = record { once = once; back = back }
    where
      once : (u v : ℕ) → 0 < sides ts u v → sides ts u v ≡ 1
      once u v p = pick (dec_lt 1 (sides ts u v))
        where
          pick : Dec (1 < sides ts u v) → sides ts u v ≡ 1
          pick (yes q) = absurd (single u v q)
          pick (no n) = omega arith

      back : (u v : ℕ) → 0 < sides ts u v → sides ts v u ≡ 1
      back u v p = pick (ℕ_discrete (sides ts v u) 0)
        where
          pick : Dec (sides ts v u ≡ 0) → sides ts v u ≡ 1
          pick (yes q) = absurd (answered u v (once u v p, q))
          pick (no n) = once v u (omega (arith, n))

  module _ (paired : Paired ts) where
    whole-passes : (v : ℕ) → InUse ts v → Ring (around ts v) → split? ts v ≡ false
    whole-passes v u r = ap (λ (l : List Step). not (empty l)) (nothing_left ts v (paired-once paired) (paired_even paired) u (ring_joined ts v r))

    whole_of : (v : ℕ) → InUse ts v → split? ts v ≡ false → Ring (around ts v)
    whole_of v u e = joined_ring ts v (paired-once paired) (paired_even paired) u (none (leftover (around ts v)) e)
      where
        none : (l : List Step) → not (empty l) ≡ false → l ≡ []
        none [] e = refl
        none (s ∷ l) e = absurd (true≢false e)

    split_of : (v : ℕ) → split? ts v ≡ true → IsSplit ts v
    split_of v e = let u = used (around ts v) e in (u, λ r. true_false e (whole-passes v u r))
      where
        used : (l : List Step) → not (empty (leftover l)) ≡ true → 0 < length l
        used [] e = absurd (false≢true (unfold leftover in e))
        used (s ∷ l) e = omega arith

    -- a ring or none: what is not split is one ring
    pub whole_or : (v : ℕ) → InUse ts v → Dec (Ring (around ts v))
    whole_or v u = pick (split? ts v) refl
      where
        pick : (b : Bool) → split? ts v ≡ b → Dec (Ring (around ts v))
        pick true e = no (split_of v e).1
        pick false e = yes (whole_of v u e)

  -- no corner is split: (c) holds as well
  pub none-manifold : Paired ts → ((v : ℕ) → IsSplit ts v → ⊥) → Manifold ts
  none-manifold paired whole = record { paired = paired; ringed = λ v u. pick v u (whole_or paired v u) }
    where
      pick : (v : ℕ) → InUse ts v → Dec (Ring (around ts v)) → Ring (around ts v)
      pick v u (yes r) = r
      pick v u (no n) = absurd (whole v (u, n))

-- ---- the function finds

module _ (ts : List Tri) where
  lone_of : (u v : ℕ) → lone? ts u v ≡ true → IsLone ts u v
  lone_of u v e = let k = both (eqb (sides ts u v) 1) (eqb (sides ts v u) 0) e in (eqb-true (sides ts u v) 1 k.0, eqb-true (sides ts v u) 0 k.1)

  lone-passes : (u v : ℕ) → IsLone ts u v → lone? ts u v ≡ true
  lone-passes u v p = join (eqb (sides ts u v) 1) (eqb (sides ts v u) 0) (eq-eqb (sides ts u v) 1 p.0) (eq-eqb (sides ts v u) 0 p.1)

  none_repeated : ltb (pair_start (bound ts) (repeated? ts)) (bound ts) ≡ false → NoneRepeated ts
  none_repeated e u v p =
      let n = ltb-false (pair_start (bound ts) (repeated? ts)) (bound ts) e in
      let l = side-low ts u v (omega arith) in
      let q = ltb-false 1 (sides ts u v) (pair-none (bound ts) (repeated? ts) u v (omega arith) l.1) in
      omega arith

  none-lone : ltb (pair_start (bound ts) (lone? ts)) (bound ts) ≡ false → (u v : ℕ) → IsLone ts u v → ⊥
  none-lone e u v p =
      let n = ltb-false (pair_start (bound ts) (lone? ts)) (bound ts) e in
      let l = side-low ts u v (omega (arith, p.0)) in
      true_false (lone-passes u v p) (pair-none (bound ts) (lone? ts) u v (omega arith) l.1)

  found : (a b c : Bool) → ltb (pair_start (bound ts) (repeated? ts)) (bound ts) ≡ a → ltb (pair_start (bound ts) (lone? ts)) (bound ts) ≡ b → ltb (smallest_below (bound ts) (split? ts)) (bound ts) ≡ c
      → Finds ts (cond a (Repeated (pair_start (bound ts) (repeated? ts)) (pair_end (bound ts) (repeated? ts))) (cond b (Lone (pair_start (bound ts) (lone? ts)) (pair_end (bound ts) (lone? ts))) (cond c (Split (smallest_below (bound ts) (split? ts))) Closed)))
  unfolding Finds
  found true b c e f g =
      record {
        holds = ltb-true 1 _ (pair-holds (bound ts) (repeated? ts) (ltb-true (pair_start (bound ts) (repeated? ts)) (bound ts) e));
        smallest = λ x y before p.
            let l = side-low ts x y (omega arith) in
            let q = ltb-false 1 (sides ts x y) (pair-before (bound ts) (repeated? ts) x y before l.1) in
            omega arith;
      }
  found false true c e f g = (
    none_repeated e,
    record {
      holds = lone_of _ _ (pair-holds (bound ts) (lone? ts) (ltb-true (pair_start (bound ts) (lone? ts)) (bound ts) f));
      smallest = λ x y before p.
          let l = side-low ts x y (omega (arith, p.0)) in
          true_false (lone-passes x y p) (pair-before (bound ts) (lone? ts) x y before l.1);
    },
  )
  found false false true e f g =
      let paired = none-paired ts (none_repeated e) (none-lone f) in (
        paired,
        record {
          holds = split_of ts paired _ (least-holds (bound ts) (split? ts) (ltb-true (smallest_below (bound ts) (split? ts)) (bound ts) g));
          smallest = λ x l p. p.1 (whole_of ts paired x p.0 (least-before (bound ts) (split? ts) x l));
        },
      )
  found false false false e f g =
      let paired = none-paired ts (none_repeated e) (none-lone f) in
      let n = ltb-false (smallest_below (bound ts) (split? ts)) (bound ts) g in
      none-manifold ts paired (λ v p. let l = use_low ts v p.0 in p.1 (whole_of ts paired v p.0 (least-before (bound ts) (split? ts) v (omega arith))))

-- `finding` computes a finding
pub finding-finds : (ts : List Tri) → Finds ts (finding ts)
unfolding finding
finding-finds ts = found ts _ _ _ refl refl refl

-- ---- there is one only

smallest-only : {P : ℕ → Type 0} {u v : ℕ} → Smallest P u → Smallest P v → u ≡ v
smallest-only {P} {u} {v} h k = pick (dec_lt u v) (dec_lt v u)
  where
    pick : Dec (u < v) → Dec (v < u) → u ≡ v
    pick (yes l) q = absurd (k.smallest u l h.holds)
    pick (no m) (yes l) = absurd (h.smallest v l k.holds)
    pick (no m) (no n) = omega arith

pair-only : {P : ℕ → ℕ → Type 0} {u v x y : ℕ} → SmallestPair P u v → SmallestPair P x y → (u ≡ x) × (v ≡ y)
pair-only {P} {u} {v} {x} {y} h k = let e = first (dec_lt u x) (dec_lt x u) in (e, second e (dec_lt v y) (dec_lt y v))
  where
    first : Dec (u < x) → Dec (x < u) → u ≡ x
    first (yes l) q = absurd (k.smallest u v (inl l) h.holds)
    first (no m) (yes l) = absurd (h.smallest x y (inl l) k.holds)
    first (no m) (no n) = omega arith

    second : u ≡ x → Dec (v < y) → Dec (y < v) → v ≡ y
    second e (yes l) q = absurd (k.smallest u v (inr (e, l)) h.holds)
    second e (no m) (yes l) = absurd (h.smallest x y (inr (sym e, l)) k.holds)
    second e (no m) (no n) = omega arith

module _ (ts : List Tri) where
  not_repeated : {u v : ℕ} → Paired ts → SmallestPair (IsRepeated ts) u v → ⊥
  not_repeated {u} {v} p h = omega (arith, paired-once ts p u v, h.holds)

  not_lone : {u v : ℕ} → Paired ts → SmallestPair (IsLone ts) u v → ⊥
  not_lone {u} {v} p h = omega (arith, paired_even ts p u v, h.holds.0, h.holds.1)

  not_split : {v : ℕ} → Manifold ts → Smallest (IsSplit ts) v → ⊥
  not_split {v} m h = h.holds.1 (m.ringed v h.holds.0)

  pub finds-only : (f g : Finding) → Finds ts f → Finds ts g → f ≡ g
  unfolding Finds
  finds-only Closed Closed h k = refl
  finds-only Closed (Repeated u v) h k = absurd (not_repeated h.paired k)
  finds-only Closed (Lone u v) h k = absurd (not_lone h.paired k.1)
  finds-only Closed (Split v) h k = absurd (not_split h k.1)
  finds-only (Repeated u v) Closed h k = absurd (not_repeated k.paired h)
  finds-only (Repeated u v) (Repeated x y) h k = let e = pair-only h k in cc
  finds-only (Repeated u v) (Lone x y) h k = absurd (k.0 u v h.holds)
  finds-only (Repeated u v) (Split x) h k = absurd (not_repeated k.0 h)
  finds-only (Lone u v) Closed h k = absurd (not_lone k.paired h.1)
  finds-only (Lone u v) (Repeated x y) h k = absurd (h.0 x y k.holds)
  finds-only (Lone u v) (Lone x y) h k = let e = pair-only h.1 k.1 in cc
  finds-only (Lone u v) (Split x) h k = absurd (not_lone k.0 h.1)
  finds-only (Split v) Closed h k = absurd (not_split k h.1)
  finds-only (Split v) (Repeated x y) h k = absurd (not_repeated h.0 k)
  finds-only (Split v) (Lone x y) h k = absurd (not_lone h.0 k.1)
  finds-only (Split v) (Split x) h k = let e = smallest-only h.1 k.1 in cc

  -- what is found is what `finding` computes
  pub finds-finding : (f : Finding) → Finds ts f → f ≡ finding ts
  finds-finding f h = finds-only f (finding ts) h (finding-finds ts)

  -- acceptance: the finding is `Closed` exactly where (b) and (c) hold
  pub finding-closed : (finding ts ≡ Closed) ↔ Manifold ts
  finding-closed = (
    (λ e. unfold Finds in subst (Finds ts) e (finding-finds ts)),
    λ m. sym (finds-finding Closed (unfold Finds in m)),
  )

-- ---- page twelve

ring_alike : {ts us : List Tri} → Alike ts us → (v : ℕ) → Ring (around ts v) → Ring (around us v)
ring_alike k v r = record { order = r.order; same = Permᴰ.trans r.same (k.turns v); start = r.start; leads = r.leads }

split_alike : {ts us : List Tri} → Alike ts us → (v : ℕ) → IsSplit ts v → IsSplit us v
split_alike k v p = (use_alike k v p.0, λ r. p.1 (ring_alike (alike_sym k) v r))

repeated_alike : {ts us : List Tri} → Alike ts us → (u v : ℕ) → IsRepeated ts u v → IsRepeated us u v
repeated_alike k u v p = subst (λ (n : ℕ). 1 < n) (k.count u v) p

lone-alike : {ts us : List Tri} → Alike ts us → (u v : ℕ) → IsLone ts u v → IsLone us u v
lone-alike k u v p = (sym (k.count u v) ∙ p.0, sym (k.count v u) ∙ p.1)

pair-alike : {P Q : ℕ → ℕ → Type 0} {u v : ℕ} → ((x y : ℕ) → P x y → Q x y) → ((x y : ℕ) → Q x y → P x y) → SmallestPair P u v → SmallestPair Q u v
pair-alike {u = u} {v = v} on back h = record { holds = on u v h.holds; smallest = λ x y before q. h.smallest x y before (back x y q) }

finds-relisted : {ts us : List Tri} → Relisted ts us → (f : Finding) → Finds ts f → Finds us f
unfolding Finds
finds-relisted r Closed h = let t = page_twelve r in record { paired = t.paired.0 h.paired; ringed = t.ringed.0 h.ringed }
finds-relisted r (Repeated u v) h = let k = relisted-alike r in pair-alike (repeated_alike k) (repeated_alike (alike_sym k)) h
finds-relisted r (Lone u v) h =
    let k = relisted-alike r in
    ((λ x y p. h.0 x y (repeated_alike (alike_sym k) x y p)), pair-alike (lone-alike k) (lone-alike (alike_sym k)) h.1)
finds-relisted r (Split v) h =
    let k = relisted-alike r in
    ((page_twelve r).paired.0 h.0, record { holds = split_alike k v h.1.holds; smallest = λ x l p. h.1.smallest x l (split_alike (alike_sym k) x p) })

pub finding-order : {ts us : List Tri} → Relisted ts us → finding ts ≡ finding us
finding-order {ts} {us} r = finds-finding us (finding ts) (finds-relisted r (finding ts) (finding-finds ts))

pub finding-laws : (ts : List Tri) → FindingLaws ts
finding-laws ts = record { computed = finding-finds ts; only = finds-finding ts; closed = finding-closed ts; order = λ us r. sym (finding-order r) }
