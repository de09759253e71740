-- Closed and Surface say the same.
use Prim.Native.Nat.{ℕ, ◌≤◌, ◌<◌}
use mathlib.Core.Path.{◌≡◌, refl, sym, ◌∙◌, ap, subst}
use mathlib.Core.Logic.{◌↔◌, ◌⊎◌, inl, inr}
use mathlib.Core.Bool.{Bool, true, ◌||◌}
use mathlib.Core.List.{List, ◌∷◌, Memᴰ, []}
use native.Mathlib.Omega.{arith}
use native.Mathlib.Decide.{dec_lt}
use lib.Dec.{eqb}
use lib.ListN.{length}
use borrow.Author.Tests.{eqb-true, eq-eqb}
use Rattle.surface.specs.Triangle.{Tri, tri, names}
use Rattle.surface.specs.Closed.{sides, Step, around, InUse, Differ, SameCorners, Differing, Paired, Ringed, Distinct, Closed}
use Rattle.surface.specs.Edit.{place, without}
use Rattle.surface.proofs.Bools.{or_turn, or_flip, or_cases}
use Rattle.surface.proofs.Reading.{hit_yes, sides_cons, Reads, r0, r1, r2, turn, reads_eq, Has, spin, side-has}
use Rattle.surface.proofs.Surface.{Reach, Surface, differ2, differ3}
use Rattle.surface.proofs.FlipCore.{not_both}
use Rattle.surface.proofs.Places.{place-has, Placed, has-place, both-taken}
use Rattle.surface.proofs.Steps.{has-around}
use Rattle.surface.proofs.Around.{ring_joined, nothing_left, joined_ring}

pub reads_names : {t : Tri} {x y z : ℕ} → Reads t x y z → (v : ℕ) → names t v ≡ names (tri x y z) v
reads_names {t} (r0 e f g) v = rw (← e, ← f, ← g)
reads_names {t} (r1 e f g) v = rw (← e, ← f, ← g) (or_turn (eqb t.a v) (eqb t.b v) (eqb t.c v))
reads_names {t} (r2 e f g) v = rw (← e, ← f, ← g) (sym (or_turn (eqb t.c v) (eqb t.a v) (eqb t.b v)))

pub over-names : {s t : Tri} {x y z : ℕ} → Reads s x y z → Reads t x z y → SameCorners s t
over-names {s} {t} {x} {y} {z} r q v = reads_names r v ∙ or_flip (eqb x v) (eqb y v) (eqb z v) ∙ sym (reads_names q v)

-- a corner that a triangle names is one from which it is read
names-read : (t : Tri) (v : ℕ) → names t v ≡ true → (p : ℕ) × (q : ℕ) × Reads t v p q
names-read t v e = pick (or_cases (eqb t.a v) (eqb t.b v) (eqb t.c v) e)
  where
    pick : (eqb t.a v ≡ true) ⊎ ((eqb t.b v ≡ true) ⊎ (eqb t.c v ≡ true)) → (p : ℕ) × (q : ℕ) × Reads t v p q
    pick (inl k) = (t.b, t.c, r0 (eqb-true t.a v k) refl refl)
    pick (inr (inl k)) = (t.c, t.a, r1 (eqb-true t.b v k) refl refl)
    pick (inr (inr k)) = (t.a, t.b, r2 (eqb-true t.c v k) refl refl)

-- one of the other two
names_other : {t : Tri} {x p q v : ℕ} → Reads t x p q → (x ≡ v → ⊥) → names t v ≡ true → (p ≡ v) ⊎ (q ≡ v)
names_other {t} {x} {p} {q} {v} r n e = pick (or_cases (eqb x v) (eqb p v) (eqb q v) (sym (reads_names r v) ∙ e))
  where
    pick : (eqb x v ≡ true) ⊎ ((eqb p v ≡ true) ⊎ (eqb q v ≡ true)) → (p ≡ v) ⊎ (q ≡ v)
    pick (inl k) = absurd (n (eqb-true x v k))
    pick (inr (inl k)) = inl (eqb-true p v k)
    pick (inr (inr k)) = inr (eqb-true q v k)

pub reads_name : {t : Tri} {x y z : ℕ} → Reads t x y z → names t x ≡ true
reads_name {t} {x} {y} {z} r = reads_names r x ∙ ap (λ (k : Bool). k || (eqb y x || eqb z x)) (eq-eqb x x refl)

-- a triangle that names three corners turns by them the one way or the other
pub named_turn : {t : Tri} {x y z : ℕ} → (x ≡ y → ⊥) → (y ≡ z → ⊥) → (z ≡ x → ⊥) → names t x ≡ true → names t y ≡ true → names t z ≡ true
    → (Reads t x y z) ⊎ (Reads t x z y)
named_turn {t} {x} {y} {z} i j k nx ny nz =
    let n = names-read t x nx in
    pick n.0 n.1 n.2 (names_other n.2 i ny) (names_other n.2 (λ e. k (sym e)) nz)
  where
    pick : (p q : ℕ) → Reads t x p q → (p ≡ y) ⊎ (q ≡ y) → (p ≡ z) ⊎ (q ≡ z) → (Reads t x y z) ⊎ (Reads t x z y)
    pick p q r (inl e) (inl f) = absurd (j (sym e ∙ f))
    pick p q r (inl e) (inr f) = inl (reads_eq refl e f r)
    pick p q r (inr e) (inl f) = inr (reads_eq refl f e r)
    pick p q r (inr e) (inr f) = absurd (j (sym e ∙ f))

-- so do two triangles with the same corners
pub same_turn : {s t : Tri} {x y z : ℕ} → Reads s x y z → (x ≡ y → ⊥) → (y ≡ z → ⊥) → (z ≡ x → ⊥) → SameCorners s t → (Reads t x y z) ⊎ (Reads t x z y)
same_turn {x = x} {y} {z} r i j k c = named_turn i j k (sym (c x) ∙ reads_name r) (sym (c y) ∙ reads_name (turn r)) (sym (c z) ∙ reads_name (turn (turn r)))

pub in_use : {v x y : ℕ} {ts : List Tri} → Has v x y ts → InUse ts v
in_use {v} {ts = ts} h = pick (around ts v) (has-around h)
  where
    pick : {s : Step} (l : List Step) → Memᴰ s l → 0 < length l
    pick (s ∷ l) m = omega arith
    pick {s = s} [] m = elim m [ ]

-- rules (a) to (c), by what they say of readings and sides
pub record Fans (ts : List Tri) : Type 0 where
  pub differ : (x y z : ℕ) → Has x y z ts → x ≡ y → ⊥
  pub once : (x y : ℕ) → sides ts x y ≤ 1
  pub even : (x y : ℕ) → sides ts x y ≡ sides ts y x
  pub joined : (v x y : ℕ) → 0 < sides ts v x → 0 < sides ts v y → Reach ts v x y

abbrev pub Apart : List Tri → Type 0
Apart ts = (x y z : ℕ) → Has x y z ts → Has x z y ts → ⊥

pub fans : {ts : List Tri} → Differing ts → Paired ts → Ringed ts → Fans ts
fans {ts} apart paired ringed = record { differ = differ; once = once; even = even; joined = joined }
  where
    differ : (x y z : ℕ) → Has x y z ts → x ≡ y → ⊥
    differ x y z h e = let p = has-place ts h in pick (place ts p.at) (apart p.at p.fits) p.reads
      where
        pick : (t : Tri) → Differ t → Reads t x y z → ⊥
        pick t d (r0 p q r) = d.ab (p ∙ e ∙ sym q)
        pick t d (r1 p q r) = d.bc (p ∙ e ∙ sym q)
        pick t d (r2 p q r) = d.ca (p ∙ e ∙ sym q)

    once : (x y : ℕ) → sides ts x y ≤ 1
    once x y = pick (dec_lt 0 (sides ts x y))
      where
        pick : Dec (0 < sides ts x y) → sides ts x y ≤ 1
        pick (yes p) = omega (arith, paired.once x y p)
        pick (no n) = omega arith

    even : (x y : ℕ) → sides ts x y ≡ sides ts y x
    even x y = pick (dec_lt 0 (sides ts x y)) (dec_lt 0 (sides ts y x))
      where
        pick : Dec (0 < sides ts x y) → Dec (0 < sides ts y x) → sides ts x y ≡ sides ts y x
        pick (yes p) q = omega (arith, paired.once x y p, paired.back x y p)
        pick (no n) (yes q) = omega (arith, paired.back y x q)
        pick (no n) (no m) = omega arith

    joined : (v x y : ℕ) → 0 < sides ts v x → 0 < sides ts v y → Reach ts v x y
    joined v x y p q = let h = side-has ts v x p in ring_joined ts v (ringed v (in_use h.1)) x y p q

-- rule (d) says that no two triangles turn against one another
pub distinct_apart : {ts : List Tri} → Fans ts → Distinct ts → Apart ts
distinct_apart {ts} s c x y z h k = pick (has-place ts h) (has-place ts k)
  where
    pick : Placed ts x y z → Placed ts x z y → ⊥
    pick p q = case (dec_lt p.at q.at) (dec_lt q.at p.at)
      where
        case : Dec (p.at < q.at) → Dec (q.at < p.at) → ⊥
        case (yes l) m = c p.at q.at l q.fits (over-names p.reads q.reads)
        case (no n) (yes l) = c q.at p.at l p.fits (over-names q.reads p.reads)
        case (no n) (no m) =
            let e : p.at ≡ q.at = omega arith in
            not_both (s.differ x y z h) (s.differ y z x (spin h)) (s.differ z x y (spin (spin h))) p.reads (subst (λ (i : ℕ). Reads (place ts i) x z y) (sym e) q.reads)

pub apart_distinct : {ts : List Tri} → Fans ts → Apart ts → Distinct ts
apart_distinct {ts} s apart i j l m c =
    let t = place ts i in
    let r : Reads t t.a t.b t.c = r0 refl refl refl in
    let h = place-has ts i (omega arith) r in
    pick t r h (same_turn r (s.differ _ _ _ h) (s.differ _ _ _ (spin h)) (s.differ _ _ _ (spin (spin h))) c)
  where
    pick : (t : Tri) → Reads (place ts i) t.a t.b t.c → Has t.a t.b t.c ts
        → (Reads (place ts j) t.a t.b t.c) ⊎ (Reads (place ts j) t.a t.c t.b) → ⊥
    pick t r h (inl q) =
        let rest = without i (without j ts) in
        let k = both-taken ts i j l m r q in
        omega (
          arith,
          s.once t.a t.b,
          k.count t.a t.b,
          sides_cons (tri t.a t.b t.c) (tri t.a t.b t.c ∷ rest) t.a t.b,
          sides_cons (tri t.a t.b t.c) rest t.a t.b,
          hit_yes t.a t.b t.a t.b refl refl,
        )
    pick t r h (inr q) = apart t.a t.b t.c h (place-has ts j m q)

pub closed_surface_lem : {ts : List Tri} → Closed ts → Surface ts
closed_surface_lem {ts} c =
    let s = fans c.differ c.paired c.ringed in
    record { differ = s.differ; once = s.once; even = s.even; joined = s.joined; apart = distinct_apart s c.distinct }

pub surface_closed : {ts : List Tri} → Surface ts → Closed ts
surface_closed {ts} s = record {
  differ = λ i l. let h = place-has ts i l (r0 refl refl refl) in record { ab = s.differ _ _ _ h; bc = differ2 s h; ca = differ3 s h };
  paired = record { once = λ u v p. omega (arith, s.once u v); back = λ u v p. omega (arith, s.once u v, s.even u v) };
  ringed = λ v u. joined_ring ts v s.once s.even u (nothing_left ts v s.once s.even u (s.joined v));
  distinct = apart_distinct (record { differ = s.differ; once = s.once; even = s.even; joined = s.joined }) s.apart;
}

pub closed_iff : (ts : List Tri) → Closed ts ↔ Surface ts
closed_iff ts = (closed_surface_lem, surface_closed)
