-- `valid` taken apart and put together: masks, faces and points of a mesh that `smooth_impl` takes.
use Prim.Native.Nat.{ℕ, zero, suc, ◌+◌, ◌*◌, ◌/◌, ◌≤◌, ◌<◌, min}
use mathlib.Core.Path.{◌≡◌, refl, sym, ◌∙◌, ap, subst}
use mathlib.Core.Bool.{Bool, true, false, not, ◌&&◌, ◌||◌}
use mathlib.Core.List.{List, [], ◌∷◌}
use native.Mathlib.Omega.{arith}
use lib.Arith.{bin_ind}
use lib.Bits.{bit_and, and_step}
use lib.Dec.{eqb, ltb}
use lib.Ieee.{Float, nan}
use lib.ListN.{length, get_or}
use borrow.Author.Tests.{eqb-true, eq-eqb, ne_eqb, ltb-true, lt-ltb}
use Rattle.float.specs.Order.{is_finite}
use Rattle.surface.specs.Triangle.{Tri}
use Rattle.surface.specs.Closed.{Differ, Closed}
use Rattle.surface.specs.Check.{every}
use Rattle.surface.specs.Edit.{place}
use Rattle.surface.proofs.Bools.{both, join, not_true, true_false}
use Rattle.surface.proofs.Reading.{Reads, r0, r1, r2}
use Rattle.surface.proofs.Places.{has-place}
use Rattle.surface.proofs.Euler.{use_has}
use Rattle.history.specs.History.{Pair}
use Rattle.oracle.specs.Points.{gathered}
use Rattle.oracle.specs.Round.{Mesh, count}
use Rattle.original.specs.Maps.{mask}
use Rattle.original.specs.Improve.{good_face, conflict, compatible, valid}
use Rattle.original.proofs.Sets.{or_left, or_right}
use Rattle.original.proofs.Masks.{Few, digit, no_digits}
use Rattle.original.proofs.Rounds.{Fine}

-- ---- masks

and_among : (a b : ℕ) → ((k : ℕ) → digit k b ≤ digit k a) → bit_and a b ≡ b
and_among = bin_ind (λ (n : ℕ). (b : ℕ) → ((k : ℕ) → digit k b ≤ digit k n) → bit_and n b ≡ b)
    (λ b h. sym (no_digits b (λ k. subst (λ (d : ℕ). digit k b ≤ d) (digit-none k) (h k))))
    (λ n ih b h. let z = ih (b / 2) (λ k. h (suc k)) in let w = h 0 in let v = and_step n b in omega arith)
  where
    digit-none : (k : ℕ) → digit k 0 ≡ 0
    digit-none zero = refl
    digit-none (suc k) = digit-none k

pub digit_and : (k a b : ℕ) → digit k (bit_and a b) ≡ min (digit k a) (digit k b)
digit_and zero a b = let v = and_step a b in omega arith
digit_and (suc k) a b = let z : bit_and a b / 2 ≡ bit_and (a / 2) (b / 2) = omega (arith, and_step a b) in ap (digit k) z ∙ digit_and k (a / 2) (b / 2)

-- with more bits set, m & c == c holds all the more
more_bits : (a b c : ℕ) → ((k : ℕ) → digit k a ≤ digit k b) → eqb (bit_and a c) c ≡ true → eqb (bit_and b c) c ≡ true
more_bits a b c h e =
    let z = eqb-true (bit_and a c) c e in
    eq-eqb (bit_and b c) c (and_among b c (λ k. let w = sym (digit_and k a c) ∙ ap (digit k) z in let v = h k in omega arith))

pub conflict-more : (a b : ℕ) → ((k : ℕ) → digit k a ≤ digit k b) → conflict a ≡ true → conflict b ≡ true
conflict-more a b h e = pick (eqb (bit_and a 3) 3) refl (eqb (bit_and a 12) 12) refl (eqb (bit_and a 48) 48) refl
  where
    pick : (x : Bool) → eqb (bit_and a 3) 3 ≡ x → (y : Bool) → eqb (bit_and a 12) 12 ≡ y → (z : Bool) → eqb (bit_and a 48) 48 ≡ z → conflict b ≡ true
    pick true p y q z r = or_left (eqb (bit_and b 3) 3) (eqb (bit_and b 12) 12 || (eqb (bit_and b 48) 48 || eqb (bit_and b 192) 192)) (more_bits a b 3 h p)
    pick false p true q z r = or_right (eqb (bit_and b 3) 3) (eqb (bit_and b 12) 12 || (eqb (bit_and b 48) 48 || eqb (bit_and b 192) 192))
        (or_left (eqb (bit_and b 12) 12) (eqb (bit_and b 48) 48 || eqb (bit_and b 192) 192) (more_bits a b 12 h q))
    pick false p false q true r = or_right (eqb (bit_and b 3) 3) (eqb (bit_and b 12) 12 || (eqb (bit_and b 48) 48 || eqb (bit_and b 192) 192))
        (or_right (eqb (bit_and b 12) 12) (eqb (bit_and b 48) 48 || eqb (bit_and b 192) 192) (or_left (eqb (bit_and b 48) 48) (eqb (bit_and b 192) 192) (more_bits a b 48 h r)))
    pick false p false q false r = or_right (eqb (bit_and b 3) 3) (eqb (bit_and b 12) 12 || (eqb (bit_and b 48) 48 || eqb (bit_and b 192) 192))
        (or_right (eqb (bit_and b 12) 12) (eqb (bit_and b 48) 48 || eqb (bit_and b 192) 192) (or_right (eqb (bit_and b 48) 48) (eqb (bit_and b 192) 192) (more_bits a b 192 h (rw (p, q, r) at e))))

pub compatible-at : (p : Pair) (n v : ℕ) → v < n → compatible p n ≡ true → conflict (mask p.tris p.labels v) ≡ false
unfolding compatible
compatible-at p zero v l e = absurd (omega arith)
compatible-at p (suc n) v l e = pick (eqb v n) refl (compatible-at p n v)
  where
    w : (not (conflict (mask p.tris p.labels n)) ≡ true) × (compatible p n ≡ true)
    w = both (not (conflict (mask p.tris p.labels n))) (compatible p n) e

    pick : (k : Bool) → eqb v n ≡ k → (v < n → compatible p n ≡ true → conflict (mask p.tris p.labels v) ≡ false) → conflict (mask p.tris p.labels v) ≡ false
    pick true f ih = ap (λ (x : ℕ). conflict (mask p.tris p.labels x)) (eqb-true v n f) ∙ not_true (conflict (mask p.tris p.labels n)) w.0
    pick false f ih = ih (less (λ q. true_false (eq-eqb v n q) f)) w.1
      where
        less : (v ≡ n → ⊥) → v < n
        less i = omega arith

pub all-compatible : (p : Pair) (n : ℕ) → ((v : ℕ) → v < n → conflict (mask p.tris p.labels v) ≡ false) → compatible p n ≡ true
unfolding compatible
all-compatible p zero h = refl
all-compatible p (suc n) h = join (not (conflict (mask p.tris p.labels n))) (compatible p n) (ap not (h n (omega arith))) (all-compatible p n (λ v l. h v (omega arith)))

-- ---- faces and points

every-place : {A : Type 0} (f : A → Bool) (l : List A) (d : A) (i : ℕ) → i < length l → every f l ≡ true → f (get_or l i d) ≡ true
unfolding every
every-place f [] d i m e = absurd (omega arith)
every-place f (x ∷ l) d zero m e = (both (f x) (every f l) e).0
every-place f (x ∷ l) d (suc i) m e = every-place f l d i (omega arith) (both (f x) (every f l) e).1

pub place-every : {A : Type 0} (f : A → Bool) (l : List A) (d : A) → ((i : ℕ) → i < length l → f (get_or l i d) ≡ true) → every f l ≡ true
unfolding every
place-every f [] d h = refl
place-every f (x ∷ l) d h = join (f x) (every f l) (h 0 (omega arith)) (place-every f l d (λ i m. h (suc i) (omega arith)))

good-below : (n : ℕ) (t : Tri) {x y z : ℕ} → good_face n t ≡ true → Reads t x y z → x < n
good-below n t e r = go (ltb-true t.a n w.0) (ltb-true t.b n v.0) (ltb-true t.c n v.1) r
  where
    u : (ltb t.a n && (ltb t.b n && ltb t.c n)) ≡ true
    u = (both (ltb t.a n && (ltb t.b n && ltb t.c n)) (not (eqb t.a t.b) && (not (eqb t.b t.c) && not (eqb t.a t.c))) e).0

    w : (ltb t.a n ≡ true) × ((ltb t.b n && ltb t.c n) ≡ true)
    w = both (ltb t.a n) (ltb t.b n && ltb t.c n) u

    v : (ltb t.b n ≡ true) × (ltb t.c n ≡ true)
    v = both (ltb t.b n) (ltb t.c n) w.1

    go : {x y z : ℕ} → t.a < n → t.b < n → t.c < n → Reads t x y z → x < n
    go i j k (r0 p q s) = omega arith
    go i j k (r1 p q s) = omega arith
    go i j k (r2 p q s) = omega arith

pub good-all : (n : ℕ) (t : Tri) → Differ t → t.a < n → t.b < n → t.c < n → good_face n t ≡ true
good-all n t d i j k =
    rw (lt-ltb t.a n i, lt-ltb t.b n j, lt-ltb t.c n k, ne_eqb t.a t.b d.ab, ne_eqb t.b t.c d.bc, ne_eqb t.a t.c (λ e. d.ca (sym e))) refl

pub gathered-finite : (ps : List Float) (vs : List ℕ) → every is_finite ps ≡ true → ((i : ℕ) → i < length vs → get_or vs i 0 < length ps / 3) → every is_finite (gathered ps vs) ≡ true
unfolding gathered every
gathered-finite ps [] e h = refl
gathered-finite ps (v ∷ vs) e h =
    let l = h 0 (omega arith) in
    join (is_finite (get_or ps (v * 3) nan)) _ (every-place is_finite ps nan (v * 3) (omega arith) e)
    (join (is_finite (get_or ps (v * 3 + 1) nan)) _ (every-place is_finite ps nan (v * 3 + 1) (omega arith) e)
    (join (is_finite (get_or ps (v * 3 + 2) nan)) _ (every-place is_finite ps nan (v * 3 + 2) (omega arith) e)
    (gathered-finite ps vs e (λ i m. h (suc i) (omega arith)))))

-- ---- what is judged

pub record Judged (m : Mesh) : Type 0 where
  pub lengths : length m.pair.tris ≡ length m.pair.labels
  pub few : Few m.pair.labels
  pub finite : every is_finite m.points ≡ true
  pub faces : every (good_face (count m)) m.pair.tris ≡ true
  pub masks : compatible m.pair (count m) ≡ true

pub judged_of : (m : Mesh) → valid m ≡ true → Judged m
unfolding valid
judged_of m e =
    let a = both _ _ e in
    let b = both _ _ a.1 in
    let c = both _ _ b.1 in
    let d = both _ _ c.1 in
    record { lengths = eqb-true _ _ a.0; few = b.0; finite = c.0; faces = d.0; masks = d.1 }

pub valid_of : (m : Mesh) → Judged m → valid m ≡ true
unfolding valid
valid_of m j = join _ _ (eq-eqb _ _ j.lengths) (join _ _ j.few (join _ _ j.finite (join _ _ j.faces j.masks)))

pub fine_of : (m : Mesh) → Closed m.pair.tris → Judged m → Fine m
fine_of m c j = record {
  closed = c;
  labelled = sym j.lengths;
  few = j.few;
  below = λ v i.
      let h = use_has m.pair.tris v i in
      let q = has-place m.pair.tris h.2 in
      good-below (count m) (place m.pair.tris q.at) (every-place (good_face (count m)) m.pair.tris _ q.at q.fits j.faces) q.reads;
}
