-- In a closed list whose corners are below n the keys of `edges`, in their order, are the sides as `rising` of crate oracle lists them.
use Prim.Native.Nat.{ℕ, zero, suc, ◌+◌, ◌≤◌, ◌<◌}
use mathlib.Core.Path.{◌≡◌, refl, sym, ◌∙◌, ap, ap₂, subst}
use mathlib.Core.Logic.{◌⊎◌, inl, inr}
use mathlib.Core.Bool.{Bool, true, false, ◌&&◌, ◌||◌, cond, false≢true}
use mathlib.Core.List.{List, [], ◌∷◌, ◌++◌}
use native.Mathlib.Omega.{arith}
use native.Mathlib.Decide.{ℕ_discrete}
use lib.Dec.{eqb, leb, ltb}
use lib.ListN.{length}
use borrow.Author.Tests.{eqb-true, eq-eqb, ltb-true, lt-ltb, leb-true, leb-false}
use Rattle.surface.specs.Triangle.{Tri}
use Rattle.surface.specs.Closed.{sides, Differ, Closed}
use Rattle.surface.specs.Edit.{place}
use Rattle.surface.specs.Euler.{Below}
use Rattle.surface.proofs.Bools.{both, join, or_second, true_false}
use Rattle.surface.proofs.Reading.{spin, side-has}
use Rattle.surface.proofs.Bridge.{closed_surface_lem, in_use}
use Rattle.rounds.specs.Choices.{Side}
use Rattle.oracle.specs.Rising.{side, joined, row_of, rows_of, rising}
use Rattle.original.specs.Sets.{push}
use Rattle.original.specs.Maps.{entry, key_of, keys_from, keys, keyed, Spot, spot, spots}
use Rattle.original.proofs.Sets.{or_left, or_right}
use Rattle.original.proofs.Spots.{side-spots, none-spots}
use Rattle.original.proofs.Keys.{Less, first, second, among, Rises, unique, cases, entry-among, entry-rises}

-- ---- the keys

abbrev some? : List Spot → Bool
some? l = ltb 0 (length l)

some-push : (k : Bool) (x : Spot) (l : List Spot) → some? (push k x l) ≡ (k || some? l)
some-push true x l = lt-ltb 0 (suc (length l)) (omega arith)
some-push false x l = refl

keys-among : (i : ℕ) (ks : List Side) (ts : List Tri) (a b : ℕ) → among (keys_from ks ts) a b ≡ (among ks a b || some? (spots i ts a b))
unfolding keys_from spots
keys-among i ks [] a b = none (among ks a b)
  where
    none : (p : Bool) → p ≡ (p || false)
    none true = refl
    none false = refl
keys-among i ks (t ∷ ts) a b =
    let x = key_of t.a t.b in
    let y = key_of t.b t.c in
    let z = key_of t.c t.a in
    let p = keyed t.a t.b a b in
    let q = keyed t.b t.c a b in
    let r = keyed t.c t.a a b in
    keys-among (suc i) (entry z (entry y (entry x ks))) ts a b
    ∙ ap (λ (k : Bool). k || some? (spots (suc i) ts a b)) (entry-among z (entry y (entry x ks)) a b ∙ ap (λ (k : Bool). r || k) (entry-among y (entry x ks) a b ∙ ap (λ (k : Bool). q || k) (entry-among x ks a b)))
    ∙ turn p q r (among ks a b) (some? (spots (suc i) ts a b))
    ∙ ap (λ (k : Bool). among ks a b || k) (sym (some-push p (spot i 0) (push q (spot i 1) (push r (spot i 2) (spots (suc i) ts a b)))
    ∙ ap (λ (k : Bool). p || k) (some-push q (spot i 1) (push r (spot i 2) (spots (suc i) ts a b)) ∙ ap (λ (k : Bool). q || k) (some-push r (spot i 2) (spots (suc i) ts a b)))))
  where
    turn : (p q r k s : Bool) → ((r || (q || (p || k))) || s) ≡ (k || (p || (q || (r || s))))
    turn true true true true s = refl
    turn true true true false s = refl
    turn true true false true s = refl
    turn true true false false s = refl
    turn true false true true s = refl
    turn true false true false s = refl
    turn true false false true s = refl
    turn true false false false s = refl
    turn false true true true s = refl
    turn false true true false s = refl
    turn false true false true s = refl
    turn false true false false s = refl
    turn false false true true s = refl
    turn false false true false s = refl
    turn false false false true s = refl
    turn false false false false s = refl

keys_rise : (ks : List Side) (ts : List Tri) → Rises ks → Rises (keys_from ks ts)
unfolding keys_from
keys_rise ks [] r = r
keys_rise ks (t ∷ ts) r =
    let one = entry (key_of t.a t.b) ks in
    let two = entry (key_of t.b t.c) one in
    keys_rise (entry (key_of t.c t.a) two) ts (entry-rises (key_of t.c t.a) two (entry-rises (key_of t.b t.c) one (entry-rises (key_of t.a t.b) ks r)))

-- the first number of a key is the lesser
keyed-up : (x y a b : ℕ) → (x ≡ y → ⊥) → keyed x y a b ≡ true → a < b
keyed-up x y a b n e = pick (leb x y) refl
  where
    ends : (u v : ℕ) → u ≤ v → (u ≡ v → ⊥) → (eqb u a && eqb v b) ≡ true → a < b
    ends u v l n e = let m = both (eqb u a) (eqb v b) e in less u v l n (eqb-true u a m.0) (eqb-true v b m.1)
      where
        less : (u v : ℕ) → u ≤ v → (u ≡ v → ⊥) → u ≡ a → v ≡ b → a < b
        less u v l n p q = omega arith

    pick : (k : Bool) → leb x y ≡ k → a < b
    pick true f = ends x y (leb-true x y f) n (rw f at e)
    pick false f = let l : y ≤ x = omega (arith, leb-false x y f) in ends y x l (λ q. n (sym q)) (rw f at e)

spots-up : (i : ℕ) (ts : List Tri) → ((j : ℕ) → j < length ts → Differ (place ts j)) → (a b : ℕ) → some? (spots i ts a b) ≡ true → a < b
unfolding spots
spots-up i [] d a b e = absurd (false≢true e)
spots-up i (t ∷ ts) d a b e = pick (keyed t.a t.b a b) refl (keyed t.b t.c a b) refl (keyed t.c t.a a b) refl (spots-up (suc i) ts (λ j l. d (suc j) (omega arith)) a b)
  where
    w : Differ t
    w = d 0 (omega arith)

    pick : (p : Bool) → keyed t.a t.b a b ≡ p → (q : Bool) → keyed t.b t.c a b ≡ q → (r : Bool) → keyed t.c t.a a b ≡ r → (some? (spots (suc i) ts a b) ≡ true → a < b) → a < b
    pick true f q g r h ih = keyed-up t.a t.b a b w.ab f
    pick false f true g r h ih = keyed-up t.b t.c a b w.bc g
    pick false f false g true h ih = keyed-up t.c t.a a b w.ca h
    pick false f false g false h ih = ih (rw (f, g, h) at e)

-- ---- the sides in rising order

abbrev is_side : List Tri → ℕ → ℕ → Bool
is_side ts a b = ltb a b && joined ts a b

record Found (ts : List Tri) (x y a b : ℕ) : Type 0 where
  here : x ≡ a
  low : y ≤ b
  on : is_side ts a b ≡ true

row-among : (ts : List Tri) (x y d a b : ℕ) → among (row_of ts x y d) a b ≡ true → Found ts x y a b
unfolding row_of among
row-among ts x y zero a b e = absurd (false≢true e)
row-among ts x y (suc d) a b e = pick (ltb x y && joined ts x y) refl (row-among ts x (suc y) d a b)
  where
    later : Found ts x (suc y) a b → Found ts x y a b
    later f = record { here = f.here; low = omega (arith, f.low); on = f.on }

    pick : (k : Bool) → (ltb x y && joined ts x y) ≡ k → (among (row_of ts x (suc y) d) a b ≡ true → Found ts x (suc y) a b) → Found ts x y a b
    pick true f ih = split (cases (side x y) (row_of ts x (suc y) d) a b (rw f at e))
      where
        split : ((x ≡ a) × (y ≡ b)) ⊎ (among (row_of ts x (suc y) d) a b ≡ true) → Found ts x y a b
        split (inl q) = record { here = q.0; low = omega (arith, q.1); on = sym (ap₂ (λ (u v : ℕ). is_side ts u v) q.0 q.1) ∙ f }
        split (inr q) = later (ih q)
    pick false f ih = later (ih (rw f at e))

row-whole : (ts : List Tri) (a b y d : ℕ) → is_side ts a b ≡ true → y ≤ b → b < y + d → among (row_of ts a y d) a b ≡ true
unfolding row_of among
row-whole ts a b y zero e l m = absurd (omega arith)
row-whole ts a b y (suc d) e l m = pick (ℕ_discrete y b) (is_side ts a y) refl (λ k. row-whole ts a b (suc y) d e k (omega arith))
  where
    more : (y ≡ b → ⊥) → suc y ≤ b
    more n = omega arith

    pick : Dec (y ≡ b) → (k : Bool) → is_side ts a y ≡ k → (suc y ≤ b → among (row_of ts a (suc y) d) a b ≡ true)
        → among (cond (is_side ts a y) (side a y ∷ row_of ts a (suc y) d) (row_of ts a (suc y) d)) a b ≡ true
    pick (yes q) true f ih = rw (f, eq-eqb a a refl, eq-eqb y b q) refl
    pick (yes q) false f ih = absurd (true_false (ap (is_side ts a) q ∙ e) f)
    pick (no n) true f ih = rw f (or_right (eqb a a && eqb y b) (among (row_of ts a (suc y) d) a b) (ih (more n)))
    pick (no n) false f ih = rw f (ih (more n))

row-rises : (ts : List Tri) (x y d : ℕ) → Rises (row_of ts x y d)
unfolding row_of
row-rises ts x y zero = tt
row-rises ts x y (suc d) = pick (ltb x y && joined ts x y) (row-rises ts x (suc y) d)
  where
    pick : (k : Bool) → Rises (row_of ts x (suc y) d) → Rises (cond k (side x y ∷ row_of ts x (suc y) d) (row_of ts x (suc y) d))
    pick true ih = ((λ a b e. let f = row-among ts x (suc y) d a b e in second f.here f.low), ih)
    pick false ih = ih

among-append : (l m : List Side) (a b : ℕ) → among (l ++ m) a b ≡ true → (among l a b ≡ true) ⊎ (among m a b ≡ true)
unfolding among
among-append [] m a b e = inr e
among-append (x ∷ l) m a b e = pick (eqb x.one a && eqb x.two b) refl (among-append l m a b)
  where
    later : (among l a b ≡ true) ⊎ (among m a b ≡ true) → (among (x ∷ l) a b ≡ true) ⊎ (among m a b ≡ true)
    later (inl q) = inl (or_right (eqb x.one a && eqb x.two b) (among l a b) q)
    later (inr q) = inr q

    pick : (k : Bool) → (eqb x.one a && eqb x.two b) ≡ k → (among (l ++ m) a b ≡ true → (among l a b ≡ true) ⊎ (among m a b ≡ true)) → (among (x ∷ l) a b ≡ true) ⊎ (among m a b ≡ true)
    pick true f ih = inl (or_left (eqb x.one a && eqb x.two b) (among l a b) f)
    pick false f ih = later (ih (or_second (eqb x.one a && eqb x.two b) (among (l ++ m) a b) e f))

append_left : (l m : List Side) (a b : ℕ) → among l a b ≡ true → among (l ++ m) a b ≡ true
unfolding among
append_left [] m a b e = absurd (false≢true e)
append_left (x ∷ l) m a b e = pick (cases x l a b e) (append_left l m a b)
  where
    pick : ((x.one ≡ a) × (x.two ≡ b)) ⊎ (among l a b ≡ true) → (among l a b ≡ true → among (l ++ m) a b ≡ true) → among (x ∷ (l ++ m)) a b ≡ true
    pick (inl q) ih = rw (eq-eqb x.one a q.0, eq-eqb x.two b q.1) refl
    pick (inr q) ih = or_right (eqb x.one a && eqb x.two b) (among (l ++ m) a b) (ih q)

append_right : (l m : List Side) (a b : ℕ) → among m a b ≡ true → among (l ++ m) a b ≡ true
unfolding among
append_right [] m a b e = e
append_right (x ∷ l) m a b e = or_right (eqb x.one a && eqb x.two b) (among (l ++ m) a b) (append_right l m a b e)

append-rises : (l m : List Side) → Rises l → Rises m → ((a b c d : ℕ) → among l a b ≡ true → among m c d ≡ true → Less a b c d) → Rises (l ++ m)
unfolding among
append-rises [] m r q h = q
append-rises (x ∷ l) m r q h = (
  (λ a b e. pick a b (among-append l m a b e)),
  append-rises l m r.1 q (λ a b c d i j. h a b c d (or_right (eqb x.one a && eqb x.two b) (among l a b) i) j),
)
  where
    own : (eqb x.one x.one && eqb x.two x.two || among l x.one x.two) ≡ true
    own = rw (eq-eqb x.one x.one refl, eq-eqb x.two x.two refl) refl

    pick : (a b : ℕ) → (among l a b ≡ true) ⊎ (among m a b ≡ true) → Less x.one x.two a b
    pick a b (inl i) = r.0 a b i
    pick a b (inr j) = h x.one x.two a b own j

record Row (ts : List Tri) (x a b : ℕ) : Type 0 where
  low : x ≤ a
  on : is_side ts a b ≡ true

rows-among : (ts : List Tri) (n x d a b : ℕ) → among (rows_of ts n x d) a b ≡ true → Row ts x a b
unfolding rows_of among
rows-among ts n x zero a b e = absurd (false≢true e)
rows-among ts n x (suc d) a b e = pick (among-append (row_of ts x 0 n) (rows_of ts n (suc x) d) a b e) (rows-among ts n (suc x) d a b)
  where
    pick : (among (row_of ts x 0 n) a b ≡ true) ⊎ (among (rows_of ts n (suc x) d) a b ≡ true) → (among (rows_of ts n (suc x) d) a b ≡ true → Row ts (suc x) a b) → Row ts x a b
    pick (inl i) ih = let f = row-among ts x 0 n a b i in record { low = omega (arith, f.here); on = f.on }
    pick (inr i) ih = let f = ih i in record { low = omega (arith, f.low); on = f.on }

rows_whole : (ts : List Tri) (n x d a b : ℕ) → is_side ts a b ≡ true → b < n → x ≤ a → a < x + d → among (rows_of ts n x d) a b ≡ true
unfolding rows_of
rows_whole ts n x zero a b e k l m = absurd (omega arith)
rows_whole ts n x (suc d) a b e k l m = pick (ℕ_discrete x a) (λ q. rows_whole ts n (suc x) d a b e k q (omega arith))
  where
    more : (x ≡ a → ⊥) → suc x ≤ a
    more i = omega arith

    pick : Dec (x ≡ a) → (suc x ≤ a → among (rows_of ts n (suc x) d) a b ≡ true) → among (row_of ts x 0 n ++ rows_of ts n (suc x) d) a b ≡ true
    pick (yes q) ih = append_left (row_of ts x 0 n) (rows_of ts n (suc x) d) a b (subst (λ (z : ℕ). among (row_of ts z 0 n) a b ≡ true) (sym q) (row-whole ts a b 0 n e (omega arith) (omega arith)))
    pick (no i) ih = append_right (row_of ts x 0 n) (rows_of ts n (suc x) d) a b (ih (more i))

rows-rises : (ts : List Tri) (n x d : ℕ) → Rises (rows_of ts n x d)
unfolding rows_of
rows-rises ts n x zero = tt
rows-rises ts n x (suc d) = append-rises (row_of ts x 0 n) (rows_of ts n (suc x) d) (row-rises ts x 0 n) (rows-rises ts n (suc x) d)
    (λ a b c e i j. let f = row-among ts x 0 n a b i in let g = rows-among ts n (suc x) d c e j in first (omega (arith, f.here, g.low)))

-- ---- the two are one list

pub keys-rising : {ts : List Tri} → Closed ts → (n : ℕ) → Below n ts → keys ts ≡ rising ts n
unfolding among
keys-rising {ts} c n l = unique (keys ts) (rising ts n) (keys_rise [] ts tt) (rows-rises ts n 0 n) to from
  where
    to : (a b : ℕ) → among (keys ts) a b ≡ true → among (rising ts n) a b ≡ true
    to a b e =
        let s = sym (keys-among 0 [] ts a b) ∙ e in
        let low = spots-up 0 ts c.differ a b s in
        pick low (sides ts a b) refl s
      where
        pick : a < b → (m : ℕ) → sides ts a b ≡ m → some? (spots 0 ts a b) ≡ true → among (rising ts n) a b ≡ true
        pick low zero f s = absurd (true_false s (ap some? (none-spots a b low c f)))
        pick low (suc m) f s =
            let g : 0 < sides ts a b = omega arith in
            let h = side-has ts a b g in
            let u = l a (in_use h.1) in
            let v = l b (in_use (spin h.1)) in
            rows_whole ts n 0 n a b (join _ _ (lt-ltb a b low) (lt-ltb 0 (sides ts a b + sides ts b a) (omega arith))) v (omega arith) (omega arith)

    from : (a b : ℕ) → among (rising ts n) a b ≡ true → among (keys ts) a b ≡ true
    from a b e =
        let f = both (ltb a b) (joined ts a b) (rows-among ts n 0 n a b e).on in
        let low = ltb-true a b f.0 in
        let g : 0 < sides ts a b = omega (arith, ltb-true 0 (sides ts a b + sides ts b a) f.1, (closed_surface_lem c).even a b) in
        keys-among 0 [] ts a b ∙ ap some? (side-spots a b low c g)
