-- Going on from a crossed side: on a closed surface `next_crossed` permutes the crossed sides, and `next_crossed` from the other kind undoes it.
use Prim.Native.Nat.{ℕ, ◌<◌, min, max}
use mathlib.Core.Path.{◌≡◌, refl, sym, ◌∙◌, ap, ap₂, subst}
use mathlib.Core.Logic.{◌⊎◌, inl, inr}
use mathlib.Core.Bool.{Bool, true, false, not, cond, beq, not-not, true≢false, false≢true}
use mathlib.Core.List.{List, [], ◌∷◌}
use native.Mathlib.Omega.{arith}
use native.Mathlib.Decide.{dec_lt}
use Rattle.surface.specs.Triangle.{Tri, runs}
use Rattle.surface.specs.Closed.{sides}
use Rattle.surface.proofs.Reading.{Reads, r0, r1, r2, turn, reads_eq, Has, here, there, spin, has-side, side-has}
use Rattle.surface.proofs.Surface.{Surface, next_of}
use Rattle.surface.proofs.Hinged.{runs_no, opposite_reads}
use Rattle.outlines.specs.Side.{Side, side_of, tally, Ascending}
use Rattle.outlines.specs.Crossing.{crossed?, insert_crossed, crossings, apex_of, end_of, next_crossed}
use Rattle.outlines.proofs.Sides.{side_path, In, insert-new, insert-old, insert-only, insert-rises, rises-once}
use Rattle.outlines.proofs.Cycles.{Permutes}

-- ---- sides by their ends

pub side_swap : (x y : ℕ) → side_of x y ≡ side_of y x
side_swap x y = side_path (omega arith) (omega arith)

pub data Ends (x y : ℕ) : Type 0 where
  rising : min x y ≡ x → max x y ≡ y → Ends x y
  falling : min x y ≡ y → max x y ≡ x → Ends x y

pub ends : (x y : ℕ) → Ends x y
ends x y = go (dec_lt x y)
  where
    go : Dec (x < y) → Ends x y
    go (yes l) = rising (omega arith) (omega arith)
    go (no n) = falling (omega arith) (omega arith)

pub not_beq : (p q : Bool) → not (beq p q) ≡ true → q ≡ not p
not_beq true true e = absurd (false≢true e)
not_beq true false e = refl
not_beq false true e = refl
not_beq false false e = absurd (false≢true e)

beq_not : (p q : Bool) → q ≡ not p → not (beq p q) ≡ true
beq_not true q e = rw e refl
beq_not false q e = rw e refl

pub beq_same : (p q : Bool) → p ≡ q → beq p q ≡ true
beq_same true q e = rw (← e) refl
beq_same false q e = rw (← e) refl

pub beq_other : (p q : Bool) → p ≡ not q → beq p q ≡ false
beq_other p true e = rw e refl
beq_other p false e = rw e refl

pub either : (p up : Bool) → (p ≡ up) ⊎ (p ≡ not up)
either true true = inl refl
either true false = inr refl
either false true = inr refl
either false false = inl refl

pub not_both : {p up : Bool} → p ≡ up → p ≡ not up → ⊥
not_both {p} {up = true} e f = true≢false (sym e ∙ f)
not_both {p} {up = false} e f = false≢true (sym e ∙ f)

module _ (above : ℕ → Bool) where
  pub crossed-ends : (x y : ℕ) → crossed? above (side_of x y) ≡ true → above y ≡ not (above x)
  crossed-ends x y k = go (ends x y)
    where
      go : Ends x y → above y ≡ not (above x)
      go (rising p q) = not_beq (above x) (above y) (rw (p, q) at k)
      go (falling p q) =
          let e : above x ≡ not (above y) = not_beq (above y) (above x) (rw (p, q) at k) in
          sym (not-not (above y)) ∙ ap not (sym e)

  pub ends-crossed : (x y : ℕ) → above y ≡ not (above x) → crossed? above (side_of x y) ≡ true
  ends-crossed x y e = go (ends x y)
    where
      go : Ends x y → crossed? above (side_of x y) ≡ true
      go (rising p q) = rw (p, q) (beq_not (above x) (above y) e)
      go (falling p q) = rw (p, q) (beq_not (above y) (above x) (sym (not-not (above x)) ∙ ap not (sym e)))

  -- the end of a kind
  pub end_from : (up : Bool) (x y : ℕ) → above x ≡ up → above y ≡ not up → end_of above up (side_of x y) ≡ x
  end_from up x y e f = go (ends x y)
    where
      go : Ends x y → end_of above up (side_of x y) ≡ x
      go (rising p q) = rw (p, q, beq_same (above x) up e) refl
      go (falling p q) = rw (p, q, beq_other (above y) up f) refl

  pub end_to : (up : Bool) (x y : ℕ) → above x ≡ up → above y ≡ not up → end_of above (not up) (side_of x y) ≡ y
  end_to up x y e f = ap (end_of above (not up)) (side_swap x y) ∙ end_from (not up) y x f (e ∙ sym (not-not up))

pub apex_has : (ts : List Tri) (x y : ℕ) → 0 < sides ts x y → Has x y (apex_of ts x y) ts
unfolding apex_of sides
apex_has [] x y h = absurd (omega arith)
apex_has (t ∷ ts) x y h = go (runs t x y) refl (apex_has ts x y)
  where
    go : (p : Bool) → runs t x y ≡ p → (0 < sides ts x y → Has x y (apex_of ts x y) ts) → Has x y (apex_of (t ∷ ts) x y) (t ∷ ts)
    go true e k = rw (e, apex_of) (here (opposite_reads t x y e))
    go false e k = rw (e, apex_of) (there (k (omega (arith, runs_no t x y e))))

-- The side s is crossed: a triangle runs it from x to y, where x is of the kind `up`, and y of the other.
pub record At (above : ℕ → Bool) (ts : List Tri) (up : Bool) (s : Side) : Type 0 where
  pub x : ℕ
  pub y : ℕ
  pub z : ℕ
  pub has : Has x y z ts
  pub is : s ≡ side_of x y
  pub from : above x ≡ up
  pub to : above y ≡ not up

module _ (above : ℕ → Bool) (ts : List Tri) (c : Surface ts) where
  -- some triangle runs it the other way
  pub beyond : (up : Bool) (s : Side) → At above ts up s → At above ts (not up) s
  beyond up s a =
      let h = side-has ts a.y a.x (omega (arith, c.even a.x a.y, has-side a.has)) in
      record { x = a.y; y = a.x; z = h.0; has = h.1; is = a.is ∙ side_swap a.x a.y; from = a.to; to = a.from ∙ sym (not-not up) }

  pub either_way : (up down : Bool) (s : Side) → At above ts up s → At above ts down s
  either_way up down s a = go (either down up)
    where
      go : (down ≡ up) ⊎ (down ≡ not up) → At above ts down s
      go (inl e) = subst (λ (k : Bool). At above ts k s) (sym e) a
      go (inr e) = subst (λ (k : Bool). At above ts k s) (sym e) (beyond up s a)

  -- the ends of the side, by their kinds
  pub at_from : (up : Bool) {s : Side} (a : At above ts up s) → end_of above up s ≡ a.x
  at_from up a = ap (end_of above up) a.is ∙ end_from above up a.x a.y a.from a.to

  pub at-to : (up : Bool) {s : Side} (a : At above ts up s) → end_of above (not up) s ≡ a.y
  at-to up a = ap (end_of above (not up)) a.is ∙ end_to above up a.x a.y a.from a.to

  -- run from the kind of its smaller corner, a side is run from that corner to the larger
  pub from-smaller : (s : Side) (a : At above ts (above s.low) s) → a.x ≡ s.low
  from-smaller s a = sym (at_from (above s.low) a) ∙ ap (λ (b : Bool). cond b s.low s.high) (beq_same (above s.low) (above s.low) refl)

  pub to-larger : (s : Side) (a : At above ts (above s.low) s) → a.y ≡ s.high
  to-larger s a =
      sym (at-to (above s.low) a) ∙ ap (λ (b : Bool). cond b s.low s.high) (beq_other (above s.low) (not (above s.low)) (sym (not-not (above s.low))))

  -- where one goes on to
  pub next-crossed-is : (up : Bool) (s : Side) (a : At above ts up s) → next_crossed above ts up s ≡ cond (beq (above a.z) up) (side_of a.z a.y) (side_of a.x a.z)
  unfolding next_crossed
  next-crossed-is up s a =
      let r : apex_of ts a.x a.y ≡ a.z = next_of c (apex_has ts a.x a.y (has-side a.has)) a.has in
      rw (at_from up a, at-to up a, r) refl

  -- how n, the side to which one goes on from a, lies in the triangle: the apex is of the kind `up`, and n runs to it; or it is of the other, and n runs from it
  abbrev pub Apex : (up : Bool) (s s' : Side) → At above ts up s → At above ts (not up) s' → Type 0
  Apex up s s' a n = ((above a.z ≡ up) × (n.x ≡ a.y) × (n.y ≡ a.z) × (n.z ≡ a.x)) ⊎ ((above a.z ≡ not up) × (n.x ≡ a.z) × (n.y ≡ a.x) × (n.z ≡ a.y))

  -- the triangle that runs the one side runs the other, too
  pub next-crossed_reads : {t : Tri} {up : Bool} {s s' : Side} (a : At above ts up s) (n : At above ts (not up) s') → Apex up s s' a n → Reads t a.x a.y a.z → Reads t n.x n.y n.z
  next-crossed_reads a n (inl k) r = reads_eq (sym k.1) (sym k.2) (sym k.3) (turn r)
  next-crossed_reads a n (inr k) r = reads_eq (sym k.1) (sym k.2) (sym k.3) (turn (turn r))

  -- the other crossed side of the triangle, which runs it the other way
  pub record Onward (up : Bool) (s : Side) (a : At above ts up s) : Type 0 where
    pub next : At above ts (not up) (next_crossed above ts up s)
    pub apex : Apex up s (next_crossed above ts up s) a next

  pub goes_on : (up : Bool) (s : Side) (a : At above ts up s) → Onward up s a
  goes_on up s a = go (either (above a.z) up)
    where
      go : (above a.z ≡ up) ⊎ (above a.z ≡ not up) → Onward up s a
      go (inl e) = record {
        next = record {
          x = a.y;
          y = a.z;
          z = a.x;
          has = spin a.has;
          is = next-crossed-is up s a ∙ ap (λ (k : Bool). cond k (side_of a.z a.y) (side_of a.x a.z)) (beq_same (above a.z) up e) ∙ side_swap a.z a.y;
          from = a.to;
          to = e ∙ sym (not-not up);
        };
        apex = inl (e, refl, refl, refl);
      }
      go (inr e) = record {
        next = record {
          x = a.z;
          y = a.x;
          z = a.y;
          has = spin (spin a.has);
          is = next-crossed-is up s a ∙ ap (λ (k : Bool). cond k (side_of a.z a.y) (side_of a.x a.z)) (beq_other (above a.z) up e) ∙ side_swap a.x a.z;
          from = e;
          to = a.from ∙ sym (not-not up);
        };
        apex = inr (e, refl, refl, refl);
      }

  pub next-crossed-back : (up : Bool) (s : Side) → At above ts up s → next_crossed above ts (not up) (next_crossed above ts up s) ≡ s
  next-crossed-back up s a = go (goes_on up s a)
    where
      go : Onward up s a → next_crossed above ts (not up) (next_crossed above ts up s) ≡ s
      go o = next-crossed-is (not up) (next_crossed above ts up s) o.next ∙ pick o.apex
        where
          n : At above ts (not up) (next_crossed above ts up s)
          n = o.next

          pick : Apex up s (next_crossed above ts up s) a n
              → cond (beq (above n.z) (not up)) (side_of n.z n.y) (side_of n.x n.z) ≡ s
          pick (inl k) =
              ap (λ (b : Bool). cond b (side_of n.z n.y) (side_of n.x n.z)) (beq_other (above n.z) (not up) (ap above k.3 ∙ a.from ∙ sym (not-not up)))
              ∙ ap₂ side_of k.1 k.3 ∙ side_swap a.y a.x ∙ sym a.is
          pick (inr k) =
              ap (λ (b : Bool). cond b (side_of n.z n.y) (side_of n.x n.z)) (beq_same (above n.z) (not up) (ap above k.3 ∙ a.to))
              ∙ ap₂ side_of k.3 k.2 ∙ side_swap a.y a.x ∙ sym a.is

-- ---- the list of all crossed sides

module _ (above : ℕ → Bool) where
  insert-crossed-rises : (s : Side) (l : List Side) → Ascending l → Ascending (insert_crossed above s l)
  insert-crossed-rises s l r = go (crossed? above s) refl
    where
      go : (p : Bool) → crossed? above s ≡ p → Ascending (insert_crossed above s l)
      go true e = rw e (insert-rises s l r)
      go false e = rw e r

  insert-crossed-old : (r s : Side) (l : List Side) → In r l → In r (insert_crossed above s l)
  insert-crossed-old r s l h = go (crossed? above s) refl
    where
      go : (p : Bool) → crossed? above s ≡ p → In r (insert_crossed above s l)
      go true e = rw e (insert-old r s l h)
      go false e = rw e h

  insert-crossed-new : (s : Side) (l : List Side) → crossed? above s ≡ true → In s (insert_crossed above s l)
  insert-crossed-new s l e = rw e (insert-new s l)

  insert-crossed-only : (r s : Side) (l : List Side) → In r (insert_crossed above s l) → ((r ≡ s) × (crossed? above s ≡ true)) ⊎ (In r l)
  insert-crossed-only r s l h = go (crossed? above s) refl
    where
      go : (p : Bool) → crossed? above s ≡ p → ((r ≡ s) × (crossed? above s ≡ true)) ⊎ (In r l)
      go true e = pick (insert-only r s l (rw e at h))
        where
          pick : (r ≡ s) ⊎ (In r l) → ((r ≡ s) × (crossed? above s ≡ true)) ⊎ (In r l)
          pick (inl k) = inl (k, e)
          pick (inr k) = inr k
      go false e = inr (rw e at h)

  -- the list with the third side of a triangle, and with the second too
  abbrev three : Tri → List Tri → List Side
  unfolding crossings
  three t ts = insert_crossed above (side_of t.c t.a) (crossings above ts)

  abbrev two : Tri → List Tri → List Side
  unfolding crossings
  two t ts = insert_crossed above (side_of t.b t.c) (three t ts)

  pub crossings_rise : (ts : List Tri) → Ascending (crossings above ts)
  unfolding crossings Ascending
  crossings_rise [] = tt
  crossings_rise (t ∷ ts) =
      insert-crossed-rises (side_of t.a t.b) (two t ts) (insert-crossed-rises (side_of t.b t.c) (three t ts)
      (insert-crossed-rises (side_of t.c t.a) (crossings above ts) (crossings_rise ts)))

  pub crossings-whole : {x y z : ℕ} (ts : List Tri) → Has x y z ts → crossed? above (side_of x y) ≡ true → In (side_of x y) (crossings above ts)
  unfolding crossings
  crossings-whole {x} {y} (t ∷ ts) (there h) k =
      insert-crossed-old (side_of x y) (side_of t.a t.b) (two t ts) (insert-crossed-old (side_of x y) (side_of t.b t.c) (three t ts)
      (insert-crossed-old (side_of x y) (side_of t.c t.a) (crossings above ts) (crossings-whole ts h k)))
  crossings-whole {x} {y} {z} (t ∷ ts) (here r) k = pick r
    where
      pick : Reads t x y z → In (side_of x y) (insert_crossed above (side_of t.a t.b) (two t ts))
      pick (r0 p q o) =
          let e : side_of t.a t.b ≡ side_of x y = ap₂ side_of p q in
          subst (λ (s : Side). In s (insert_crossed above (side_of t.a t.b) (two t ts))) e (insert-crossed-new (side_of t.a t.b) (two t ts) (ap (crossed? above) e ∙ k))
      pick (r1 p q o) =
          let e : side_of t.b t.c ≡ side_of x y = ap₂ side_of p q in
          insert-crossed-old (side_of x y) (side_of t.a t.b) (two t ts)
          (subst (λ (s : Side). In s (two t ts)) e (insert-crossed-new (side_of t.b t.c) (three t ts) (ap (crossed? above) e ∙ k)))
      pick (r2 p q o) =
          let e : side_of t.c t.a ≡ side_of x y = ap₂ side_of p q in
          insert-crossed-old (side_of x y) (side_of t.a t.b) (two t ts) (insert-crossed-old (side_of x y) (side_of t.b t.c) (three t ts)
          (subst (λ (s : Side). In s (three t ts)) e (insert-crossed-new (side_of t.c t.a) (crossings above ts) (ap (crossed? above) e ∙ k))))
  crossings-whole {x = x} {y = y} {z = z} [] x3 k = elim x3 [ ]

  -- a crossed side of a triangle of the list
  pub record Found (ts : List Tri) (s : Side) : Type 0 where
    pub x : ℕ
    pub y : ℕ
    pub z : ℕ
    pub has : Has x y z ts
    pub is : s ≡ side_of x y
    pub crossed : crossed? above s ≡ true

  pub crossings-sound : (ts : List Tri) (s : Side) → In s (crossings above ts) → Found ts s
  unfolding crossings tally
  crossings-sound [] s h = absurd (omega arith)
  crossings-sound (t ∷ ts) s h = first (crossings-sound ts s) (insert-crossed-only s (side_of t.a t.b) (two t ts) h)
    where
      made : {x y z : ℕ} → Reads t x y z → (s ≡ side_of x y) × (crossed? above (side_of x y) ≡ true) → Found (t ∷ ts) s
      made {x} {y} {z} r k = record { x = x; y = y; z = z; has = here r; is = k.0; crossed = ap (crossed? above) k.0 ∙ k.1 }

      rest : Found ts s → Found (t ∷ ts) s
      rest f = record { x = f.x; y = f.y; z = f.z; has = there f.has; is = f.is; crossed = f.crossed }

      third : (In s (crossings above ts) → Found ts s) → ((s ≡ side_of t.c t.a) × (crossed? above (side_of t.c t.a) ≡ true)) ⊎ (In s (crossings above ts)) → Found (t ∷ ts) s
      third f (inl k) = made (r2 refl refl refl) k
      third f (inr k) = rest (f k)

      second : (In s (crossings above ts) → Found ts s) → ((s ≡ side_of t.b t.c) × (crossed? above (side_of t.b t.c) ≡ true)) ⊎ (In s (three t ts)) → Found (t ∷ ts) s
      second f (inl k) = made (r1 refl refl refl) k
      second f (inr k) = third f (insert-crossed-only s (side_of t.c t.a) (crossings above ts) k)

      first : (In s (crossings above ts) → Found ts s) → ((s ≡ side_of t.a t.b) × (crossed? above (side_of t.a t.b) ≡ true)) ⊎ (In s (two t ts)) → Found (t ∷ ts) s
      first f (inl k) = made (r0 refl refl refl) k
      first f (inr k) = second f (insert-crossed-only s (side_of t.b t.c) (three t ts) k)

module _ (above : ℕ → Bool) (ts : List Tri) (c : Surface ts) where
  pub found_at : (up : Bool) (s : Side) → In s (crossings above ts) → At above ts up s
  found_at up s h =
      let f = crossings-sound above ts s h in
      let e = crossed-ends above f.x f.y (ap (crossed? above) (sym f.is) ∙ f.crossed) in
      either_way above ts c (above f.x) up s (record { x = f.x; y = f.y; z = f.z; has = f.has; is = f.is; from = refl; to = e })

  pub at-found : (up : Bool) (s : Side) → At above ts up s → In s (crossings above ts)
  at-found up s a =
      let k = ends-crossed above a.x a.y (a.to ∙ ap not (sym a.from)) in
      subst (λ (r : Side). In r (crossings above ts)) (sym a.is) (crossings-whole above ts a.has k)

  -- going on permutes the crossed sides
  pub permutes : (up : Bool) → Permutes (next_crossed above ts up) (next_crossed above ts (not up)) (crossings above ts)
  permutes up = record {
    once = rises-once (crossings above ts) (crossings_rise above ts);
    ahead = λ s h. at-found (not up) (next_crossed above ts up s) (goes_on above ts c up s (found_at up s h)).next;
    back = λ s h. at-found (not (not up)) (next_crossed above ts (not up) s) (goes_on above ts c (not up) s (found_at (not up) s h)).next;
    there = λ s h. next-crossed-back above ts c up s (found_at up s h);
    again = λ s h. ap (λ (k : Bool). next_crossed above ts k (next_crossed above ts (not up) s)) (sym (not-not up)) ∙ next-crossed-back above ts c (not up) s (found_at (not up) s h);
  }
