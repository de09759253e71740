-- Which neighbours a triangle joins: those of which the first is the side that it runs the way of the walk.
use Prim.Native.Nat.{ℕ, ◌+◌, ◌<◌}
use mathlib.Core.Path.{◌≡◌, refl, sym, ◌∙◌, ap, ap₂}
use mathlib.Core.Logic.{◌⊎◌, inl, inr}
use mathlib.Core.Bool.{Bool, true, false, not, ◌&&◌, ◌||◌, beq, not-not, or_comm, false≢true}
use mathlib.Core.List.{List}
use native.Mathlib.Omega.{arith}
use lib.Dec.{eqb}
use lib.ListN.{length}
use Rattle.surface.specs.Triangle.{Tri, runs}
use Rattle.surface.specs.Closed.{one}
use Rattle.surface.specs.Edit.{has, place}
use Rattle.surface.proofs.Bools.{true_false, both, join}
use Rattle.surface.proofs.Reading.{times-hits, Reads, r0, r1, r2, turn, reads_hits, spin, has-eq}
use Rattle.surface.proofs.Surface.{Surface, differ2, differ3}
use Rattle.surface.proofs.Places.{place-has}
use Rattle.surface.proofs.Hinged.{runs_no, has_either}
use Rattle.outlines.specs.Side.{Side, side_of, same?}
use Rattle.outlines.specs.Crossing.{crossed?, crossed_triangle?, end_of, next_crossed}
use Rattle.outlines.specs.Request.{Neighbours, joins?}
use Rattle.outlines.proofs.Sides.{Compared, alike, unlike, compared}
use Rattle.outlines.proofs.Crossings.{side_swap, Ends, rising, falling, ends, not_both, end_from, At, at_from, at-to, Apex, next-crossed_reads, Onward, goes_on}

abbrev pub pair : Side → Side → Neighbours
pair s t = record { first = s; second = t }

-- ---- a triangle's sides

pub reads_runs : {t : Tri} {u v w : ℕ} → Reads t u v w → runs t u v ≡ true
reads_runs {t} {u} {v} r = go (runs t u v) refl
  where
    go : (k : Bool) → runs t u v ≡ k → runs t u v ≡ true
    go true e = e
    go false e = absurd (omega (arith, runs_no t u v e, times-hits t u v, reads_hits r))

abbrev pub has_side : Tri → Side → Bool
has_side t s = has s.low s.high t

pub reads_side : {t : Tri} {u v w : ℕ} → Reads t u v w → has_side t (side_of u v) ≡ true
reads_side {t} {u} {v} r = go (ends u v)
  where
    go : Ends u v → has_side t (side_of u v) ≡ true
    go (rising p q) = rw (p, q, reads_runs r) refl
    go (falling p q) = rw (p, q) (or_comm (runs t v u) (runs t u v) ∙ ap (λ (k : Bool). k || runs t v u) (reads_runs r))

pub side_reads : (t : Tri) (u v : ℕ) → has_side t (side_of u v) ≡ true → ((w : ℕ) × Reads t u v w) ⊎ ((w : ℕ) × Reads t v u w)
side_reads t u v k = go (ends u v)
  where
    turned : ((w : ℕ) × Reads t v u w) ⊎ ((w : ℕ) × Reads t u v w) → ((w : ℕ) × Reads t u v w) ⊎ ((w : ℕ) × Reads t v u w)
    turned (inl r) = inr r
    turned (inr r) = inl r

    go : Ends u v → ((w : ℕ) × Reads t u v w) ⊎ ((w : ℕ) × Reads t v u w)
    go (rising p q) = has_either t u v (rw (p, q) at k)
    go (falling p q) = turned (has_either t v u (rw (p, q) at k))

-- the triangle is read from each end of a side that it has
from_end : (t : Tri) (u v : ℕ) → has_side t (side_of u v) ≡ true → (p : ℕ) × (q : ℕ) × Reads t v p q
from_end t u v k = go (side_reads t u v k)
  where
    go : ((w : ℕ) × Reads t u v w) ⊎ ((w : ℕ) × Reads t v u w) → (p : ℕ) × (q : ℕ) × Reads t v p q
    go (inl r) = (r.0, u, turn r.1)
    go (inr r) = (u, r.0, r.1)

-- two readings of a triangle: the second begins at the first corner of the first, or one or two corners on
pub data Turned (x y z u v : ℕ) : Type 0 where
  zero-turns : u ≡ x → v ≡ y → Turned x y z u v
  one_turn : u ≡ y → v ≡ z → Turned x y z u v
  two-turns : u ≡ z → v ≡ x → Turned x y z u v

pub turned : {t : Tri} {x y z u v w : ℕ} → Reads t x y z → Reads t u v w → Turned x y z u v
turned (r0 a b c) (r0 e f g) = zero-turns (sym e ∙ a) (sym f ∙ b)
turned (r0 a b c) (r1 e f g) = one_turn (sym e ∙ b) (sym f ∙ c)
turned (r0 a b c) (r2 e f g) = two-turns (sym e ∙ c) (sym f ∙ a)
turned (r1 a b c) (r0 e f g) = two-turns (sym e ∙ c) (sym f ∙ a)
turned (r1 a b c) (r1 e f g) = zero-turns (sym e ∙ a) (sym f ∙ b)
turned (r1 a b c) (r2 e f g) = one_turn (sym e ∙ b) (sym f ∙ c)
turned (r2 a b c) (r0 e f g) = one_turn (sym e ∙ b) (sym f ∙ c)
turned (r2 a b c) (r1 e f g) = two-turns (sym e ∙ c) (sym f ∙ a)
turned (r2 a b c) (r2 e f g) = zero-turns (sym e ∙ a) (sym f ∙ b)

-- ---- the side by which the walk enters a triangle

-- the triangle runs the side from a corner of the kind `up` to one of the other
pub record Entry (above : ℕ → Bool) (t : Tri) (up : Bool) : Type 0 where
  pub x : ℕ
  pub y : ℕ
  pub z : ℕ
  pub reads : Reads t x y z
  pub from : above x ≡ up
  pub to : above y ≡ not up

module _ (above : ℕ → Bool) where
  pub crossed-is : (x y : ℕ) → crossed? above (side_of x y) ≡ not (beq (above x) (above y))
  crossed-is x y = go (ends x y)
    where
      flip : (p q : Bool) → beq p q ≡ beq q p
      flip true true = refl
      flip true false = refl
      flip false true = refl
      flip false false = refl

      go : Ends x y → crossed? above (side_of x y) ≡ not (beq (above x) (above y))
      go (rising p q) = rw (p, q) refl
      go (falling p q) = rw (p, q) (ap not (flip (above y) (above x)))

  -- a crossed triangle has one
  pub entry : (t : Tri) → crossed_triangle? above t ≡ true → (up : Bool) → Entry above t up
  entry t k up = go (above t.a) refl (above t.b) refl (above t.c) refl up (rw (crossed-is t.a t.b, crossed-is t.b t.c, crossed-is t.c t.a) at k)
    where
      ab : {up : Bool} → above t.a ≡ up → above t.b ≡ not up → Entry above t up
      ab e f = record { x = t.a; y = t.b; z = t.c; reads = r0 refl refl refl; from = e; to = f }

      bc : {up : Bool} → above t.b ≡ up → above t.c ≡ not up → Entry above t up
      bc e f = record { x = t.b; y = t.c; z = t.a; reads = r1 refl refl refl; from = e; to = f }

      ca : {up : Bool} → above t.c ≡ up → above t.a ≡ not up → Entry above t up
      ca e f = record { x = t.c; y = t.a; z = t.b; reads = r2 refl refl refl; from = e; to = f }

      go : (p : Bool) → above t.a ≡ p → (q : Bool) → above t.b ≡ q → (r : Bool) → above t.c ≡ r → (up : Bool)
          → eqb (one (not (beq (above t.a) (above t.b))) + (one (not (beq (above t.b) (above t.c))) + one (not (beq (above t.c) (above t.a))))) 2 ≡ true
          → Entry above t up
      go true e true f true g up h = absurd (false≢true (rw (e, f, g) at h))
      go false e false f false g up h = absurd (false≢true (rw (e, f, g) at h))
      go true e true f false g true h = bc f g
      go true e true f false g false h = ca g e
      go true e false f true g true h = ab e f
      go true e false f true g false h = bc f g
      go true e false f false g true h = ab e f
      go true e false f false g false h = ca g e
      go false e true f true g true h = ca g e
      go false e true f true g false h = ab e f
      go false e true f false g true h = bc f g
      go false e true f false g false h = ab e f
      go false e false f true g true h = ca g e
      go false e false f true g false h = bc f g

  -- and no other
  pub entry-only : {t : Tri} {up : Bool} (e : Entry above t up) {x y z : ℕ} → Reads t x y z → above x ≡ up → above y ≡ not up → (e.x ≡ x) × (e.y ≡ y)
  entry-only {t} {up} e {x} {y} r p q = go (turned e.reads r)
    where
      go : Turned e.x e.y e.z x y → (e.x ≡ x) × (e.y ≡ y)
      go (zero-turns a b) = (sym a, sym b)
      go (one_turn a b) = absurd (not_both {p = above x} {up = up} p (ap above a ∙ e.to))
      go (two-turns a b) = absurd (not_both {p = above y} {up = up} (ap above b ∙ e.from) q)

module _ (above : ℕ → Bool) (ts : List Tri) (c : Surface ts) (up : Bool) where
  abbrev pub pair_at : Side → Neighbours
  pair_at s = pair s (next_crossed above ts up s)

  -- one goes on to another side
  pub next-crossed_differs : (s : Side) (a : At above ts up s) → s ≡ next_crossed above ts up s → ⊥
  next-crossed_differs s a e = go (goes_on above ts c up s a)
    where
      go : Onward above ts c up s a → ⊥
      go o = pick o.apex
        where
          n : At above ts (not up) (next_crossed above ts up s)
          n = o.next

          -- n runs from the other kind
          y-is : a.y ≡ n.x
          y-is = sym (at-to above ts c up a) ∙ ap (end_of above (not up)) (e ∙ n.is) ∙ end_from above (not up) n.x n.y n.from n.to

          x-is : a.x ≡ n.y
          x-is =
              sym (at_from above ts c up a) ∙ ap (end_of above up) (e ∙ n.is ∙ side_swap n.x n.y) ∙ end_from above up n.y n.x (n.to ∙ not-not up) n.from

          pick : Apex above ts c up s (next_crossed above ts up s) a n → ⊥
          pick (inl k) = differ3 c a.has (sym k.2 ∙ sym x-is)
          pick (inr k) = differ2 c a.has (y-is ∙ k.1)

  -- the triangle that runs the side the way of the walk joins it to the next
  pub joins_through : (t : Tri) (s : Side) (a : At above ts up s) → Reads t a.x a.y a.z → joins? t (pair_at s) ≡ true
  joins_through t s a r = go (goes_on above ts c up s a)
    where
      go : Onward above ts c up s a → joins? t (pair_at s) ≡ true
      go o = join _ _ (ap (has_side t) a.is ∙ reads_side r) (join _ _ (ap (has_side t) n.is ∙ reads_side (next-crossed_reads above ts c a n o.apex r)) differs)
        where
          n : At above ts (not up) (next_crossed above ts up s)
          n = o.next

          differs : not (same? s (next_crossed above ts up s)) ≡ true
          differs = pick (compared s (next_crossed above ts up s))
            where
              pick : Compared s (next_crossed above ts up s) → not (same? s (next_crossed above ts up s)) ≡ true
              pick (alike e f) = absurd (next-crossed_differs s a e)
              pick (unlike m f) = ap not f

  -- a triangle of the list that joins a side to the next runs the side the way of the walk
  module _ (i : ℕ) (l : i < length ts) where
    pub through_joins : (s : Side) (a : At above ts up s) → joins? (place ts i) (pair_at s) ≡ true → (w : ℕ) × Reads (place ts i) a.x a.y w
    through_joins s a k =
        let p = both (has_side (place ts i) s) (has_side (place ts i) (next_crossed above ts up s) && not (same? s (next_crossed above ts up s))) k in
        let q = both (has_side (place ts i) (next_crossed above ts up s)) (not (same? s (next_crossed above ts up s))) p.1 in
        go (side_reads (place ts i) a.x a.y (ap (has_side (place ts i)) (sym a.is) ∙ p.0)) (apex (goes_on above ts c up s a) q.0)
      where
        apex : Onward above ts c up s a → has_side (place ts i) (next_crossed above ts up s) ≡ true → (p : ℕ) × (q : ℕ) × Reads (place ts i) a.z p q
        apex o h = pick o.apex
          where
            n : At above ts (not up) (next_crossed above ts up s)
            n = o.next

            pick : Apex above ts c up s (next_crossed above ts up s) a n → (p : ℕ) × (q : ℕ) × Reads (place ts i) a.z p q
            pick (inl j) = from_end (place ts i) a.y a.z (ap (has_side (place ts i)) (sym (ap₂ side_of j.1 j.2) ∙ sym n.is) ∙ h)
            pick (inr j) = from_end (place ts i) a.x a.z (ap (has_side (place ts i)) (side_swap a.x a.z ∙ sym (ap₂ side_of j.1 j.2) ∙ sym n.is) ∙ h)

        go : ((w : ℕ) × Reads (place ts i) a.x a.y w) ⊎ ((w : ℕ) × Reads (place ts i) a.y a.x w) → (p : ℕ) × (q : ℕ) × Reads (place ts i) a.z p q → (w : ℕ) × Reads (place ts i) a.x a.y w
        go (inl r) m = r
        go (inr r) m = absurd (pick (turned r.1 m.2))
          where
            pick : Turned a.y a.x r.0 a.z m.0 → ⊥
            pick (zero-turns e d) = differ2 c a.has (sym e)
            pick (one_turn e d) = differ3 c a.has e
            pick (two-turns e d) = c.apart a.x a.y a.z a.has (has-eq refl (sym e) refl (spin (place-has ts i l r.1)))

    -- so a triangle joins a side to the next exactly where the walk enters by that side
    pub joins-is : (e : Entry above (place ts i) up) (s : Side) → At above ts up s → joins? (place ts i) (pair_at s) ≡ same? (side_of e.x e.y) s
    joins-is e s a = go (joins? (place ts i) (pair_at s)) refl (compared (side_of e.x e.y) s)
      where
        go : (k : Bool) → joins? (place ts i) (pair_at s) ≡ k → Compared (side_of e.x e.y) s → joins? (place ts i) (pair_at s) ≡ same? (side_of e.x e.y) s
        go true k (alike p f) = k ∙ sym f
        go false k (unlike p f) = k ∙ sym f
        go true k (unlike p f) =
            let r = through_joins s a k in
            let m = entry-only above e r.1 a.from a.to in
            absurd (p (ap₂ side_of m.0 m.1 ∙ sym a.is))
        go false k (alike p f) =
            let b : At above ts up s = record { x = e.x; y = e.y; z = e.z; has = place-has ts i l e.reads; is = sym p; from = e.from; to = e.to } in
            absurd (true_false (joins_through (place ts i) s b e.reads) k)
