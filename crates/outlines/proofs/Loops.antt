-- The loops that `loops_of` makes, by induction over the sides that are left.
use Prim.Native.Nat.{ℕ, zero, suc, ◌+◌, ◌≤◌, ◌<◌}
use mathlib.Core.Path.{◌≡◌, refl, sym, ◌∙◌, ap, ap₂, subst}
use mathlib.Core.Logic.{◌⊎◌, inl, inr}
use mathlib.Core.Bool.{Bool, true, false, not}
use mathlib.Core.List.{List, [], ◌∷◌, map}
use native.Mathlib.Omega.{arith}
use lib.ListN.{length, length-append}
use Rattle.surface.specs.Triangle.{Tri}
use Rattle.surface.specs.Closed.{one}
use Rattle.surface.specs.Edit.{place}
use Rattle.surface.proofs.Reading.{Reads, reads_eq}
use Rattle.surface.proofs.Surface.{Surface}
use Rattle.surface.proofs.Places.{has-place, place-has}
use Rattle.outlines.specs.Side.{Side, side_of, same?, before?, tally, times_in, Each, Ascending, strike_all}
use Rattle.outlines.specs.Crossing.{crossings, next_crossed}
use Rattle.outlines.specs.Outline.{Loop, circuit, loop_from, loops_of}
use Rattle.outlines.specs.Request.{sides_of, Neighbours, neighbours_from, neighbours, after_start, joins?, Shared, Directed}
use Rattle.outlines.proofs.Lists.{each_append, each_map, each_weaken, tally-append}
use Rattle.outlines.proofs.Sides.{In, in_first, each-count, count-each, strike-all-rises, strike-all-short}
use Rattle.outlines.proofs.Cycles.{Permutes, reversed, Chain, Walked, loop_walked}
use Rattle.outlines.proofs.Crossings.{either, At, from-smaller, to-larger, next-crossed_reads, Onward, next-crossed-back, found_at, goes_on}
use Rattle.outlines.proofs.Joins.{pair, Entry, entry-only, reads_runs, joins_through, joins-is}

-- ---- a chain and its neighbours

module _ (f : Side → Side) (start : Side) where
  pairs_each : (P : Neighbours → Type 0) (s : Side) (w : List Side) → Chain f start (f s) w → Each (λ r. P (pair r (f r))) (s ∷ w) → Each P (neighbours_from start s w)
  unfolding Each Chain neighbours_from
  pairs_each P s [] c e = (subst (λ (t : Side). P (pair s t)) c e.0, tt)
  pairs_each P s (y ∷ w) c e = (subst (λ (t : Side). P (pair s t)) (sym c.0) e.0, pairs_each P y w c.1 e.1)

  pairs_tally : (test : Neighbours → Bool) (g : Side → Bool) (s : Side) (w : List Side) → Chain f start (f s) w → Each (λ r. test (pair r (f r)) ≡ g r) (s ∷ w)
      → tally test (neighbours_from start s w) ≡ tally g (s ∷ w)
  unfolding Each Chain neighbours_from tally
  pairs_tally test g s [] c e = omega (arith, ap one (ap (λ (t : Side). test (pair s t)) (sym c) ∙ e.0))
  pairs_tally test g s (y ∷ w) c e =
      omega (arith, ap one (ap (λ (t : Side). test (pair s t)) c.0 ∙ e.0), pairs_tally test g y w c.1 e.1)

  second_is : (s : Side) (w : List Side) → Chain f start (f s) w → after_start start w ≡ f s
  unfolding Chain
  second_is s [] c = sym c
  second_is s (y ∷ w) c = c.0

-- the sides of a list that are not in a part of it which is permuted, too, are permuted among themselves
stays : (f g : Side → Side) (l rest part : List Side) → Permutes f g l → Permutes f g rest → ((t : Side) → times_in t part + times_in t rest ≡ times_in t l) → (t : Side) → In t part → In (f t) part
stays f g l rest part p q parted t h = go (times_in (f t) rest) refl
  where
    whole : In t l
    whole = omega (arith, parted t)

    go : (n : ℕ) → times_in (f t) rest ≡ n → In (f t) part
    go zero e = omega (arith, parted (f t), p.ahead t whole)
    go (suc n) e =
        let m = q.back (f t) (omega arith) in
        absurd (omega (arith, parted t, p.once t, ap (λ (r : Side). times_in r rest) (p.there t whole)))

-- a loop is closed under both steps
module _ (f g : Side → Side) (s : Side) (w l : List Side) (p : Permutes f g (s ∷ l)) (k : Walked f g s (f s) w l) where
  parted : (t : Side) → times_in t (s ∷ w) + times_in t (strike_all w l) ≡ times_in t (s ∷ l)
  unfolding tally
  parted t = omega (arith, k.split t)

  loop-ahead : (t : Side) → In t (s ∷ w) → In (f t) (s ∷ w)
  loop-ahead = stays f g (s ∷ l) (strike_all w l) (s ∷ w) p k.left parted

  loop-back : (t : Side) → In t (s ∷ w) → In (g t) (s ∷ w)
  loop-back = stays g f (s ∷ l) (strike_all w l) (s ∷ w) (reversed p) (reversed k.left) parted

  loop-once : (t : Side) → times_in t (s ∷ w) ≤ 1
  loop-once t = omega (arith, parted t, p.once t)

  -- so a side and the one behind it are in it equally often
  loop-count : (t : Side) → f (g t) ≡ t → times_in (g t) (s ∷ w) ≡ times_in t (s ∷ w)
  loop-count t e = go (times_in t (s ∷ w)) refl (times_in (g t) (s ∷ w)) refl
    where
      go : (m : ℕ) → times_in t (s ∷ w) ≡ m → (n : ℕ) → times_in (g t) (s ∷ w) ≡ n → times_in (g t) (s ∷ w) ≡ times_in t (s ∷ w)
      go zero a zero b = b ∙ sym a
      go zero a (suc n) b = absurd (omega (arith, loop-ahead (g t) (omega arith), ap (λ (r : Side). times_in r (s ∷ w)) e))
      go (suc m) a zero b = absurd (omega (arith, loop-back t (omega arith)))
      go (suc m) a (suc n) b = omega (arith, loop-once t, loop-once (g t))

-- ---- all loops

module _ (above : ℕ → Bool) (ts : List Tri) (c : Surface ts) where
  -- sides that are left: crossed, in rising order, and closed under going on
  pub record Left (l : List Side) : Type 0 where
    pub crossed : (s : Side) → In s l → In s (crossings above ts)
    pub rises : Ascending l
    pub permuted : Permutes (next_crossed above ts true) (next_crossed above ts false) l

  pub permuted_by : (up : Bool) {l : List Side} → Permutes (next_crossed above ts true) (next_crossed above ts false) l → Permutes (next_crossed above ts up) (next_crossed above ts (not up)) l
  permuted_by true p = p
  permuted_by false p = reversed p

  permuted_of : (up : Bool) {l : List Side} → Permutes (next_crossed above ts up) (next_crossed above ts (not up)) l → Permutes (next_crossed above ts true) (next_crossed above ts false) l
  permuted_of true p = p
  permuted_of false p = reversed p

  pub record Looped (l : List Side) (ls : List Loop) : Type 0 where
    pub counts : (s : Side) → times_in s (sides_of ls) ≡ times_in s l
    pub long : length (sides_of ls) ≡ length l
    pub shared : Each (Shared ts) (neighbours ls)
    pub joined : (i : ℕ) → i < length ts → ((up : Bool) → Entry above (place ts i) up) → (e : Entry above (place ts i) true)
        → tally (joins? (place ts i)) (neighbours ls) ≡ times_in (side_of e.x e.y) l
    pub smallest : Each (λ (k : Loop). Each (λ s. before? k.start s ≡ true) k.rest) ls
    pub direction : Each (Directed ts) ls
    pub by-start : Ascending (map (λ (k : Loop). k.start) ls)
    pub starts : Each (λ (k : Loop). In k.start l) ls

  -- the entries of a triangle by the two kinds: the one is behind the other
  pub entry_at : (i : ℕ) → i < length ts → {up : Bool} (e : Entry above (place ts i) up) → At above ts up (side_of e.x e.y)
  entry_at i l e = record { x = e.x; y = e.y; z = e.z; has = place-has ts i l e.reads; is = refl; from = e.from; to = e.to }

  other_entry : (i : ℕ) → i < length ts → {up : Bool} (e : Entry above (place ts i) up) (d : Entry above (place ts i) (not up)) → side_of d.x d.y ≡ next_crossed above ts up (side_of e.x e.y)
  unfolding entry_at
  other_entry i l {up} e d = go (goes_on above ts c up (side_of e.x e.y) (entry_at i l e))
    where
      go : Onward above ts c up (side_of e.x e.y) (entry_at i l e) → side_of d.x d.y ≡ next_crossed above ts up (side_of e.x e.y)
      go o = same (next-crossed_reads above ts c (entry_at i l e) n o.apex e.reads)
        where
          n : At above ts (not up) (next_crossed above ts up (side_of e.x e.y))
          n = o.next

          same : Reads (place ts i) n.x n.y n.z → side_of d.x d.y ≡ next_crossed above ts up (side_of e.x e.y)
          same r = let m = entry-only above d r n.from n.to in ap₂ side_of m.0 m.1 ∙ sym n.is

  -- the loop of the first side, and then the others
  module _ (s : Side) (l : List Side) (left : Left (s ∷ l)) (w : List Side) where
    abbrev up : Bool
    up = above s.low

    abbrev f : Side → Side
    f = next_crossed above ts up

    abbrev g : Side → Side
    g = next_crossed above ts (not up)

    abbrev rest : List Side
    rest = strike_all w l

    module _ (k : Walked f g s (f s) w l) where
      all : Permutes f g (s ∷ l)
      all = permuted_by up left.permuted

      on_list : (t : Side) → In t (s ∷ w) → In t (s ∷ l)
      on_list t h = omega (arith, parted f g s w l all k t)

      at : (t : Side) → In t (s ∷ l) → At above ts up t
      at t h = found_at above ts c up t (left.crossed t h)

      later : (t : Side) → In t l → before? s t ≡ true
      unfolding Ascending
      later t h = each-count (λ t. before? s t ≡ true) l left.rises.0 t h

      rest_in : (t : Side) → In t rest → In t l
      rest_in t h = omega (arith, k.split t)

      w_in : (t : Side) → In t w → In t l
      w_in t h = omega (arith, k.split t)

      cons_in : (t : Side) → In t l → In t (s ∷ l)
      unfolding tally
      cons_in t h = omega arith

      tail_rises : (m : List Side) → Ascending (s ∷ m) → Ascending m
      unfolding Ascending
      tail_rises m r = r.1

      pub rest-left : Left rest
      rest-left = record {
        crossed = λ t h. left.crossed t (cons_in t (rest_in t h));
        rises = strike-all-rises w l (tail_rises l left.rises);
        permuted = permuted_of up k.left;
      }

      -- the entries of both kinds are in the loop equally often
      entry-count : (i : ℕ) → i < length ts → (e : Entry above (place ts i) true) (d : Entry above (place ts i) up) → times_in (side_of d.x d.y) (s ∷ w) ≡ times_in (side_of e.x e.y) (s ∷ w)
      entry-count i b e d = go (either up true)
        where
          go : (up ≡ true) ⊎ (up ≡ not true) → times_in (side_of d.x d.y) (s ∷ w) ≡ times_in (side_of e.x e.y) (s ∷ w)
          go (inl q) =
              let m = entry-only above e d.reads (d.from ∙ q) (d.to ∙ ap not q) in
              ap (λ (t : Side). times_in t (s ∷ w)) (sym (ap₂ side_of m.0 m.1))
          go (inr q) =
              let d' : Entry above (place ts i) (not true) = subst (λ (b : Bool). Entry above (place ts i) b) q d in
              let m = entry-only above d d'.reads (d'.from ∙ sym q) (d'.to ∙ ap not (sym q)) in
              let p = side_of e.x e.y in
              let h : next_crossed above ts true p ≡ g p = ap (λ (b : Bool). next_crossed above ts b p) (sym (ap not q)) in
              let back : f (g p) ≡ p = ap₂ (next_crossed above ts) q (sym h) ∙ next-crossed-back above ts c true p (entry_at i b e) in
              ap (λ (t : Side). times_in t (s ∷ w)) (ap₂ side_of m.0 m.1 ∙ other_entry i b e d' ∙ h) ∙ loop-count f g s w l all k p back

      module _ (ls : List Loop) (o : Looped rest ls) where
        abbrev whole : List Loop
        whole = record { start = s; rest = w } ∷ ls

        counts : (t : Side) → times_in t (sides_of whole) ≡ times_in t (s ∷ l)
        unfolding sides_of tally
        counts t = omega (arith, tally-append (same? t) w (sides_of ls), o.counts t, k.split t)

        long : length (sides_of whole) ≡ length (s ∷ l)
        unfolding sides_of
        long = omega (arith, length-append w (sides_of ls), o.long, k.long)

        shared : Each (Shared ts) (neighbours whole)
        unfolding neighbours
        shared =
            each_append (Shared ts) (neighbours_from s s w) (neighbours ls)
            (pairs_each f s (Shared ts) s w k.chain (count-each (λ t. Shared ts (pair t (f t))) (s ∷ w) through)) o.shared
          where
            through : (t : Side) → In t (s ∷ w) → Shared ts (pair t (f t))
            through t h =
                let a = at t (on_list t h) in
                let p = has-place ts a.has in
                (p.at, p.fits, joins_through above ts c up (place ts p.at) t a p.reads)

        joined : (i : ℕ) → i < length ts → ((up : Bool) → Entry above (place ts i) up) → (e : Entry above (place ts i) true)
            → tally (joins? (place ts i)) (neighbours whole) ≡ times_in (side_of e.x e.y) (s ∷ l)
        unfolding neighbours
        joined i b es e =
            let d = es up in
            let m = pairs_tally f s (joins? (place ts i)) (same? (side_of d.x d.y)) s w k.chain (count-each (λ t. joins? (place ts i) (pair t (f t)) ≡ same? (side_of d.x d.y) t) (s ∷ w) (λ t h. joins-is above ts c up i b d t (at t (on_list t h)))) in
            omega (
              arith,
              tally-append (joins? (place ts i)) (neighbours_from s s w) (neighbours ls),
              m,
              o.joined i b es e,
              entry-count i b e d,
              parted f g s w l all k (side_of e.x e.y),
            )

        direction : Directed ts (record { start = s; rest = w })
        direction =
            let a = at s (in_first s l) in
            let p = has-place ts a.has in (
              p.at,
              p.fits,
              reads_runs (reads_eq (from-smaller above ts c s a) (to-larger above ts c s a) refl p.reads),
              ap (λ (t : Side). joins? (place ts p.at) (pair s t)) (second_is f s s w k.chain) ∙ joins_through above ts c up (place ts p.at) s a p.reads,
            )

        pub looped_cons : Looped (s ∷ l) whole
        unfolding Each Ascending
        looped_cons = record {
          counts = counts;
          long = long;
          shared = shared;
          joined = joined;
          smallest = (count-each (λ t. before? s t ≡ true) w (λ t h. later t (w_in t h)), o.smallest);
          direction = (direction, o.direction);
          by-start = (
            each_map (λ (t : Side). before? s t ≡ true) (λ (k : Loop). k.start) ls
                (each_weaken (λ (k : Loop). In k.start rest) (λ (k : Loop). before? s k.start ≡ true) ls (λ k h. later k.start (rest_in k.start h)) o.starts),
            o.by-start,
          );
          starts = (
            in_first s l,
            each_weaken (λ (k : Loop). In k.start rest) (λ (k : Loop). In k.start (s ∷ l)) ls (λ k h. cons_in k.start (rest_in k.start h)) o.starts,
          );
        }

  looped_none : Looped [] []
  unfolding Each Ascending sides_of neighbours tally
  looped_none = record { counts = λ s. refl; long = refl; shared = tt; joined = λ i b es e. refl; smallest = tt; direction = tt; by-start = tt; starts = tt }

  pub looped : (n : ℕ) (l : List Side) → length l ≤ n → Left l → Looped l (loops_of above ts n l)
  unfolding loops_of loop_from
  looped zero [] m left = looped_none
  looped zero (s ∷ l) m left = absurd (omega arith)
  looped (suc n) [] m left = looped_none
  looped (suc n) (s ∷ l) m left =
      let w = circuit (f s l left []) s (length l) (f s l left [] s) in
      let k = loop_walked (next_crossed above ts (above s.low)) (next_crossed above ts (not (above s.low))) s l (permuted_by (above s.low) left.permuted) in
      looped_cons s l left w k (loops_of above ts n (strike_all w l)) (looped n (strike_all w l) (omega (arith, strike-all-short w l)) (rest-left s l left w k))
