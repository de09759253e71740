-- The request's sentences leave no choice: on a closed list, whatever has them all is the list that `outlines` computes.
use Prim.Native.Nat.{ℕ, zero, suc, ◌+◌, ◌≤◌, ◌<◌}
use mathlib.Core.Path.{◌≡◌, refl, sym, ◌∙◌, ap, ap₂, subst}
use mathlib.Core.Logic.{◌⊎◌, inl, inr}
use mathlib.Core.Bool.{Bool, true, false, not, ◌&&◌, cond, beq, not-not, true≢false}
use mathlib.Core.List.{List, [], ◌∷◌, map}
use native.Mathlib.Omega.{arith}
use lib.Dec.{eqb}
use lib.ListN.{length}
use Rattle.surface.specs.Triangle.{Tri}
use Rattle.surface.specs.Closed.{one, Closed}
use Rattle.surface.specs.Edit.{place}
use Rattle.surface.proofs.Bools.{both, join, not_true}
use Rattle.surface.proofs.Reading.{Reads, r0, r1, r2, reads_eq}
use Rattle.surface.proofs.Surface.{Surface, next_of}
use Rattle.surface.proofs.Places.{place-has}
use Rattle.surface.proofs.Hinged.{runs_reads}
use Rattle.surface.proofs.Bridge.{closed_surface_lem}
use Rattle.outlines.specs.Side.{Side, side_of, same?, before?, tally, times_in, Each, Ascending, strike_all}
use Rattle.outlines.specs.Crossing.{crossed?, crossed_triangle?, crossings, next_crossed}
use Rattle.outlines.specs.Outline.{Loop, Place, circuit, loop_from, loops_of, numbered_loops, outlines, loops}
use Rattle.outlines.specs.Request.{sides_of, Neighbours, neighbours_from, neighbours, joins?, Shared, Directed, Outlines}
use Rattle.outlines.proofs.Lists.{each-front, each_back, tally-append}
use Rattle.outlines.proofs.Sides.{Compared, alike, unlike, compared, same_refl, In, in_first, each-count, Before, before_trans, before_irreflexive, strike-all-short}
use Rattle.outlines.proofs.Cycles.{Chain, Walked, loop_walked}
use Rattle.outlines.proofs.Crossings.{side_swap, not_both, beq_same, beq_other, crossed-ends, At, from-smaller, to-larger, next-crossed-is, next-crossed-back, found_at, at-found}
use Rattle.outlines.proofs.Joins.{Turned, zero-turns, one_turn, two-turns, turned, pair, crossed-is, has_side, side_reads, joins_through}
use Rattle.outlines.proofs.Loops.{Left, permuted_by, rest-left}
use Rattle.outlines.proofs.Laws.{crossed_in, in_crossed, once_in, all_left}

-- ---- one triangle

-- a triangle with a crossed side is crossed
pub read-crossed : (above : ℕ → Bool) (t : Tri) {x y z : ℕ} {up : Bool} → Reads t x y z → above x ≡ up → above y ≡ not up → crossed_triangle? above t ≡ true
read-crossed above t {x} {y} {z} {up} r e f =
    rw (crossed-is above t.a t.b, crossed-is above t.b t.c, crossed-is above t.c t.a) (go (above t.a) refl (above t.b) refl (above t.c) refl)
  where
    level : (p : Bool) → above t.a ≡ p → above t.b ≡ p → above t.c ≡ p → ⊥
    level p a b c = pick r
      where
        pick : Reads t x y z → ⊥
        pick (r0 i j k) = not_both {p = p} {up = up} (sym a ∙ ap above i ∙ e) (sym b ∙ ap above j ∙ f)
        pick (r1 i j k) = not_both {p = p} {up = up} (sym b ∙ ap above i ∙ e) (sym c ∙ ap above j ∙ f)
        pick (r2 i j k) = not_both {p = p} {up = up} (sym c ∙ ap above i ∙ e) (sym a ∙ ap above j ∙ f)

    go : (p : Bool) → above t.a ≡ p → (q : Bool) → above t.b ≡ q → (r : Bool) → above t.c ≡ r
        → eqb (one (not (beq (above t.a) (above t.b))) + (one (not (beq (above t.b) (above t.c))) + one (not (beq (above t.c) (above t.a))))) 2 ≡ true
    go true a true b true c = absurd (level true a b c)
    go false a false b false c = absurd (level false a b c)
    go true a true b false c = rw (a, b, c) refl
    go true a false b true c = rw (a, b, c) refl
    go true a false b false c = rw (a, b, c) refl
    go false a true b true c = rw (a, b, c) refl
    go false a true b false c = rw (a, b, c) refl
    go false a false b true c = rw (a, b, c) refl

pub record Joined (t : Tri) (a b : Side) : Type 0 where
  pub first : has_side t a ≡ true
  pub second : has_side t b ≡ true
  pub differ : a ≡ b → ⊥

pub joined : (t : Tri) (a b : Side) → joins? t (pair a b) ≡ true → Joined t a b
joined t a b k =
    let p = both (has_side t a) (has_side t b && not (same? a b)) k in
    let q = both (has_side t b) (not (same? a b)) p.1 in
    record { first = p.0; second = q.0; differ = λ e. true≢false (sym (same_refl b) ∙ ap (λ (s : Side). same? s b) (sym e) ∙ not_true (same? a b) q.1) }

pub joins-back : (t : Tri) (a b : Side) → joins? t (pair a b) ≡ true → joins? t (pair b a) ≡ true
joins-back t a b k = let j = joined t a b k in join (has_side t b) (has_side t a && not (same? b a)) j.second (join (has_side t a) (not (same? b a)) j.first (go (compared b a) j.differ))
  where
    go : Compared b a → (a ≡ b → ⊥) → not (same? b a) ≡ true
    go (alike e f) n = absurd (n (sym e))
    go (unlike e f) n = ap not f

module _ (above : ℕ → Bool) (ts : List Tri) (c : Surface ts) where
  -- the side to which a triangle joins one that it runs the way `up`
  leads-on : (up : Bool) (i : ℕ) → i < length ts → (b d : Side) (a : At above ts up b) (e : At above ts up d) {w : ℕ} → Reads (place ts i) a.x a.y w → Joined (place ts i) b d → d ≡ next_crossed above ts up b
  leads-on up i l b d a e {w} r j = go (side_reads (place ts i) e.x e.y (ap (has_side (place ts i)) (sym e.is) ∙ j.second))
    where
      apex : w ≡ a.z
      apex = next_of c (place-has ts i l r) a.has

      goes : (k : Bool) → beq (above a.z) up ≡ k → next_crossed above ts up b ≡ cond k (side_of a.z a.y) (side_of a.x a.z)
      goes k m = next-crossed-is above ts c up b a ∙ ap (λ (k : Bool). cond k (side_of a.z a.y) (side_of a.x a.z)) m

      crossed : (u v : ℕ) → d ≡ side_of u v → above v ≡ not (above u)
      crossed u v m = crossed-ends above u v (ap (crossed? above) (sym m) ∙ (in_crossed above ts c d (at-found above ts c up d e)).crossed)

      found : (u v : ℕ) → d ≡ side_of u v → Turned a.x a.y w u v → d ≡ next_crossed above ts up b
      found u v m (zero-turns p q) = absurd (j.differ (a.is ∙ sym (ap₂ side_of p q) ∙ sym m))
      found u v m (one_turn p q) =
          let z : above a.z ≡ up = ap above (sym (q ∙ apex)) ∙ crossed u v m ∙ ap not (ap above p ∙ a.to) ∙ not-not up in
          m ∙ ap₂ side_of p (q ∙ apex) ∙ side_swap a.y a.z ∙ sym (goes true (beq_same (above a.z) up z))
      found u v m (two-turns p q) =
          let z : above a.z ≡ not up = ap above (sym (p ∙ apex)) ∙ sym (not-not (above u)) ∙ ap not (sym (crossed u v m)) ∙ ap not (ap above q ∙ a.from) in
          m ∙ ap₂ side_of (p ∙ apex) q ∙ side_swap a.z a.x ∙ sym (goes false (beq_other (above a.z) up z))

      go : ((v : ℕ) × Reads (place ts i) e.x e.y v) ⊎ ((v : ℕ) × Reads (place ts i) e.y e.x v) → d ≡ next_crossed above ts up b
      go (inl q) = found e.x e.y e.is (turned r q.1)
      go (inr q) = found e.y e.x (e.is ∙ side_swap e.x e.y) (turned r q.1)

  -- ---- a loop

  pub AllAt : Bool → List Side → Type 0
  AllAt up l = (s : Side) → In s l → At above ts up s

  abbrev pub AtMostOnce : List Neighbours → Type 0
  AtMostOnce l = (i : ℕ) → i < length ts → crossed_triangle? above (place ts i) ≡ true → tally (joins? (place ts i)) l ≤ 1

  -- the side after b is the next, where a is the one before
  next-is : (up : Bool) (a b d : Side) (l : List Neighbours) → At above ts up a → At above ts up b → At above ts up d → b ≡ next_crossed above ts up a → Shared ts (pair b d) → AtMostOnce (pair a b ∷ pair b d ∷ l)
      → d ≡ next_crossed above ts up b
  unfolding tally
  next-is up a b d l ea eb ed e s m = go (side_reads t eb.x eb.y (ap (has_side t) (sym eb.is) ∙ (joined t b d s.2).first))
    where
      t : Tri
      t = place ts s.0

      go : ((v : ℕ) × Reads t eb.x eb.y v) ⊎ ((v : ℕ) × Reads t eb.y eb.x v) → d ≡ next_crossed above ts up b
      go (inl r) = leads-on up s.0 s.1 b d eb ed r.1 (joined t b d s.2)
      go (inr r) =
          let back : At above ts (not up) b = record { x = eb.y; y = eb.x; z = r.0; has = place-has ts s.0 s.1 r.1; is = eb.is ∙ side_swap eb.x eb.y; from = eb.to; to = eb.from ∙ sym (not-not up) } in
          let is-a : next_crossed above ts (not up) b ≡ a = ap (next_crossed above ts (not up)) e ∙ next-crossed-back above ts c up a ea in
          let j : joins? t (pair b a) ≡ true = ap (λ (x : Side). joins? t (pair b x)) (sym is-a) ∙ joins_through above ts c (not up) t b back r.1 in
          absurd (omega (arith, m s.0 s.1 (read-crossed above t r.1 eb.to (eb.from ∙ sym (not-not up))), ap one (joins-back t b a j), ap one s.2))

  chain-from : (up : Bool) (start a b : Side) (w : List Side) → At above ts up start → At above ts up a → AllAt up (b ∷ w) → b ≡ next_crossed above ts up a → Each (Shared ts) (neighbours_from start b w)
      → AtMostOnce (pair a b ∷ neighbours_from start b w) → Chain (next_crossed above ts up) start (next_crossed above ts up b) w
  unfolding Each neighbours_from Chain tally AllAt
  chain-from up start a b [] es ea all e s m = sym (next-is up a b start [] ea (all b (in_first b [])) es e s.0 m)
  chain-from up start a b (d ∷ w) es ea all e s m =
      let eb = all b (in_first b (d ∷ w)) in
      let ed = all d (omega (arith, in_first d w)) in
      let n = next-is up a b d (neighbours_from start d w) ea eb ed e s.0 (λ i l k. m i l k) in
      (n, chain-from up start b d w es eb (λ t h. all t (omega arith)) n s.1 (λ i l k. omega (arith, m i l k)))

  loop-chain : (s : Side) (w : List Side) → AllAt (above s.low) (s ∷ w) → Each (Shared ts) (neighbours_from s s w) → AtMostOnce (neighbours_from s s w) → Directed ts (record { start = s; rest = w })
      → Chain (next_crossed above ts (above s.low)) s (next_crossed above ts (above s.low) s) w
  unfolding Each neighbours_from Chain tally AllAt
  loop-chain s [] all sh m d = absurd ((joined (place ts d.0) s s d.3).differ refl)
  loop-chain s (b ∷ w) all sh m d =
      let up = above s.low in
      let es = all s (in_first s (b ∷ w)) in
      let eb = all b (omega (arith, in_first b w)) in
      let r = runs_reads (place ts d.0) s.low s.high d.2 in
      let n = leads-on up d.0 d.1 s b es eb (reads_eq (sym (from-smaller above ts c s es)) (sym (to-larger above ts c s es)) refl r.1) (joined (place ts d.0) s b d.3) in
      (n, chain-from up s s b w es es (λ t h. all t (omega arith)) n sh.1 m)

-- ---- lists

chain-only : (f : Side → Side) (start x : Side) (w w' : List Side) → Chain f start x w → Chain f start x w' → times_in start w ≡ 0 → times_in start w' ≡ 0 → w ≡ w'
unfolding Chain tally
chain-only f start x [] [] h k n m = refl
chain-only f start x [] (y ∷ w') h k n m = absurd (omega (arith, ap one (ap (same? start) (k.0 ∙ h) ∙ same_refl start)))
chain-only f start x (y ∷ w) [] h k n m = absurd (omega (arith, ap one (ap (same? start) (h.0 ∙ k) ∙ same_refl start)))
chain-only f start x (y ∷ w) (y' ∷ w') h k n m =
    ap₂ (λ (s : Side) (l : List Side). s ∷ l) (h.0 ∙ sym k.0)
    (chain-only f start (f y) w w' h.1 (subst (λ (z : Side). Chain f start (f z) w') (k.0 ∙ sym h.0) k.1) (omega arith) (omega arith))

abbrev pub Smallest : Loop → Type 0
Smallest k = Each (λ s. before? k.start s ≡ true) k.rest

abbrev pub starts : List Loop → List Side
starts ls = map (λ (k : Loop). k.start) ls

-- no side of the loops is smaller than the first start
module _ (k : Loop) (ls : List Loop) (e : Smallest k) (t : Side) (h : In t (sides_of (k ∷ ls))) where
  in_loop : (In t (sides_of ls) → Before k.start t) → (t ≡ k.start) ⊎ Before k.start t
  unfolding sides_of tally
  in_loop f = go (compared t k.start) (times_in t k.rest) refl
    where
      go : Compared t k.start → (n : ℕ) → times_in t k.rest ≡ n → (t ≡ k.start) ⊎ Before k.start t
      go (alike d g) n m = inl d
      go (unlike d g) (suc n) m = inr (each-count (Before k.start) k.rest e t (omega arith))
      go (unlike d g) zero m = inr (f (omega (arith, ap one g, tally-append (same? t) k.rest (sides_of ls))))

after-start : (k : Loop) (ls : List Loop) → Each Smallest (k ∷ ls) → Ascending (starts (k ∷ ls)) → (t : Side) → In t (sides_of (k ∷ ls)) → (t ≡ k.start) ⊎ Before k.start t
unfolding Each Ascending sides_of tally
after-start k [] e r t h = in_loop k [] e.0 t h (λ i. absurd (omega arith))
after-start k (k' ∷ m) e r t h = in_loop k (k' ∷ m) e.0 t h (λ i. pick (after-start k' m e.1 r.1 t i))
  where
    pick : (t ≡ k'.start) ⊎ Before k'.start t → Before k.start t
    pick (inl d) = subst (Before k.start) (sym d) r.0.0
    pick (inr d) = before_trans k.start k'.start t r.0.0 d

-- ---- all loops

module _ (above : ℕ → Bool) (ts : List Tri) (c : Surface ts) where
  -- loops that have the sentences, of the sides l
  pub record Meets (l : List Side) (ls : List Loop) : Type 0 where
    pub counts : (s : Side) → times_in s (sides_of ls) ≡ times_in s l
    pub shared : Each (Shared ts) (neighbours ls)
    pub joined_once : AtMostOnce above ts c (neighbours ls)
    pub smallest : Each Smallest ls
    pub directed : Each (Directed ts) ls
    pub by-start : Ascending (starts ls)

  module _ (s : Side) (l : List Side) (left : Left above ts c (s ∷ l)) (k : Loop) (ls : List Loop) (h : Meets (s ∷ l) (k ∷ ls)) where
    abbrev up : Bool
    up = above s.low

    abbrev f : Side → Side
    f = next_crossed above ts up

    abbrev w : List Side
    w = circuit f s (length l) (f s)

    pub walked : Walked f (next_crossed above ts (not up)) s (f s) w l
    walked = loop_walked f (next_crossed above ts (not up)) s l (permuted_by above ts c up left.permuted)

    start_in_lem : In k.start (s ∷ l)
    unfolding sides_of tally
    start_in_lem = omega (arith, h.counts k.start, ap one (same_refl k.start))

    pub start_is : k.start ≡ s
    unfolding Ascending tally
    start_is = go (compared k.start s) (after-start k ls h.smallest h.by-start s (omega (arith, h.counts s, in_first s l)))
      where
        go : Compared k.start s → (s ≡ k.start) ⊎ Before k.start s → k.start ≡ s
        go (alike e d) x = e
        go (unlike e d) (inl x) = sym x
        go (unlike e d) (inr x) =
            let b : Before s k.start = each-count (Before s) l left.rises.0 k.start (omega (arith, start_in_lem, ap one d)) in
            absurd (before_irreflexive {s = s} {t = s} refl (before_trans s k.start s b x))

    counted : (t : Side) → times_in t (s ∷ k.rest) + times_in t (sides_of ls) ≡ times_in t (s ∷ l)
    unfolding sides_of tally
    counted t = sym (omega (arith, tally-append (same? t) k.rest (sides_of ls), ap (λ (x : Side). one (same? t x)) start_is)) ∙ h.counts t

    all-at : AllAt above ts c up (s ∷ k.rest)
    unfolding AllAt
    all-at t i = found_at above ts c up t (left.crossed t (omega (arith, counted t)))

    pub rest-is : k.rest ≡ w
    unfolding tally Each neighbours
    rest-is =
        let d = subst (λ (x : Side). Directed ts (record { start = x; rest = k.rest })) start_is h.directed.0 in
        let sh = subst (λ (x : Side). Each (Shared ts) (neighbours_from x x k.rest)) start_is (each-front (Shared ts) (neighbours_from k.start k.start k.rest) (neighbours ls) h.shared) in
        let once : AtMostOnce above ts c (neighbours_from s s k.rest) = subst (λ (x : Side). AtMostOnce above ts c (neighbours_from x x k.rest)) start_is
        (λ i b x. omega (arith, h.joined_once i b x, tally-append (joins? (place ts i)) (neighbours_from k.start k.start k.rest) (neighbours ls))) in
        chain-only f s (f s) k.rest w (loop-chain above ts c s k.rest all-at sh once d) walked.chain
        (omega (arith, counted s, left.permuted.once s, ap one (same_refl s))) (omega (arith, walked.split s, left.permuted.once s, ap one (same_refl s)))

    parts : (t : Side) → times_in t (s ∷ l) + times_in t k.rest ≡ times_in t l + times_in t (s ∷ k.rest)
    unfolding tally
    parts t = omega arith

    pub rest_meets : Meets (strike_all w l) ls
    unfolding Each Ascending neighbours
    rest_meets = record {
      counts = λ t. omega (arith, counted t, walked.split t, parts t, ap (times_in t) rest-is);
      shared = each_back (Shared ts) (neighbours_from k.start k.start k.rest) (neighbours ls) h.shared;
      joined_once = λ i b x. omega (arith, h.joined_once i b x, tally-append (joins? (place ts i)) (neighbours_from k.start k.start k.rest) (neighbours ls));
      smallest = h.smallest.1;
      directed = h.directed.1;
      by-start = h.by-start.1;
    }

  none_left : (l : List Side) (k : Loop) (ls : List Loop) → length l ≡ 0 → Meets l (k ∷ ls) → ⊥
  unfolding sides_of tally
  none_left [] k ls e h = omega (arith, h.counts k.start, ap one (same_refl k.start))
  none_left (s ∷ l) k ls e h = omega arith

  loop_path : (k : Loop) (s : Side) (w : List Side) → k.start ≡ s → k.rest ≡ w → k ≡ record { start = s; rest = w }
  loop_path k s w e f = λ i. record { start = e i; rest = f i }

  only : (n : ℕ) (l : List Side) (ls : List Loop) → Left above ts c l → length l ≤ n → Meets l ls → ls ≡ loops_of above ts n l
  unfolding loops_of loop_from sides_of tally
  only zero l [] left m h = refl
  only zero l (k ∷ ls) left m h = absurd (none_left l k ls (omega arith) h)
  only (suc n) [] [] left m h = refl
  only (suc n) [] (k ∷ ls) left m h = absurd (none_left [] k ls refl h)
  only (suc n) (s ∷ l) [] left m h = absurd (omega (arith, h.counts s, ap one (same_refl s)))
  only (suc n) (s ∷ l) (k ∷ ls) left m h =
      let x = w s l left k ls h in
      let d = walked s l left k ls h in
      ap₂ (λ (a : Loop) (b : List Loop). a ∷ b) (loop_path k s x (start_is s l left k ls h) (rest-is s l left k ls h))
      (only n (strike_all x l) ls (rest-left above ts c s l left x d) (omega (arith, strike-all-short x l)) (rest_meets s l left k ls h))

-- loops that have the sentences of the request are those that `loops` computes
pub loops-only : (above : ℕ → Bool) (ts : List Tri) → Closed ts → (places : List Place) (o : Outlines above ts places) → o.loops ≡ loops above ts
loops-only above ts closed places o = only above ts c (length (crossings above ts)) (crossings above ts) o.loops (all_left above ts c) (omega arith) (record {
  counts = counts;
  shared = o.shared;
  joined_once = λ i b k. omega (arith, o.joined i b k);
  smallest = o.smallest;
  directed = o.direction;
  by-start = o.by-start;
})
  where
    c : Surface ts
    c = closed_surface_lem closed

    counts : (s : Side) → times_in s (sides_of o.loops) ≡ times_in s (crossings above ts)
    counts s = go (times_in s (crossings above ts)) refl (times_in s (sides_of o.loops)) refl
      where
        go : (m : ℕ) → times_in s (crossings above ts) ≡ m → (n : ℕ) → times_in s (sides_of o.loops) ≡ n → times_in s (sides_of o.loops) ≡ times_in s (crossings above ts)
        go zero a zero b = b ∙ sym a
        go zero a (suc n) b = absurd (omega (arith, crossed_in above ts c s (o.no_other s (omega arith))))
        go (suc m) a n b = o.each s (in_crossed above ts c s (omega arith)) ∙ sym (once_in above ts c s (omega arith))

-- whatever has the sentences of the request is the list that `outlines` computes
pub outlines-only : (above : ℕ → Bool) (ts : List Tri) → Closed ts → (places : List Place) → Outlines above ts places → places ≡ outlines above ts
outlines-only above ts closed places o = o.written ∙ ap (numbered_loops 0) (loops-only above ts closed places o)
