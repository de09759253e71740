-- Before the first loop, where no side is marked, the open sides are the crossed ones; so the program's answer is the list of outlines.
use Prim.Native.Nat.{ℕ, ◌+◌, ◌*◌, ◌<◌, ◌≤◌}
use mathlib.Core.Path.{◌≡◌, refl, sym, ◌∙◌, ap, ap₂, subst}
use mathlib.Core.Logic.{inl, inr}
use mathlib.Core.Bool.{Bool, true, false, not}
use mathlib.Core.List.{List, [], ◌∷◌, ◌++◌}
use native.Mathlib.Omega.{arith}
use native.Mathlib.Nat.{zero-add}
use lib.Dec.{eqb}
use lib.ListN.{length, drop}
use borrow.Author.Tests.{eq-eqb}
use Rattle.surface.specs.Triangle.{triangles}
use Rattle.surface.specs.Closed.{one, Closed}
use Rattle.surface.proofs.Bools.{both, join}
use Rattle.surface.proofs.Bridge.{closed_surface_lem}
use Rattle.halfedges.specs.Place.{nx, at}
use Rattle.sides.specs.Side.{sorted}
use Rattle.sides.specs.Order as order
use Rattle.sides.specs.Order.{Among, Upward, Sorted}
use Rattle.sides.proofs.Order.{sorted-is}
use Rattle.sides.proofs.Meeting.{met_of}
use Rattle.outlines.specs.Side.{Side, side_of, same?, tally, Ascending}
use Rattle.outlines.specs.Crossing.{crossed?, crossings}
use Rattle.outlines.specs.Outline.{loops_of, outlines, loops, place_words}
use Rattle.outlines.specs.Request.{sides_of}
use Rattle.outlines.specs.Stages.Trace.{marks-from, up_place, crossed_place, open?, Walkable, Traced}
use Rattle.outlines.proofs.Lists.{each-among}
use Rattle.outlines.proofs.Sides.{Compared, alike, unlike, compared, same_refl, In, count-each, by-low, by_high, before, Before, rises-only}
use Rattle.outlines.proofs.Crossings.{crossings_rise, crossings-whole, crossings-sound}
use Rattle.outlines.proofs.Joins.{crossed-is}
use Rattle.outlines.proofs.Loops.{Left}
use Rattle.outlines.proofs.Laws.{all_left, loops_looped}
use Rattle.outlines.proofs.Reading.{from_low, to_low}
use Rattle.outlines.proofs.Stepping.{place_at, has-spot, side_at, eqb_one, Kinds}
use Rattle.outlines.proofs.Remaining.{open_sides, low-is, high_is, up_is}
use Rattle.outlines.proofs.Written.{write_loops, loops-written}
use Rattle.outlines.proofs.Answer.{done}

module _ (c : List ℕ) (p : ℕ) (w : List ℕ) where
  -- an open side and its place
  record Opened (js : List ℕ) (s : Side) : Type 0 where
    k : ℕ
    among : Among k js
    is_open : open? c p w k ≡ true
    is : s ≡ side_at c k

  in_open : (js : List ℕ) (s : Side) → In s (open_sides c p w js) → Opened js s
  unfolding open_sides tally
  in_open [] s h = absurd (omega arith)
  in_open (j ∷ js) s h = go (open? c p w j) refl (compared s (side_at c j)) (in_open js s)
    where
      further : Opened js s → Opened (j ∷ js) s
      further o = record { k = o.k; among = inr o.among; is_open = o.is_open; is = o.is }

      go : (b : Bool) → open? c p w j ≡ b → Compared s (side_at c j) → (In s (open_sides c p w js) → Opened js s) → Opened (j ∷ js) s
      go true e (alike d g) i = record { k = j; among = inl refl; is_open = e; is = d }
      go true e (unlike d g) i = let h' : In s (side_at c j ∷ open_sides c p w js) = rw (e, open_sides) at h in further (i (omega (arith, ap one g)))
      go false e x i = let h' : In s (open_sides c p w js) = rw (e, open_sides) at h in further (i h')

  open_in : (js : List ℕ) (k : ℕ) → Among k js → open? c p w k ≡ true → In (side_at c k) (open_sides c p w js)
  unfolding open_sides tally
  open_in [] k a e = absurd a
  open_in (j ∷ js) k (inl d) e = let e' : open? c p w j ≡ true = ap (open? c p w) (sym d) ∙ e in rw (e', open_sides) (omega (arith, ap one (ap (λ (i : ℕ). same? (side_at c k) (side_at c i)) (sym d) ∙ same_refl (side_at c k))))
  open_in (j ∷ js) k (inr a) e = go (open? c p w j) refl (open_in js k a e)
    where
      go : (b : Bool) → open? c p w j ≡ b → In (side_at c k) (open_sides c p w js) → In (side_at c k) (open_sides c p w (j ∷ js))
      go true d i = rw (d, open_sides) (omega arith)
      go false d i = rw (d, open_sides) i

  module _ (closed : Closed (triangles c)) where
    before_of : (j k : ℕ) → Upward c j → Upward c k → order.Before c j k → Before (side_at c j) (side_at c k)
    before_of j k u v (inl l) = before (side_at c j) (side_at c k) (by-low (omega (arith, low-is c p closed j u, low-is c p closed k v)))
    before_of j k u v (inr l) = before (side_at c j) (side_at c k) (by_high (omega (arith, low-is c p closed j u, low-is c p closed k v)) (omega (arith, high_is c p closed j u, high_is c p closed k v)))

    open_rises : (js : List ℕ) → ((k : ℕ) → Among k js → Upward c k) → order.Rises c js → Ascending (open_sides c p w js)
    unfolding open_sides Ascending
    open_rises [] u r = tt
    open_rises (j ∷ js) u r = go (open? c p w j) refl (open_rises js (λ k a. u k (inr a)) r.1)
      where
        go : (b : Bool) → open? c p w j ≡ b → Ascending (open_sides c p w js) → Ascending (open_sides c p w (j ∷ js))
        go true e i = rw (e, open_sides) (count-each (Before (side_at c j)) (open_sides c p w js) (λ s h. later s (in_open js s h)), i)
          where
            later : (s : Side) → Opened js s → Before (side_at c j) s
            later s o = subst (Before (side_at c j)) (sym o.is) (before_of j o.k (u j (inl refl)) (u o.k (inr o.among)) (r.0 o.k o.among))
        go false e i = rw (e, open_sides) i

    module _ (above : ℕ → Bool) (r : Walkable c p w) (kinds : Kinds c p above w) (blank : (k : ℕ) → k < length c → at w (marks-from c p + k) ≡ 0) where
      listed : Sorted c (sorted c p)
      listed = sorted-is c p (met_of c r.thirds closed) (λ k l. to_low c p w k r l)

      crossed-same : (k : ℕ) → k < length c → crossed_place c p w k ≡ crossed? above (side_at c k)
      crossed-same k l =
          ap not (ap₂ eqb (kinds (at c k) (from_low c p w k r l)) (kinds (at c (nx k)) (to_low c p w k r l)) ∙ eqb_one (above (at c k)) (above (at c (nx k)))) ∙ sym (crossed-is above (at c k) (at c (nx k)))

      pub open_crossings : open_sides c p w (sorted c p) ≡ crossings above (triangles c)
      open_crossings = rises-only _ _ (open_rises (sorted c p) listed.sound listed.rises) (crossings_rise above (triangles c)) there back
        where
          there : (s : Side) → In s (open_sides c p w (sorted c p)) → In s (crossings above (triangles c))
          there s h =
              let o = in_open (sorted c p) s h in
              let l = (listed.sound o.k o.among).low in
              let e = (both (crossed_place c p w o.k) (eqb (at w (marks-from c p + o.k)) 0) o.is_open).0 in
              subst (λ (t : Side). In t (crossings above (triangles c))) (sym o.is)
              (crossings-whole above (triangles c) (place_at c r.thirds o.k l) (sym (crossed-same o.k l) ∙ e))

          back : (s : Side) → In s (crossings above (triangles c)) → In s (open_sides c p w (sorted c p))
          back s h =
              let f = crossings-sound above (triangles c) s h in
              let q = has-spot c r.thirds f.has in
              let u = up_is c p closed w r q.k q.low in
              let v = up_place c p w q.k in
              let is : side_at c v ≡ s = u.side-is ∙ ap₂ side_of q.from q.to ∙ sym f.is in
              let e : open? c p w v ≡ true =
              join (crossed_place c p w v) (eqb (at w (marks-from c p + v)) 0) (crossed-same v u.upward.low ∙ ap (crossed? above) is ∙ f.crossed)
              (eq-eqb (at w (marks-from c p + v)) 0 (blank v u.upward.low)) in
              subst (λ (t : Side). In t (open_sides c p w (sorted c p))) is (open_in (sorted c p) v (listed.whole v u.upward) e)

      -- the program's answer
      pub record Answered (l l' : List ℕ) (loop-count : ℕ) : Type 0 where
        pub list : l' ≡ place_words (outlines above (triangles c)) ++ drop (3 * length (crossings above (triangles c))) l
        pub count : loop-count ≡ length (loops above (triangles c))

      pub answered : (total : ℕ) (w' l l' : List ℕ) (q : ℕ) → total ≡ length (crossings above (triangles c)) → 3 * total ≤ length l → Traced c p total w w' l l' q → Answered l l' q
      unfolding place_words
      answered total w' l l' q et room t =
          let e = open_crossings in
          let ts = triangles c in
          let n = length (crossings above ts) in
          let d = done c p total above closed (sorted c p) w l 0 0 n (record {
            ready = r;
            kinds = kinds;
            upward = each-among (sorted c p) listed.sound;
            left = subst (Left above ts (closed_surface_lem closed)) (sym e) (all_left above ts (closed_surface_lem closed));
            room = omega (arith, ap length e, et);
          }) (omega (arith, ap length e)) in
          let ls = ap (loops_of above ts n) e in
          let long : length (sides_of (loops above ts)) ≡ n = (loops_looped above ts (closed_surface_lem closed)).long in
          record {
            list = t.list ∙ d.list ∙ ap (write_loops l 0 0) ls ∙ loops-written [] l 0 0 (loops above ts) refl (omega (arith, long, room, et))
                ∙ ap (λ (i : ℕ). place_words (outlines above ts) ++ drop (3 * i) l) long;
            count = t.loops ∙ d.loops ∙ zero-add _ ∙ ap length ls;
          }
