-- The words before and after the walk: marks taken away, sides counted, and what stays.
use Prim.Native.Nat.{ℕ, zero, suc, ◌+◌, ◌*◌, ◌/◌, ◌-◌, ◌<◌, ◌≤◌}
use mathlib.Core.Path.{◌≡◌, refl, sym, ◌∙◌, ap, subst}
use mathlib.Core.Bool.{Bool, true, false, ◌&&◌, cond}
use mathlib.Core.List.{List, [], ◌∷◌, ◌++◌, append-nil}
use native.Mathlib.Omega.{arith}
use lib.Dec.{eqb, ltb}
use lib.ListN.{length, take, drop, drop_of_length-le}
use lib.Seq.{get_or-set_other, length-take-le}
use Rattle.surface.specs.Closed.{one}
use Rattle.surface.specs.Triangle.{triangles}
use Rattle.outlines.specs.Crossing.{crossings}
use Rattle.outlines.specs.Outline.{outlines, place_words}
use Rattle.halfedges.specs.Place.{at}
use Rattle.sides.specs.Side.{Twin, twins-from, sides-from, sorted}
use Rattle.sides.specs.Whole.{Listed}
use Rattle.sides.proofs.Order.{among-at}
use Rattle.outlines.specs.Side.{Each}
use Rattle.outlines.specs.Stages.Trace.{kinds-from, marks-from, next_place, up_place, open?, with_mark, mark_all, loop_of, open_after, open_count, Unmarked, Walkable, Progress, side_done, sides_done, Arranged, Traced}
use Rattle.outlines.specs.Stages.Whole.{above_by, Kinded, SidesPrepared, KindsKept, Outlined}
use Rattle.outlines.proofs.Lists.{each_at, drop-first}
use Rattle.outlines.proofs.Reading.{up-low, next_low}
use Rattle.outlines.proofs.Following.{Same, same_self, same-ready, ready_marked, follow-low}
use Rattle.outlines.proofs.Tracing.{same-mark-all, stand, looped, kept, gone}
use Rattle.outlines.proofs.Stepping.{side_at, Kinds}
use Rattle.outlines.proofs.Remaining.{open_sides}
use Rattle.outlines.proofs.Listing.{open_crossings, answered}

-- ---- the open sides are counted

pub record Counting (c : List ℕ) (p : ℕ) (w : List ℕ) (r i n : ℕ) : Type 0 where
  pub low : i ≤ r
  pub few : n ≤ i
  pub rest : n + open_count c p w (drop i (sorted c p)) ≡ open_count c p w (sorted c p)

pub counting_first : (c : List ℕ) (p : ℕ) (w : List ℕ) (r : ℕ) → Counting c p w r 0 0
counting_first c p w r = record { low = omega arith; few = omega arith; rest = omega arith }

pub counting_turn : (c : List ℕ) (p : ℕ) (w : List ℕ) (r i i' n n' k : ℕ) → Arranged c p w r → Counting c p w r i n → i < r → k ≡ at w (sides-from c p + i) → n' ≡ open_after c p w k n → i' ≡ suc i → Counting c p w r i' n'
unfolding open_count
counting_turn c p w r i i' n n' k a h l ek en ei = go (open? c p w k) refl
  where
    split : drop i (sorted c p) ≡ k ∷ drop (suc i) (sorted c p)
    split = drop-first (sorted c p) i k (omega (arith, a.count)) (ek ∙ a.each i l)

    next : open_count c p w (drop i' (sorted c p)) ≡ open_count c p w (drop (suc i) (sorted c p))
    next = ap (λ (j : ℕ). open_count c p w (drop j (sorted c p))) ei

    go : (b : Bool) → open? c p w k ≡ b → Counting c p w r i' n'
    go true e =
        let d : n' ≡ n + 1 = en ∙ ap (λ (b : Bool). cond b (n + 1) n) e in
        let g : open_count c p w (drop i (sorted c p)) ≡ suc (open_count c p w (drop (suc i) (sorted c p))) = ap (open_count c p w) split ∙ ap (λ (b : Bool). cond b (suc (open_count c p w (drop (suc i) (sorted c p)))) (open_count c p w (drop (suc i) (sorted c p)))) e in
        record { low = omega arith; few = omega (arith, h.few); rest = omega (arith, h.rest, next) }
    go false e =
        let d : n' ≡ n = en ∙ ap (λ (b : Bool). cond b (n + 1) n) e in
        let g : open_count c p w (drop i (sorted c p)) ≡ open_count c p w (drop (suc i) (sorted c p)) = ap (open_count c p w) split ∙ ap (λ (b : Bool). cond b (suc (open_count c p w (drop (suc i) (sorted c p)))) (open_count c p w (drop (suc i) (sorted c p)))) e in
        record { low = omega arith; few = omega (arith, h.few); rest = omega (arith, h.rest, next) }

pub counting_last : (c : List ℕ) (p : ℕ) (w : List ℕ) (r i n : ℕ) → Arranged c p w r → Counting c p w r i n → r ≤ i → n ≡ open_count c p w (sorted c p)
unfolding open_count
counting_last c p w r i n a h l = let e = ap (open_count c p w) (drop_of_length-le (sorted c p) {i = i} (omega (arith, a.count))) in omega (arith, h.rest)

open_long : (c : List ℕ) (p : ℕ) (w : List ℕ) (ks : List ℕ) → open_count c p w ks ≡ length (open_sides c p w ks)
unfolding open_count open_sides
open_long c p w [] = refl
open_long c p w (k ∷ ks) = go (open? c p w k) (open_long c p w ks)
  where
    go : (b : Bool) → open_count c p w ks ≡ length (open_sides c p w ks)
        → cond b (suc (open_count c p w ks)) (open_count c p w ks) ≡ length (cond b (side_at c k ∷ open_sides c p w ks) (open_sides c p w ks))
    go true e = ap suc e
    go false e = e

-- ---- the kinds, as the words say them

one_of : (x : ℕ) → x ≤ 1 → x ≡ one (eqb x 1)
one_of zero l = refl
one_of (suc zero) l = refl
one_of (suc (suc x)) l = absurd (omega arith)

pub kinds_are : (c : List ℕ) (p : ℕ) (w : List ℕ) → ((v : ℕ) → v < p → at w (kinds-from c p + v) ≤ 1) → Kinds c p (above_by c p w) w
kinds_are c p w k v l = one_of (at w (kinds-from c p + v)) (k v l)

-- ---- the words are prepared

module _ (c : List ℕ) (p : ℕ) (w w₁ w₂ : List ℕ) (r : ℕ) (lent : Kinded c p w) (long₁ : length w₁ ≡ length w) (listed : Listed c p w w₁ r) (long₂ : length w₂ ≡ length w₁) where
  pub arranged : ((j : ℕ) → j < marks-from c p → at w₂ j ≡ at w₁ j) → Arranged c p w₂ r
  arranged under = record {
    ready = record {
      thirds = lent.thirds;
      few = lent.few;
      points = lent.points;
      below = lent.below;
      room = omega (arith, lent.room);
      twins = λ k l. subst (Twin c k) (sym (under (twins-from c p + k) (omega arith))) (listed.twins k l);
    };
    count = listed.count;
    few = omega (arith, listed.half);
    each = λ i l. under (sides-from c p + i) (omega (arith, listed.half)) ∙ listed.each i l;
    upward = λ i l. listed.order.sound (at (sorted c p) i) (among-at (sorted c p) i (omega (arith, listed.count)));
  }

  module _ (unmarked : Unmarked c p w₁ w₂ (length c)) where
    far : (j : ℕ) → marks-from c p + length c ≤ j → at w₂ j ≡ at w j
    far j l = unmarked.over j l ∙ listed.rest.over j (omega (arith, listed.half))

    kind-kept : (v : ℕ) → v < p → at w₂ (kinds-from c p + v) ≡ at w (kinds-from c p + v)
    kind-kept v l = unmarked.under (kinds-from c p + v) (omega arith) ∙ listed.rest.over (kinds-from c p + v) (omega (arith, listed.half))

    pub prepared : (n : ℕ) → n ≡ open_count c p w₂ (sorted c p) → SidesPrepared c p w₂ (length c / 2) n × KindsKept c p w w₂
    prepared n e =
        let a = arranged unmarked.under in
        let h : r ≡ length c / 2 = omega (arith, listed.half) in
        let kinds : (v : ℕ) → v < p → at w₂ (kinds-from c p + v) ≤ 1 = λ v l. subst (λ (x : ℕ). x ≤ 1) (sym (kind-kept v l)) (lent.kinds v l) in (
          record {
            arranged = subst (Arranged c p w₂) h a;
            closed = lent.closed;
            kinds = kinds;
            blank = unmarked.blank;
            total-is = e ∙ open_long c p w₂ (sorted c p) ∙ ap length (open_crossings c p w₂ lent.closed (above_by c p w₂) a.ready (kinds_are c p w₂ kinds) unmarked.blank);
          },
          record { kinds = kind-kept; far = far },
        )

-- ---- what the walk keeps

mark-all-far : (c : List ℕ) (p : ℕ) (w : List ℕ) (ks : List ℕ) → Walkable c p w → Each (λ (k : ℕ). k < length c) ks → (j : ℕ) → marks-from c p + length c ≤ j → at (mark_all c p w ks) j ≡ at w j
unfolding mark_all Each
mark-all-far c p w [] r e j l = refl
mark-all-far c p w (k ∷ ks) r e j l =
    mark-all-far c p (with_mark c p w k) ks (ready_marked c p w (with_mark c p w k) k r refl) e.1 j l
    ∙ get_or-set_other w (marks-from c p + up_place c p w k) j 1 0 (λ d. omega (arith, up-low c p w k r e.0))

done-keeps : (c : List ℕ) (p n : ℕ) (js : List ℕ) → Each (λ (k : ℕ). k < length c) js → (w l : List ℕ) (f q : ℕ) → Walkable c p w
    → Same c p w (sides_done c p n js (stand w l f q)).work × ((j : ℕ) → marks-from c p + length c ≤ j → at (sides_done c p n js (stand w l f q)).work j ≡ at w j)
unfolding sides_done Each
done-keeps c p n [] e w l f q r = (same_self c p w, λ j m. refl)
done-keeps c p n (k ∷ js) e w l f q r = go (open? c p w k && ltb f n) refl (done-keeps c p n js e.1)
  where
    places : List ℕ
    places = loop_of c p w n f k

    low : Each (λ (i : ℕ). i < length c) places
    low = (e.0, follow-low c p w r k (n - suc f) (next_place c p w k) (next_low c p w k r e.0))

    Keeps : Progress → Type 0
    Keeps s = Same c p w (sides_done c p n js s).work × ((j : ℕ) → marks-from c p + length c ≤ j → at (sides_done c p n js s).work j ≡ at w j)

    go : (b : Bool) → (open? c p w k && ltb f n) ≡ b
        → ((w l : List ℕ) (f q : ℕ) → Walkable c p w → Same c p w (sides_done c p n js (stand w l f q)).work × ((j : ℕ) → marks-from c p + length c ≤ j → at (sides_done c p n js (stand w l f q)).work j ≡ at w j))
        → Keeps (side_done c p n k (stand w l f q))
    go false d i = subst Keeps (sym (kept c p n k w l f q d)) (i w l f q r)
    go true d i =
        let w' = mark_all c p w places in
        let s = same-mark-all c p w w places (same_self c p w) in
        let h = i w' (looped c p n k w l f q).list (looped c p n k w l f q).filled (suc q) (same-ready c p w w' s r) in
        subst Keeps (sym (gone c p n k w l f q d)) (
          record { size = h.0.size ∙ s.size; low = λ j m. h.0.low j m ∙ s.low j m },
          λ j m. h.1 j m ∙ mark-all-far c p w places r low j m,
        )

-- the answer's front is lent for the walk, and comes back
pub outlined : (c : List ℕ) (p : ℕ) (w w' l f l' : List ℕ) (r total q : ℕ) → SidesPrepared c p w r total → 3 * total ≤ length l → Traced c p (length (take (3 * total) l) / 3) w w' (take (3 * total) l) f q → l' ≡ f ++ drop (3 * total) l → Outlined c p w w' l l' q
outlined c p w w' l f l' r total q h room t e =
    let a = h.arranged in
    let long : length (take (3 * total) l) ≡ 3 * total = length-take-le (3 * total) l room in
    let n : length (take (3 * total) l) / 3 ≡ total = omega arith in
    let t' : Traced c p total w w' (take (3 * total) l) f q = subst (λ (m : ℕ). Traced c p m w w' (take (3 * total) l) f q) n t in
    let o = answered c p w h.closed (above_by c p w) a.ready (kinds_are c p w h.kinds) h.blank total w' (take (3 * total) l) f q h.total-is (omega arith) t' in
    let k = done-keeps c p total (sorted c p) (each_at (λ (k : ℕ). k < length c) (sorted c p) (λ i m. (a.upward i (omega (arith, a.count))).low)) w (take (3 * total) l) 0 0 a.ready in
    record {
      list = e ∙ ap (λ (x : List ℕ). x ++ drop (3 * total) l) (o.list ∙ ap (λ (x : List ℕ). place_words (outlines (above_by c p w) (triangles c)) ++ x) (drop_of_length-le (take (3 * total) l) {i = 3 * length (crossings (above_by c p w) (triangles c))} (omega (arith, h.total-is))) ∙ append-nil (place_words (outlines (above_by c p w) (triangles c))))
          ∙ ap (λ (m : ℕ). place_words (outlines (above_by c p w) (triangles c)) ++ drop (3 * m) l) h.total-is;
      loop-count = o.count;
      kept = record {
        kinds = λ v m. ap (λ (x : List ℕ). at x (kinds-from c p + v)) t'.work ∙ k.0.low (kinds-from c p + v) (omega arith);
        far = λ j m. ap (λ (x : List ℕ). at x j) t'.work ∙ k.1 j m;
      };
    }
