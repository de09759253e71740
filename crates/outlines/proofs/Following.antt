-- A loop followed place by place: what is left to do, at each turn, is what was to be done less what is done.
use Prim.Native.Nat.{ℕ, zero, suc, ◌+◌, ◌*◌, ◌-◌, ◌<◌, ◌≤◌}
use mathlib.Core.Path.{◌≡◌, refl, sym, ◌∙◌, ap, ap₂, subst}
use mathlib.Core.Bool.{Bool, true, false, cond}
use mathlib.Core.List.{List, [], ◌∷◌}
use native.Mathlib.Omega.{arith}
use lib.Dec.{eqb, ltb}
use lib.ListN.{length, set, length-set}
use lib.Seq.{get_or-set_other}
use borrow.Author.Tests.{eq-eqb, ne_eqb}
use Rattle.halfedges.specs.Place.{nx, pv, at}
use Rattle.halfedges.proofs.Fine.{nx-below, pv-below}
use Rattle.sides.specs.Side.{Twin, twins-from}
use Rattle.outlines.specs.Side.{Each}
use Rattle.outlines.specs.Stages.Trace.{kinds-from, marks-from, kind_of, next_place, up_place, with_mark, put3, with_place, follow, mark_all, note_all, loop_of, Walkable, Followed}
use Rattle.outlines.proofs.Reading.{up_first, from_low, apex_low, next_low}
use Rattle.sides.specs.Order.{Upward}

-- the words below the marks are as they were
pub record Same (c : List ℕ) (p : ℕ) (w₀ w : List ℕ) : Type 0 where
  pub size : length w ≡ length w₀
  pub low : (j : ℕ) → j < marks-from c p → at w j ≡ at w₀ j

module _ (c : List ℕ) (p : ℕ) (w₀ w : List ℕ) (same : Same c p w₀ w) where
  pub same-ready : Walkable c p w₀ → Walkable c p w
  same-ready r = record {
    thirds = r.thirds;
    few = r.few;
    points = r.points;
    below = r.below;
    room = omega (arith, r.room, same.size);
    twins = λ k l. subst (Twin c k) (sym (same.low (twins-from c p + k) (omega arith))) (r.twins k l);
  }

  pub same_next : Walkable c p w₀ → (k : ℕ) → k < length c → next_place c p w k ≡ next_place c p w₀ k
  same_next r k l =
      let e = same.low (kinds-from c p + at c (pv k)) (omega (arith, apex_low c p w₀ k r l)) in
      let f = same.low (kinds-from c p + at c k) (omega (arith, from_low c p w₀ k r l)) in
      ap₂ (λ (x y : ℕ). at w (twins-from c p + cond (eqb x y) (nx k) (pv k))) e f ∙ same.low (twins-from c p + cond (eqb (kind_of c p w₀ (at c (pv k))) (kind_of c p w₀ (at c k))) (nx k) (pv k)) (go (eqb (kind_of c p w₀ (at c (pv k))) (kind_of c p w₀ (at c k))))
    where
      go : (b : Bool) → twins-from c p + cond b (nx k) (pv k) < marks-from c p
      go true = omega (arith, nx-below (length c) k r.thirds l)
      go false = omega (arith, pv-below (length c) k r.thirds l)

  pub same_up : (k : ℕ) → k < length c → up_place c p w k ≡ up_place c p w₀ k
  same_up k l = ap (cond (ltb (at c k) (at c (nx k))) k) (same.low (twins-from c p + k) (omega arith))

  pub same-marked : (k : ℕ) → Same c p w₀ (with_mark c p w k)
  same-marked k = record {
    size = length-set w (marks-from c p + up_place c p w k) 1 ∙ same.size;
    low = λ j l. get_or-set_other w (marks-from c p + up_place c p w k) j 1 0 (λ e. omega arith) ∙ same.low j l;
  }

pub same_self : (c : List ℕ) (p : ℕ) (w : List ℕ) → Same c p w w
same_self c p w = record { size = refl; low = λ j l. refl }

follow-more : (next : ℕ → ℕ) (start n m k : ℕ) → n ≡ suc m → (k ≡ start → ⊥) → follow next start n k ≡ k ∷ follow next start m (next k)
unfolding follow
follow-more next start n m k e d = ap (λ (i : ℕ). follow next start i k) e ∙ rw (ne_eqb k start d, follow) refl

follow-met : (next : ℕ → ℕ) (start n k : ℕ) → k ≡ start → follow next start n k ≡ []
unfolding follow
follow-met next start zero k e = refl
follow-met next start (suc n) k e = rw (eq-eqb k start e, follow) refl

follow-none : (next : ℕ → ℕ) (start n k : ℕ) → n ≡ 0 → follow next start n k ≡ []
unfolding follow
follow-none next start n k e = ap (λ (i : ℕ). follow next start i k) e

pub put3-long : (l : List ℕ) (f x y z : ℕ) → length (put3 l f x y z) ≡ length l
put3-long l f x y z = length-set (set (set l (3 * f) x) (3 * f + 1) y) (3 * f + 2) z ∙ length-set (set l (3 * f) x) (3 * f + 1) y ∙ length-set l (3 * f) x

-- a visit by the words of the present is one by the words of the start
noted-same : (c : List ℕ) (p : ℕ) (w₀ w l : List ℕ) (k f q : ℕ) → Same c p w₀ w → k < length c → with_place c p w l k f q ≡ with_place c p w₀ l k f q
noted-same c p w₀ w l k f q s b = ap (λ (u : ℕ). put3 l f (at c u) (at c (nx u)) q) (same_up c p w₀ w s k b)

module _ (c : List ℕ) (p : ℕ) (w₀ l₀ : List ℕ) (start k filled total q : ℕ) where
  abbrev pub left : ℕ → ℕ → List ℕ
  left i f = follow (next_place c p w₀) start (total - f) i

  pub record Following (w l : List ℕ) (i f : ℕ) : Type 0 where
    pub same : Same c p w₀ w
    pub low : i < length c
    pub most : f ≤ total
    pub size : length l ≡ length l₀
    pub marks : mark_all c p w (left i f) ≡ mark_all c p w₀ (left k filled)
    pub list : note_all c p w₀ l f q (left i f) ≡ note_all c p w₀ l₀ filled q (left k filled)
    pub count : f + length (left i f) ≡ filled + length (left k filled)

  pub following_first : k < length c → filled ≤ total → Following w₀ l₀ k filled
  following_first low m = record { same = same_self c p w₀; low = low; most = m; size = refl; marks = refl; list = refl; count = refl }

  pub following_turn : Walkable c p w₀ → (w l w' l' : List ℕ) (i i' f f' : ℕ) → Following w l i f → f < total → (i ≡ start → ⊥) → w' ≡ with_mark c p w i → l' ≡ with_place c p w l i f q → i' ≡ next_place c p w' i
      → f' ≡ suc f → Following w' l' i' f'
  unfolding mark_all note_all
  following_turn r w l w' l' i i' f f' h room d ew el ei ef =
      let s : Same c p w₀ w' = subst (Same c p w₀) (sym ew) (same-marked c p w₀ w h.same i) in
      let e : i' ≡ next_place c p w₀ i = ei ∙ same_next c p w₀ w' s r i h.low in
      let g : left i f ≡ i ∷ left (next_place c p w₀ i) (suc f) = follow-more (next_place c p w₀) start (total - f) (total - suc f) i (omega arith) d in
      let g' : left i' f' ≡ left (next_place c p w₀ i) (suc f) = ap₂ (λ (x y : ℕ). left x y) e ef in
      let el' : l' ≡ with_place c p w₀ l i f q = el ∙ noted-same c p w₀ w l i f q h.same h.low in
      record {
        same = s;
        low = subst (λ (j : ℕ). j < length c) (sym e) (next_low c p w₀ i r h.low);
        most = omega arith;
        size = ap length el' ∙ put3-long l f (at c (up_place c p w₀ i)) (at c (nx (up_place c p w₀ i))) q ∙ h.size;
        marks = ap₂ (mark_all c p) ew g' ∙ sym (ap (mark_all c p w) g) ∙ h.marks;
        list = ap₂ (λ (m : List ℕ) (ks : List ℕ). note_all c p w₀ m f' q ks) el' g'
            ∙ ap (λ (j : ℕ). note_all c p w₀ (with_place c p w₀ l i f q) j q (left (next_place c p w₀ i) (suc f))) ef
            ∙ sym (ap (note_all c p w₀ l f q) g) ∙ h.list;
        count = omega (arith, ap length g, ap length g', h.count);
      }

  followed : (w l : List ℕ) (i f : ℕ) → Following w l i f → left i f ≡ [] → Followed c p w₀ w l₀ l (left k filled) filled q f
  unfolding mark_all note_all
  followed w l i f h e = record {
    marks = sym (ap (mark_all c p w) e) ∙ h.marks;
    list = sym (ap (note_all c p w₀ l f q) e) ∙ h.list;
    filled = omega (arith, ap length e, h.count);
  }

  pub followed_met : (w l : List ℕ) (i f : ℕ) → Following w l i f → i ≡ start → Followed c p w₀ w l₀ l (left k filled) filled q f
  followed_met w l i f h e = followed w l i f h (follow-met (next_place c p w₀) start (total - f) i e)

  pub followed_full : (w l : List ℕ) (i f : ℕ) → Following w l i f → total ≤ f → Followed c p w₀ w l₀ l (left k filled) filled q f
  followed_full w l i f h e = followed w l i f h (follow-none (next_place c p w₀) start (total - f) i (omega arith))

-- the words below the marks decide what is followed and noted
follow-same : (c : List ℕ) (p : ℕ) (w₀ w : List ℕ) → Walkable c p w₀ → Same c p w₀ w → (start n k : ℕ) → k < length c → follow (next_place c p w) start n k ≡ follow (next_place c p w₀) start n k
unfolding follow
follow-same c p w₀ w r s start zero k l = refl
follow-same c p w₀ w r s start (suc n) k l =
    let e = same_next c p w₀ w s r k l in
    ap (λ (ks : List ℕ). cond (eqb k start) [] (k ∷ ks)) (follow-same c p w₀ w r s start n (next_place c p w k) (subst (λ (i : ℕ). i < length c) (sym e) (next_low c p w₀ k r l))
    ∙ ap (follow (next_place c p w₀) start n) e)

note-same : (c : List ℕ) (p : ℕ) (w₀ w : List ℕ) → Same c p w₀ w → (l : List ℕ) (f q : ℕ) (ks : List ℕ) → Each (λ (k : ℕ). k < length c) ks → note_all c p w l f q ks ≡ note_all c p w₀ l f q ks
unfolding note_all Each
note-same c p w₀ w s l f q [] e = refl
note-same c p w₀ w s l f q (k ∷ ks) e =
    note-same c p w₀ w s (with_place c p w l k f q) (suc f) q ks e.1 ∙ ap (λ (m : List ℕ). note_all c p w₀ m (suc f) q ks) (noted-same c p w₀ w l k f q s e.0)

pub follow-low : (c : List ℕ) (p : ℕ) (w : List ℕ) → Walkable c p w → (start n k : ℕ) → k < length c → Each (λ (i : ℕ). i < length c) (follow (next_place c p w) start n k)
unfolding follow Each
follow-low c p w r start zero k l = tt
follow-low c p w r start (suc n) k l = go (eqb k start) refl (follow-low c p w r start n (next_place c p w k) (next_low c p w k r l))
  where
    go : (b : Bool) → eqb k start ≡ b → Each (λ (i : ℕ). i < length c) (follow (next_place c p w) start n (next_place c p w k)) → Each (λ (i : ℕ). i < length c) (follow (next_place c p w) start (suc n) k)
    go true e h = rw (e, follow) tt
    go false e h = rw (e, follow) (l, h)

-- a loop begins with the place that its side runs upward from
pub begun_at : (c : List ℕ) (p : ℕ) (w : List ℕ) (k r : ℕ) → Upward c k → r ≡ up_place c p w k → r ≡ k
begun_at c p w k r u e = e ∙ sym (up_first c k (at w (twins-from c p + k)) (at c k) (at c (nx k)) refl refl u.less)

-- the loop of a place: a visit, and then what follows from the same place, which is called j
pub loop_followed : (c : List ℕ) (p : ℕ) (w₀ w w' l₀ l l' : List ℕ) (k j i filled f total n q r : ℕ) → n ≡ total → Walkable c p w₀ → k < length c → w ≡ with_mark c p w₀ k → l ≡ with_place c p w₀ l₀ k filled q → j ≡ k → i ≡ next_place c p w j
    → f ≡ suc filled → Followed c p w w' l l' (follow (next_place c p w) j (n - f) i) f q r → Followed c p w₀ w' l₀ l' (loop_of c p w₀ total filled k) filled q r
unfolding mark_all note_all
loop_followed c p w₀ w w' l₀ l l' k j i filled f total n q r en rd low ew el ej ei ef h' =
    let h : Followed c p w w' l l' (follow (next_place c p w) j (total - f) i) f q r = subst (λ (m : ℕ). Followed c p w w' l l' (follow (next_place c p w) j (m - f) i) f q r) en h' in
    let s : Same c p w₀ w = subst (Same c p w₀) (sym ew) (same-marked c p w₀ w₀ (same_self c p w₀) k) in
    let e : i ≡ next_place c p w₀ k = ei ∙ ap (next_place c p w) ej ∙ same_next c p w₀ w s rd k low in
    let b : i < length c = subst (λ (m : ℕ). m < length c) (sym e) (next_low c p w₀ k rd low) in
    let g : follow (next_place c p w) j (total - f) i ≡ follow (next_place c p w₀) k (total - suc filled) (next_place c p w₀ k) =
    follow-same c p w₀ w rd s j (total - f) i b ∙ (λ n. follow (next_place c p w₀) (ej n) (total - ef n) (e n)) in
    record {
      marks = h.marks ∙ ap₂ (mark_all c p) ew g;
      list = h.list ∙ note-same c p w₀ w s l f q (follow (next_place c p w) j (total - f) i) (follow-low c p w (same-ready c p w₀ w s rd) j (total - f) i b)
          ∙ ap₂ (λ (m : List ℕ) (ks : List ℕ). note_all c p w₀ m f q ks) el g
          ∙ ap (λ (m : ℕ). note_all c p w₀ (with_place c p w₀ l₀ k filled q) m q (follow (next_place c p w₀) k (total - suc filled) (next_place c p w₀ k))) ef;
      filled = omega (arith, h.filled, ap length g);
    }

pub ready_marked : (c : List ℕ) (p : ℕ) (w w' : List ℕ) (k : ℕ) → Walkable c p w → w' ≡ with_mark c p w k → Walkable c p w'
ready_marked c p w w' k r e = subst (Walkable c p) (sym e) (same-ready c p w (with_mark c p w k) (same-marked c p w w (same_self c p w) k) r)
