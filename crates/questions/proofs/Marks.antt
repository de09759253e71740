-- The marks of the labels that a corner carries: the word at 8 * corner + label is 1 where a place passed has both. One turn of the loop that makes them.
use Prim.Native.Nat.{ℕ, suc, ◌+◌, ◌*◌, ◌/◌, ◌<◌, ◌≤◌}
use native.Mathlib.Numerals.{add-one}
use native.Mathlib.Omega.{arith}
use mathlib.Core.Path.{◌≡◌, refl, sym, ap, ap₂, ◌∙◌, subst}
use mathlib.Core.Bool.{Bool, true, false}
use mathlib.Core.List.{List}
use lib.Dec.{eqb}
use lib.ListN.{length, drop, set, length-set}
use lib.Seq.{get_or-set_same, get_or-set_other, drop-set-lt}
use borrow.Author.Tests.{eqb-true, eqb-false}
use Rattle.halfedges.specs.Place.{at}
use Rattle.questions.specs.Stages.{Listed, Marked, opp, slot}
use Rattle.questions.proofs.Labels.{Labelled, Clash, some-opposed, none-opposed}

-- what holds when the places below k are passed
pub record Marks (c ls : List ℕ) (p : ℕ) (w : List ℕ) (k : ℕ) : Type 0 where
  pub made : (j : ℕ) → j < k → at w (slot (at c j) (at ls (j / 3))) ≡ 1
  pub found : (v l : ℕ) → v < p → l < 8 → at w (slot v l) ≡ 1 → Labelled c ls k v l
  pub apart : Clash c ls k → ⊥

set-one : (w : List ℕ) (s i : ℕ) → s < length w → at w i ≡ 1 → at (set w s 1) i ≡ 1
set-one w s i l e = go (eqb i s) refl
  where
    go : (b : Bool) → eqb i s ≡ b → at (set w s 1) i ≡ 1
    go true q = ap (at (set w s 1)) (eqb-true i s q) ∙ get_or-set_same w s 1 0 l
    go false q = get_or-set_other w s i 1 0 (eqb-false i s q) ∙ e

wider : (c ls : List ℕ) (k v l : ℕ) → Labelled c ls k v l → Labelled c ls (suc k) v l
wider c ls k v l r = record { j = r.j; low = omega (arith, r.low); names = r.names; has = r.has }

slot_same : (v l u m : ℕ) → l < 8 → m < 8 → slot v l ≡ slot u m → (v ≡ u) × (l ≡ m)
slot_same v l u m p q e = (omega arith, omega arith)

opp-twice : (l m : ℕ) → l ≡ opp m → m ≡ opp l
opp-twice l m e = omega arith

opp_other : (l : ℕ) → l ≡ opp l → ⊥
opp_other l e = omega arith

pub marks-none : (c ls : List ℕ) (p : ℕ) (w : List ℕ) → ((i : ℕ) → i < p * 8 → at w i ≡ 0) → Marks c ls p w 0
marks-none c ls p w z = record {
  made = λ j h. absurd (omega arith);
  found = λ v l h m e. absurd (omega (arith, z (slot v l) (omega arith), e));
  apart = λ k. absurd (omega (arith, k.low_i));
}

module _ (c ls : List ℕ) (p : ℕ) (w : List ℕ) (k : ℕ) (marks : Marks c ls p w k) (known : at ls (k / 3) < 8) (listed : at c k < p) where
  -- the mark of the opposed label is there: a clash
  pub marked_clash : at w (slot (at c k) (opp (at ls (k / 3)))) ≡ 1 → k < length c → Clash c ls (length c)
  marked_clash e l =
      let r = marks.found (at c k) (opp (at ls (k / 3))) listed (omega arith) e in
      record { i = k; j = r.j; low_i = l; low_j = omega (arith, r.low); same = sym r.names; against = r.has }

  -- it is not there: no clash with this place
  module _ (room : p * 8 ≤ length w) (none : at w (slot (at c k) (opp (at ls (k / 3)))) ≡ 1 → ⊥) where
    no_clash : (i : ℕ) → i < k → at c i ≡ at c k → at ls (k / 3) ≡ opp (at ls (i / 3)) → ⊥
    no_clash i l s a =
        let e = marks.made i l in
        let back : at ls (i / 3) ≡ opp (at ls (k / 3)) = opp-twice (at ls (k / 3)) (at ls (i / 3)) a in
        none (sym (ap (λ (m : ℕ). at w (slot (at c k) m)) back) ∙ sym (ap (λ (v : ℕ). at w (slot v (at ls (i / 3)))) s) ∙ e)

    clashes : (i j : ℕ) → i < suc k → j < suc k → at c i ≡ at c j → at ls (j / 3) ≡ opp (at ls (i / 3)) → ⊥
    clashes i j li lj s a = go (eqb i k) refl (eqb j k) refl
      where
        go : (p : Bool) → eqb i k ≡ p → (q : Bool) → eqb j k ≡ q → ⊥
        go true x true y =
            let f = eqb-true i k x in
            let g = eqb-true j k y in
            opp_other (at ls (i / 3)) (ap (λ (n : ℕ). at ls (n / 3)) (f ∙ sym g) ∙ a)
        go true x false y =
            let f = eqb-true i k x in
            let n = eqb-false j k y in
            no_clash j (omega arith) (sym s ∙ ap (at c) f) (sym (ap (λ (n : ℕ). at ls (n / 3)) f) ∙ opp-twice (at ls (j / 3)) (at ls (i / 3)) a)
        go false x true y =
            let g = eqb-true j k y in
            let n = eqb-false i k x in
            no_clash i (omega arith) (s ∙ ap (at c) g) (sym (ap (λ (n : ℕ). at ls (n / 3)) g) ∙ a)
        go false x false y =
            let n = eqb-false i k x in
            let m = eqb-false j k y in
            marks.apart (record { i = i; j = j; low_i = omega arith; low_j = omega arith; same = s; against = a })

    marks-suc : Marks c ls p (set w (slot (at c k) (at ls (k / 3))) 1) (suc k)
    marks-suc =
        let s = slot (at c k) (at ls (k / 3)) in
        let fits : slot (at c k) (at ls (k / 3)) < length w = omega arith in
        record {
          made = λ j l. made_one j l fits (eqb j k) refl;
          found = λ v l h m e. found-one v l h m fits e (eqb (slot v l) s) refl;
          apart = λ x. clashes x.i x.j x.low_i x.low_j x.same x.against;
        }
      where
        made_one : (j : ℕ) → j < suc k → slot (at c k) (at ls (k / 3)) < length w → (b : Bool) → eqb j k ≡ b → at (set w (slot (at c k) (at ls (k / 3))) 1) (slot (at c j) (at ls (j / 3))) ≡ 1
        made_one j l f true e =
            ap (λ (n : ℕ). at (set w (slot (at c k) (at ls (k / 3))) 1) (slot (at c n) (at ls (n / 3)))) (eqb-true j k e) ∙ get_or-set_same w (slot (at c k) (at ls (k / 3))) 1 0 f
        made_one j l f false e =
            let n = eqb-false j k e in
            set-one w (slot (at c k) (at ls (k / 3))) (slot (at c j) (at ls (j / 3))) f (marks.made j (omega arith))

        found-one : (v l : ℕ) → v < p → l < 8 → slot (at c k) (at ls (k / 3)) < length w → at (set w (slot (at c k) (at ls (k / 3))) 1) (slot v l) ≡ 1 → (b : Bool) → eqb (slot v l) (slot (at c k) (at ls (k / 3))) ≡ b → Labelled c ls (suc k) v l
        found-one v l h m f e true q =
            let same = slot_same v l (at c k) (at ls (k / 3)) m known (eqb-true _ _ q) in
            record { j = k; low = omega arith; names = sym same.0; has = sym same.1 }
        found-one v l h m f e false q =
            wider c ls k v l (marks.found v l h m (sym (get_or-set_other w (slot (at c k) (at ls (k / 3))) (slot v l) 1 0 (eqb-false _ _ q)) ∙ e))

    pub marks-more : Marks c ls p (set w (slot (at c k) (at ls (k / 3))) 1) (k + 1)
    marks-more = rw add-one marks-suc

  -- the two ends of a turn, by what the calls return
  module _ {v l o : ℕ} (ev : v ≡ at c k) (el : l ≡ at ls (k / 3)) (eo : o ≡ opp l) where
    other : at w (slot (at c k) (opp (at ls (k / 3)))) ≡ at w (slot v o)
    other = sym (ap (at w) (ap₂ slot ev (eo ∙ ap opp el)))

    pub turn_stops : at w (slot v o) ≡ 1 → k < length c → Clash c ls (length c)
    turn_stops e h = marked_clash (other ∙ e) h

    pub turn_on : p * 8 ≤ length w → (at w (slot v o) ≡ 1 → ⊥) → Marks c ls p (set w (slot v l) 1) (k + 1)
    turn_on room n = subst (λ (m : ℕ). Marks c ls p (set w m 1) (k + 1)) (sym (ap₂ slot ev el)) (marks-more room (λ e. n (sym other ∙ e)))

-- what holds at the head of the loop that marks, at its ends and after a turn
pub record Marking (c ls : List ℕ) (p : ℕ) (w w' : List ℕ) (k : ℕ) : Type 0 where
  pub as-many : length w' ≡ length w
  pub far : drop (p * 8) w' ≡ drop (p * 8) w
  pub marks : Marks c ls p w' k

module _ {c ls : List ℕ} {p : ℕ} {w w' : List ℕ} {k : ℕ} (g : Listed c ls p w) (m : Marking c ls p w w' k) where
  known_at : (i : ℕ) → i < length c → at ls (i / 3) < 8
  known_at i l = omega (arith, g.known (i / 3) (omega (arith, g.sized.thirds, g.sized.labelled)))

  module _ (h : k < length c) {v l o : ℕ} (ev : v ≡ at c k) (el : l ≡ at ls (k / 3)) (eo : o ≡ opp l) where
    pub marking-stops : at w' (slot v o) ≡ 1 → Marked c ls (p * 8) w w' false
    marking-stops e =
        let x = turn_stops c ls p w' k m.marks (known_at k h) (g.below k h) ev el eo e h in
        record { answer = sym (some-opposed c ls g.sized.thirds g.sized.labelled x (known_at x.i x.low_i)); far = m.far }

    pub marking-on : (at w' (slot v o) ≡ 1 → ⊥) → Marking c ls p w (set w' (slot v l) 1) (k + 1)
    marking-on n =
        let b : v < p = subst (λ (u : ℕ). u < p) (sym ev) (g.below k h) in
        let t : l < 8 = subst (λ (u : ℕ). u < 8) (sym el) (known_at k h) in
        record {
          as-many = length-set w' (slot v l) 1 ∙ m.as-many;
          far = drop-set-lt (p * 8) w' (slot v l) 1 (omega arith) ∙ m.far;
          marks = turn_on c ls p w' k m.marks (known_at k h) (g.below k h) ev el eo (omega (arith, g.sized.room, m.as-many)) n;
        }

  pub marking-ends : length c ≤ k → Marked c ls (p * 8) w w' true
  marking-ends h = record { answer = sym (none-opposed c ls (λ x. m.marks.apart (record { i = x.i; j = x.j; low_i = omega (arith, x.low_i); low_j = omega (arith, x.low_j); same = x.same; against = x.against }))); far = m.far }
