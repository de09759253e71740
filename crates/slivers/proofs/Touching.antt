-- The corners of the triangles of a corner are touched: the words after a walk along its places.
use Prim.Native.Nat.{ℕ, zero, suc, ◌+◌, ◌/◌, ◌%◌, ◌<◌, ◌≤◌}
use native.Mathlib.Omega.{arith}
use mathlib.Core.Path.{◌≡◌, refl, sym, ap, ◌∙◌, subst}
use mathlib.Core.Logic.{◌⊎◌, inl, inr}
use mathlib.Core.Bool.{Bool, true, false, not, ◌&&◌, ◌||◌, false≢true}
use mathlib.Core.List.{List}
use lib.Dec.{eqb}
use lib.ListN.{length, set, length-set}
use lib.Seq.{get_or-set_same, get_or-set_other}
use borrow.Author.Tests.{eqb-true, eq-eqb, ne_eqb}
use Rattle.surface.specs.Triangle.{triangles, names}
use Rattle.surface.specs.Edit.{place}
use Rattle.surface.proofs.Bools.{both, join, true_false}
use Rattle.surface.proofs.Bridge.{reads_names, reads_name}
use Rattle.rounds.specs.Pass.{near}
use Rattle.rounds.proofs.Elements.{near_none, near-place}
use Rattle.halfedges.specs.Place.{nx, pv, at}
use Rattle.halfedges.proofs.Turns.{same_or}
use Rattle.chains.specs.Chain.{walk}
use Rattle.chains.proofs.Chain.{walk_here, walk-on, walk_none}
use Rattle.chains.proofs.Common.{same_test}
use Rattle.chains.proofs.Flat.{triangle_low, place_reads, reads_spot}
use Rattle.chains.proofs.LabelMarks.{names-read}
use Rattle.chains.specs.Marks.{Lists}
use Rattle.chains.proofs.Marks.{below_next, below_last}
use Rattle.slivers.specs.Trials.{tri_of}
use Rattle.slivers.specs.Touch.{is_touched, touch_at}

abbrev pub among : List ℕ → ℕ → ℕ → Bool
among c k x = eqb (at c k) x || (eqb (at c (nx k)) x || eqb (at c (pv k)) x)

unfoldable pub near_to : List ℕ → ℕ → ℕ → ℕ → Bool
near_to c v x zero = false
near_to c v x (suc i) = (eqb (at c i) v && among c i x) || near_to c v x i

touch_one : (w : List ℕ) (touched u x : ℕ) → touched + u < length w → is_touched (set w (touched + u) 1) touched x ≡ (eqb u x || is_touched w touched x)
touch_one w touched u x l = go (same_or u x)
  where
    go : (u ≡ x) ⊎ (u ≡ x → ⊥) → is_touched (set w (touched + u) 1) touched x ≡ (eqb u x || is_touched w touched x)
    go (inl e) =
        ap (λ (n : ℕ). not (eqb n 0)) (ap (λ (y : ℕ). at (set w (touched + u) 1) (touched + y)) (sym e) ∙ get_or-set_same w (touched + u) 1 0 l)
        ∙ sym (ap (λ (b : Bool). b || is_touched w touched x) (eq-eqb u x e))
    go (inr e) =
        ap (λ (n : ℕ). not (eqb n 0)) (get_or-set_other w (touched + u) (touched + x) 1 0 (λ z. e (omega arith)))
        ∙ sym (ap (λ (b : Bool). b || is_touched w touched x) (ne_eqb u x e))

or_order : (p q r s : Bool) → (r || (q || (p || s))) ≡ ((p || (q || r)) || s)
or_order true true true s = refl
or_order true true false s = refl
or_order true false true s = refl
or_order true false false s = refl
or_order false true true s = refl
or_order false true false s = refl
or_order false false true s = refl
or_order false false false s = refl

module _ (c : List ℕ) (p touched : ℕ) (h : Lists c p) where
  touch_three : (w : List ℕ) (k x : ℕ) → k < length c → touched + p ≤ length w → is_touched (touch_at c touched k w) touched x ≡ (among c k x || is_touched w touched x)
  touch_three w k x l room =
      let a = h.below k l in
      let b = below_next h k l in
      let d = below_last h k l in
      let w1 = set w (touched + at c k) 1 in
      let w2 = set w1 (touched + at c (nx k)) 1 in
      let l1 = length-set w (touched + at c k) 1 in
      let l2 = length-set w1 (touched + at c (nx k)) 1 in
      touch_one w2 touched (at c (pv k)) x (omega arith)
      ∙ ap (λ (b : Bool). eqb (at c (pv k)) x || b) (touch_one w1 touched (at c (nx k)) x (omega arith) ∙ ap (λ (b : Bool). eqb (at c (nx k)) x || b) (touch_one w touched (at c k) x (omega arith)))
      ∙ or_order (eqb (at c k) x) (eqb (at c (nx k)) x) (eqb (at c (pv k)) x) (is_touched w touched x)

  -- the words after the walk up to i
  pub record Touching (v i : ℕ) (w w' : List ℕ) : Type 0 where
    pub len : length w' ≡ length w
    pub under : (j : ℕ) → j < touched → at w' j ≡ at w j
    pub over : (j : ℕ) → touched + p ≤ j → at w' j ≡ at w j
    pub marks : (x : ℕ) → is_touched w' touched x ≡ (near_to c v x i || is_touched w touched x)

  pub touching : (v i : ℕ) (w : List ℕ) → i ≤ length c → touched + p ≤ length w → Touching v i w (walk (touch_at c touched) c v i w)
  unfolding near_to
  touching v zero w l room = subst (Touching v 0 w) (sym (walk_none (touch_at c touched) c v w)) (record { len = refl; under = λ j m. refl; over = λ j m. refl; marks = λ x. refl })
  touching v (suc i) w l room = go (same_or (at c i) v) (touching v i w (omega arith) room)
    where
      u : List ℕ
      u = walk (touch_at c touched) c v i w

      go : (at c i ≡ v) ⊎ (at c i ≡ v → ⊥) → Touching v i w (walk (touch_at c touched) c v i w) → Touching v (suc i) w (walk (touch_at c touched) c v (suc i) w)
      go (inr n) g = subst (Touching v (suc i) w) (sym (walk-on (touch_at c touched) c v w i n)) (record {
        len = g.len;
        under = g.under;
        over = g.over;
        marks = λ x. g.marks x ∙ sym (ap (λ (b : Bool). ((b && among c i x) || near_to c v x i) || is_touched w touched x) (ne_eqb (at c i) v n));
      })
      go (inl e) g = subst (Touching v (suc i) w) (sym (walk_here (touch_at c touched) c v w i e)) (record {
        len = length-set w2 (touched + at c (pv i)) 1 ∙ length-set w1 (touched + at c (nx i)) 1 ∙ length-set u (touched + at c i) 1 ∙ g.len;
        under = λ j m. away j (λ x o. omega arith) ∙ g.under j m;
        over = λ j m. away j (λ x o. omega arith) ∙ g.over j m;
        marks = λ x. touch_three u i x (omega arith) (omega (arith, g.len)) ∙ ap (λ (b : Bool). among c i x || b) (g.marks x) ∙ regroup (among c i x) (near_to c v x i) (is_touched w touched x)
            ∙ sym (ap (λ (b : Bool). ((b && among c i x) || near_to c v x i) || is_touched w touched x) (eq-eqb (at c i) v e));
      })
        where
          w1 : List ℕ
          w1 = set u (touched + at c i) 1

          w2 : List ℕ
          w2 = set w1 (touched + at c (nx i)) 1

          away : (j : ℕ) → ((x : ℕ) → x < p → j ≡ touched + x → ⊥) → at (set w2 (touched + at c (pv i)) 1) j ≡ at u j
          away j f =
              get_or-set_other w2 (touched + at c (pv i)) j 1 0 (f (at c (pv i)) (below_last h i (omega arith)))
              ∙ get_or-set_other w1 (touched + at c (nx i)) j 1 0 (f (at c (nx i)) (below_next h i (omega arith)))
              ∙ get_or-set_other u (touched + at c i) j 1 0 (f (at c i) (h.below i (omega arith)))

          regroup : (p q r : Bool) → (p || (q || r)) ≡ ((p || q) || r)
          regroup true q r = refl
          regroup false q r = refl

-- ---- what is near by places is what is near by triangles

or_second : (p q : Bool) → q ≡ true → (p || q) ≡ true
or_second true q e = refl
or_second false q e = e

or_first : (p q : Bool) → p ≡ true → (p || q) ≡ true
or_first p q e = rw e refl

either : (p q : Bool) → (p || q) ≡ true → (p ≡ true) ⊎ (q ≡ true)
either true q e = inl refl
either false q e = inr e

pub record Nearby (c : List ℕ) (v x i : ℕ) : Type 0 where
  pub k : ℕ
  pub low : k < i
  pub names : at c k ≡ v
  pub has : among c k x ≡ true

near_by : (c : List ℕ) (v x i : ℕ) → near_to c v x i ≡ true → Nearby c v x i
unfolding near_to
near_by c v x zero e = absurd (false≢true e)
near_by c v x (suc i) e = go (near_by c v x i) (either (eqb (at c i) v && among c i x) (near_to c v x i) e)
  where
    go : (near_to c v x i ≡ true → Nearby c v x i) → ((eqb (at c i) v && among c i x) ≡ true) ⊎ (near_to c v x i ≡ true) → Nearby c v x (suc i)
    go ih (inl q) = let b = both (eqb (at c i) v) (among c i x) q in record { k = i; low = omega arith; names = eqb-true (at c i) v b.0; has = b.1 }
    go ih (inr q) = let b = ih q in record { k = b.k; low = omega (arith, b.low); names = b.names; has = b.has }

pub by_near : (c : List ℕ) (v x i k : ℕ) → k < i → at c k ≡ v → among c k x ≡ true → near_to c v x i ≡ true
unfolding near_to
by_near c v x zero k l e m = absurd (omega arith)
by_near c v x (suc i) k l e m = go (same_or k i) (by_near c v x i k)
  where
    go : (k ≡ i) ⊎ (k ≡ i → ⊥) → (k < i → at c k ≡ v → among c k x ≡ true → near_to c v x i ≡ true) → ((eqb (at c i) v && among c i x) || near_to c v x i) ≡ true
    go (inl z) ih = or_first (eqb (at c i) v && among c i x) (near_to c v x i) (join (eqb (at c i) v) (among c i x) (eq-eqb (at c i) v (ap (at c) (sym z) ∙ e)) (subst (λ (j : ℕ). among c j x ≡ true) z m))
    go (inr z) ih = or_second (eqb (at c i) v && among c i x) (near_to c v x i) (ih (omega (arith, z)) e m)

pub names-among : (c : List ℕ) (k x : ℕ) → length c % 3 ≡ 0 → k < length c → names (tri_of c k) x ≡ among c k x
names-among c k x h l = reads_names (place_reads c h k l) x

pub near-places : (c : List ℕ) (v x : ℕ) → length c % 3 ≡ 0 → near_to c v x (length c) ≡ near (triangles c) v x
near-places c v x h = same_test (near_to c v x (length c)) (near (triangles c) v x) to back
  where
    to : near_to c v x (length c) ≡ true → near (triangles c) v x ≡ true
    to e =
        let b = near_by c v x (length c) e in
        let r = place_reads c h b.k b.low in
        near-place (triangles c) v x (b.k / 3) (triangle_low c b.k h b.low) (subst (λ (y : ℕ). names (tri_of c b.k) y ≡ true) b.names (reads_name r)) (names-among c b.k x h b.low ∙ b.has)

    back : near (triangles c) v x ≡ true → near_to c v x (length c) ≡ true
    back e = go (near_to c v x (length c)) refl
      where
        go : (t : Bool) → near_to c v x (length c) ≡ t → near_to c v x (length c) ≡ true
        go true q = q
        go false q = absurd (true_false e (near_none (triangles c) v x (λ i l n. none i l n (names (place (triangles c) i) x) refl)))
          where
            none : (i : ℕ) → i < length (triangles c) → names (place (triangles c) i) v ≡ true → (t : Bool) → names (place (triangles c) i) x ≡ t → names (place (triangles c) i) x ≡ false
            none i l n false f = f
            none i l n true f =
                let r = names-read (place (triangles c) i) v n in
                let s = reads_spot c h i l r.reads in
                let m : among c s.k x ≡ true = sym (names-among c s.k x h s.low) ∙ ap (λ (j : ℕ). names (place (triangles c) j) x) s.third ∙ f in
                absurd (true_false (by_near c v x (length c) s.k s.low s.one m) q)
