-- What `note_candidates` leaves, from the contracts of the functions that it calls: triangles marked, sides measured, numbers picked and sorted are the candidates of a round.
use Prim.Native.Nat.{ℕ, zero, suc, ◌+◌, ◌*◌, ◌<◌}
use native.Mathlib.Omega.{arith}
use mathlib.Core.Path.{◌≡◌, sym, ap, ◌∙◌, subst}
use mathlib.Core.Logic.{inl, inr}
use mathlib.Core.Bool.{Bool, true, false, cond}
use mathlib.Core.List.{List, ◌∷◌, map}
use lib.ListN.{length}
use lib.Ieee as Ieee
use lib.Ieee.{Float, binary64, in_float}
use Rattle.float.specs.Point.{times}
use Rattle.field.specs.Number.{plus_zero, counted}
use Rattle.surface.specs.Triangle.{triangles}
use Rattle.surface.specs.Closed.{one}
use Rattle.halfedges.specs.Place.{at}
use Rattle.sides.specs.Side.{Twin, sorted}
use Rattle.sides.proofs.Order.{among-at}
use Rattle.sorting.specs.Stable as Stable
use Rattle.sorting.specs.Stable.{part, key_of, keys_in, SortAsks, Sorts}
use Rattle.sorting.proofs.Parts.{part_at, part-kept, part_length}
use Rattle.sorting.proofs.Facts.{sorted-at}
use Rattle.oracle.specs.Number.{short_part}
use Rattle.oracle.specs.Scene.{scene}
use Rattle.oracle.specs.Rising.{rising}
use Rattle.oracle.specs.Candidates.{chosen, total, limit, candidate, length_bits}
use Rattle.scores.specs.Measures as Scores
use Rattle.scores.specs.Measures.{pair_of, weak_at, side_at, picks, up_from, Filled, Measurable, Measured, Marked, Picked}
use Rattle.scores.proofs.Candidates.{limit_is, tests_are, candidates_are}
use Rattle.collapsing.specs.Areas.{sides_from, weak_from, keys_from, items_from, spare_from}
use Rattle.collapsing.specs.Noting.{Collapsible, Noted, Chosen}

-- numbers that are chosen of the d from o on
chosen-low : (f : ℕ → Bool) (o d i : ℕ) → i < length (chosen f (up_from o d)) → at (chosen f (up_from o d)) i < o + d
unfolding chosen up_from
chosen-low f o zero i l = absurd (omega arith)
chosen-low f o (suc d) i l = go (f o) i l (chosen-low f (suc o) d)
  where
    go : (b : Bool) (i : ℕ) → i < length (cond b (o ∷ chosen f (up_from (suc o) d)) (chosen f (up_from (suc o) d)))
        → ((j : ℕ) → j < length (chosen f (up_from (suc o) d)) → at (chosen f (up_from (suc o) d)) j < suc o + d)
        → at (cond b (o ∷ chosen f (up_from (suc o) d)) (chosen f (up_from (suc o) d))) i < o + suc d
    go true zero l ih = omega arith
    go true (suc i) l ih = let m = ih i (omega arith) in omega arith
    go false i l ih = let m = ih i l in omega arith

module _ (ps qs : List Float) (ns c ls : List ℕ) (p r : ℕ) (w : List ℕ) (h : Collapsible ps c ls p w) (n : Noted c ls p w r) where
  pub choose_scored : Scores.Lists ps c ls
  choose_scored = record {
    pointed = record { thirds = h.lists.thirds; few = h.lists.few; below = λ k l. let b = h.lists.below k l in let e = h.coords in omega arith };
    labelled = h.labelled.size;
  }

  many : length (sorted c p) ≡ r
  many = let room = h.room in let half = n.half in sym (ap length n.listed) ∙ part_length w (sides_from c p) r (omega arith)

  place_is : (i : ℕ) → i < length (sorted c p) → at w (sides_from c p + i) ≡ at (sorted c p) i
  place_is i l = let e = many in sym (part_at w (sides_from c p) r i (omega arith)) ∙ ap (λ (x : List ℕ). at x i) n.listed

  place-low : (i : ℕ) → i < r → at w (sides_from c p + i) < length c
  place-low i l =
      let e = many in
      let is = place_is i (omega arith) in
      let u = (n.order.sound (at (sorted c p) i) (among-at (sorted c p) i (omega arith))).low in
      omega arith

  module _ (w₁ : List ℕ) (e₁ : length w₁ ≡ length w) (f : Filled (λ (i : ℕ). one (weak_at (scene ps qs ns) c ls i)) (weak_from c p) w w₁ (length ls)) where
    pub choose_measurable : Measurable ps c w₁ (sides_from c p) r (keys_from c p) (2 * r)
    choose_measurable =
        let room = h.room in
        let half = n.half in
        record {
          pointed = choose_scored.pointed;
          behind = omega arith;
          most = omega arith;
          room = omega arith;
          places = λ i l. let m = place-low i l in let u = f.rest.under (sides_from c p + i) (omega arith) in omega arith;
        }

    module _ (w₂ : List ℕ) (sum : Float) (e₂ : length w₂ ≡ length w₁) (m : Measured ps c w₁ w₂ (sides_from c p) r (keys_from c p) sum) where
      stays : (j : ℕ) → j < weak_from c p → at w₂ j ≡ at w j
      stays j l = m.rest.under j (omega arith) ∙ f.rest.under j l

      twins₂ : (k : ℕ) → k < length c → Twin c k (at w₂ (p * 3 + length c + k))
      twins₂ k l = subst (Twin c k) (sym (stays (p * 3 + length c + k) (omega arith))) (n.twins k l)

      abbrev most : Float
      most = times short_part (Ieee.div binary64 sum (counted r))

      pub choose_pickable : Measurable ps c w₂ (sides_from c p) r (items_from c p) r
      choose_pickable =
          let room = h.room in
          let half = n.half in
          record {
            pointed = choose_scored.pointed;
            behind = omega arith;
            most = omega arith;
            room = omega arith;
            places = λ i l. let z = place-low i l in let u = stays (sides_from c p + i) (omega arith) in omega arith;
          }

      -- whatever was picked can be sorted
      pub choose_sortable : (test : ℕ → Bool) (w₃ : List ℕ) (x : ℕ) → length w₃ ≡ length w₂ → Picked test w₂ w₃ r (items_from c p) x → SortAsks w₃ (keys_from c p) r (items_from c p) (spare_from c p) x
      choose_sortable test w₃ x e₃ k =
          let room = h.room in
          let half = n.half in
          let few = k.few in
          record {
            keyed = omega arith;
            items_in = omega arith;
            spare_in = omega arith;
            apart = inl (omega arith);
            keys_items = inl (omega arith);
            keys_spare = inl (omega arith);
          }

      module _ (w₃ : List ℕ) (x : ℕ) (e₃ : length w₃ ≡ length w₂)
          (k : Picked (λ (i : ℕ). picks ps c (p * 3 + length c) (weak_from c p) (times short_part (Ieee.div binary64 sum (counted r))) w₂ (at w₂ (sides_from c p + i))) w₂ w₃ r (items_from c p) x) where
        limit-same : most ≡ limit ps (rising (triangles c) p)
        limit-same =
            let room = h.room in
            let half = n.half in
            let same : part w₁ (sides_from c p) r ≡ sorted c p = part-kept w w₁ (sides_from c p) r e₁ (omega arith) (λ j l. f.rest.under j (omega arith)) ∙ n.listed in
            ap (λ (q : ℕ). times short_part (Ieee.div binary64 sum (counted q))) (sym many)
            ∙ limit_is (scene ps qs ns) c ls p h.lists.thirds h.closed (λ (i : ℕ). at w (sides_from c p + i)) place_is sum (m.sum ∙ ap (λ (l : List ℕ). total ps plus_zero (map (side_at c) l)) same)

        test_same : (i : ℕ) → i < length (sorted c p)
            → picks ps c (p * 3 + length c) (weak_from c p) most w₂ (at w₂ (sides_from c p + i)) ≡ candidate (scene ps qs ns) (pair_of c ls) most (side_at c (at w (sides_from c p + i)))
        test_same i l =
            let e = many in
            let half = n.half in
            ap (picks ps c (p * 3 + length c) (weak_from c p) most w₂) (stays (sides_from c p + i) (omega arith))
            ∙ tests_are (scene ps qs ns) c ls p h.lists.thirds h.closed (λ (i : ℕ). at w (sides_from c p + i)) place_is h.labelled.size w₂ (p * 3 + length c) (weak_from c p) most twins₂
            (λ j o. let z = h.labelled.size in m.rest.under (weak_from c p + j) (omega arith) ∙ f.each j o)
            n.order i l

        key_same : (i : ℕ) → i < length (sorted c p) → keys_in w₃ (keys_from c p) r i ≡ length_bits ps (side_at c (at w (sides_from c p + i)))
        key_same i l =
            let e = many in
            let room = h.room in
            let half = n.half in
            ap (λ (ks : List ℕ). key_of ks i) (part-kept w₂ w₃ (keys_from c p) (2 * r) e₃ (omega arith) (λ j o. k.rest.under j (omega arith)))
            ∙ m.lengths i (omega arith)
            ∙ ap (λ (j : ℕ). length_bits ps (side_at c j)) (f.rest.under (sides_from c p + i) (omega arith))

        pub chosen_is : (w₄ : List ℕ) → Sorts w₃ w₄ (keys_from c p) r (items_from c p) (spare_from c p) x → Chosen (scene ps qs ns) c ls p r w w₄ x
        chosen_is w₄ z =
            let test : ℕ → Bool = λ i. picks ps c (p * 3 + length c) (weak_from c p) most w₂ (at w₂ (sides_from c p + i)) in
            let key = keys_in w₃ (keys_from c p) r in
            let room = h.room in
            let half = n.half in
            let few = k.few in
            let size : length (part w₃ (items_from c p) x) ≡ x = part_length w₃ (items_from c p) x (omega arith) in
            let low : (i : ℕ) → i < length (part w₃ (items_from c p) x) → at (part w₃ (items_from c p) x) i < r =
            subst (λ (l : List ℕ). (i : ℕ) → i < length l → at l i < r) (sym k.list) (λ i l. let b = chosen-low test 0 r i l in omega arith) in
            record {
              list =
                  candidates_are (scene ps qs ns) c ls p h.lists.thirds h.closed (λ (i : ℕ). at w (sides_from c p + i)) place_is test key most (part w₄ (items_from c p) x) limit-same test_same key_same
                  (z.result ∙ ap (λ (l : List ℕ). Stable.sorted key l) (k.list ∙ ap (λ (q : ℕ). chosen test (up_from 0 q)) (sym many)));
              few = k.few;
              low = λ j l.
                  subst (λ (y : ℕ). y < r) (ap (λ (l : List ℕ). at l j) (sym z.result) ∙ part_at w₄ (items_from c p) x j l)
                  (sorted-at key (λ (y : ℕ). y < r) (part w₃ (items_from c p) x) low j (omega arith));
              rest = record {
                len = z.len ∙ e₃ ∙ e₂ ∙ e₁;
                under = λ j l. z.rest j (inl (omega arith)) (inl (omega arith)) ∙ k.rest.under j (omega arith) ∙ stays j l;
                over = λ j l. let a = h.labelled.size in z.rest j (inr (omega arith)) (inr (omega arith)) ∙ k.rest.over j (omega arith) ∙ m.rest.over j (omega arith) ∙ f.rest.over j (omega arith);
              };
            }
