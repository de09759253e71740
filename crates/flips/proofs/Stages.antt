-- The stages of the flip pass put together.
use Prim.Native.Nat.{ℕ, ◌+◌, ◌*◌, ◌/◌, ◌<◌, ◌≤◌}
use native.Mathlib.Omega.{arith}
use mathlib.Core.Path.{◌≡◌, sym, ap, ◌∙◌, subst}
use mathlib.Core.List.{List, map}
use lib.ListN.{length}
use lib.Seq.{ext_get_or}
use lib.Ieee.{Float}
use Rattle.surface.specs.Triangle.{Tri, triangles}
use Rattle.surface.specs.Closed.{Closed, sides}
use Rattle.halfedges.specs.Place.{nx, pv, at, uses}
use Rattle.halfedges.specs.Free.{Free}
use Rattle.halfedges.proofs.Free.{free_wider, free_more}
use Rattle.halfedges.proofs.Fine.{nx-below}
use Rattle.sides.specs.Side.{Twin, sorted, sides-from}
use Rattle.sides.specs.Whole.{Listed}
use Rattle.sides.specs.Valence.{Valued}
use Rattle.sides.proofs.Order.{among-at}
use Rattle.sorting.specs.Stable.{part}
use Rattle.sorting.proofs.Parts.{part_at, part-kept, part_length}
use Rattle.chains.specs.Marks.{Lists, Marking, Cleared}
use Rattle.chains.specs.Clear.{ChainedAt}
use Rattle.chains.specs.AcrossMarks.{AcrossBelow}
use Rattle.rounds.specs.Choices.{Side, flip_start, flip_pass, flips_of}
use Rattle.oracle.specs.Scene.{Scene, scene}
use Rattle.oracle.specs.Rising.{rising}
use Rattle.oracle.specs.Gains.{helps}
use Rattle.oracle.specs.Round.{flipped, flips}
use Rattle.scores.proofs.Words.{kept_same}
use Rattle.scores.specs.Measures as Scores
use Rattle.scores.specs.Measures.{score_at, side_at, Filled}
use Rattle.scores.specs.Measures.{pair_of}
use Rattle.scores.proofs.Rises.{rising-is}
use Rattle.flips.specs.Quads.{Ready, Standing, Shaped, Passed}
use Rattle.flips.specs.Whole.{sides_from, chains_from, across_from, flip_words, Noted, ListNoted, Begun, Flippable, Flipped}

-- ---- mark_list

module _ (c : List ℕ) (p : ℕ) (w : List ℕ) (lists : Lists c p) (closed : Closed (triangles c)) (room : across_from c p + length c ≤ length w) where
  module _ (w₁ : List ℕ) (r : ℕ) (e₁ : length w₁ ≡ length w) (l : Listed c p w w₁ r) where
    module _ (w₂ : List ℕ) (e₂ : length w₂ ≡ length w₁) (v : Valued c p w₁ w₂) where
      module _ (w₃ : List ℕ) (e₃ : length w₃ ≡ length w₂) (h : ChainedAt c p (chains_from c p) w₂ w₃) where
        past : (j : ℕ) → p + p ≤ j → j < chains_from c p → at w₃ j ≡ at w₁ j
        past j m n = h.rest.under j n ∙ v.kept.over j m

        twins₃ : (k : ℕ) → k < length c → Twin c k (at w₃ (p * 3 + length c + k))
        twins₃ k m =
            let z : p * 3 + length c + k ≡ p + p + p + length c + k = omega arith in
            subst (Twin c k) (sym (ap (at w₃) z ∙ past (p + p + p + length c + k) (omega arith) (omega arith))) (l.twins k m)

        degrees₃ : (x : ℕ) → x < p → at w₃ (p + x) ≡ uses c x (length c)
        degrees₃ x m = h.rest.under (p + x) (omega arith) ∙ v.places x m

        pub list-marking : Marking c p w₃ (chains_from c p) (chains_from c p + p + length c) (across_from c p)
        list-marking = record {
          lists = lists;
          closed = closed;
          twins = twins₃;
          valences = degrees₃;
          chained = h.chained;
          first = omega arith;
          second = omega arith;
          third = omega arith;
          room = omega arith;
        }

        pub list-noted : (w₄ : List ℕ) → AcrossBelow c p (chains_from c p + p + length c) (across_from c p) p w₃ w₄ → Noted c p w₄ r
        list-noted w₄ a =
            let half = l.half in
            let e₄ = a.rest.len in
            let same : (j : ℕ) → p + p ≤ j → j < chains_from c p → at w₄ j ≡ at w₁ j = λ j m n. a.rest.under j (omega arith) ∙ past j m n in
            let z : sides_from c p ≡ sides-from c p = omega arith in
            record {
              twins = λ k m. subst (Twin c k) (sym (a.rest.under (p * 3 + length c + k) (omega arith))) (twins₃ k m);
              degrees = λ x m. a.rest.under (p + x) (omega arith) ∙ degrees₃ x m;
              listed =
                  let n₄ = part_length w₄ (sides_from c p) r (omega arith) in
                  let n₁ = part_length w₁ (sides-from c p) r (omega arith) in
                  ext_get_or 0 (part w₄ (sides_from c p) r) (part w₁ (sides-from c p) r) (omega arith)
                  (λ i m. part_at w₄ (sides_from c p) r i (omega arith) ∙ same (sides_from c p + i) (omega arith) (omega arith) ∙ ap (λ (j : ℕ). at w₁ (j + i)) z ∙ sym (part_at w₁ (sides-from c p) r i (omega arith)))
                  ∙ l.sides;
              half = l.half;
              order = l.order;
              joins = λ k m.
                  a.done k m (lists.below k m)
                  ∙ ap (λ (j : ℕ). sides (triangles c) (at c k) (at c (pv j))) (sym (a.rest.under (p * 3 + length c + nx k) (let n = nx-below (length c) k lists.thirds m in omega arith)));
            }

        pub list-made : (w₄ : List ℕ) → AcrossBelow c p (chains_from c p + p + length c) (across_from c p) p w₃ w₄ → ListNoted c p w w₄ r
        list-made w₄ a =
            let half = l.half in
            let all = across_from c p + length c in
            record {
              noted = list-noted w₄ a;
              rest =
                  free_more (free_wider 0 all (omega arith) (omega arith) l.rest)
                  (free_more (free_wider 0 all (omega arith) (omega arith) v.kept)
                  (free_more (free_wider 0 all (omega arith) (omega arith) h.rest) (free_wider 0 all (omega arith) (omega arith) a.rest)));
            }

-- ---- begin_pass

pub begun-is : (s : Scene) (c ls : List ℕ) (begun kept touched : ℕ) (w w₁ w₂ w₃ : List ℕ) → begun + length c ≤ kept → kept + length ls * 2 ≤ touched → touched ≤ length w → length w₁ ≡ length w → length w₂ ≡ length w₁
    → Filled (at c) begun w w₁ (length c) → Shaped s c ls kept w₁ w₂ (length ls) → Cleared touched (length s.points / 3) w₂ w₃ → Begun s c ls begun kept touched w w₃
begun-is s c ls begun kept touched w w₁ w₂ w₃ a b d e₁ e₂ f g h =
    let e₃ = h.len in
    let size = part_length w₃ begun (length c) (omega arith) in
    record {
      begins = ext_get_or 0 (part w₃ begun (length c)) c size (λ i l. part_at w₃ begun (length c) i (omega arith) ∙ h.under (begun + i) (omega arith) ∙ g.rest.under (begun + i) (omega arith) ∙ f.each i (omega arith));
      shapes = λ i l. kept_same w₂ w₃ (kept + i * 2) (score_at s c ls i) e₃ (h.under (kept + i * 2) (omega arith)) (h.under (kept + i * 2 + 1) (omega arith)) (g.shapes i l);
      zeros = h.zeros;
      rest = record {
        len = e₃ ∙ e₂ ∙ e₁;
        under = λ j l. h.under j (omega arith) ∙ g.rest.under j (omega arith) ∙ f.rest.under j l;
        over = λ j l. h.over j l ∙ g.rest.over j (omega arith) ∙ f.rest.over j (omega arith);
      };
    }

-- ---- flip_sides

module _ (ps qs : List Float) (ns c ls w : List ℕ) (h : Flippable ps c ls w) where
  abbrev p : ℕ
  p = length ps / 3

  abbrev s : Scene
  s = scene ps qs ns

  abbrev begun : ℕ
  begun = across_from c (length ps / 3) + length c

  abbrev kept : ℕ
  kept = across_from c (length ps / 3) + length c + length c

  abbrev touched : ℕ
  touched = across_from c (length ps / 3) + length c + length c + length ls * 2

  pub pass-lists : Lists c (length ps / 3)
  pass-lists = record { thirds = h.thirds; few = h.few; points = h.most; below = h.below }

  pub pass_scored : Scores.Lists ps c ls
  pass_scored = record {
    pointed = record { thirds = h.thirds; few = h.few; below = λ k l. let b = h.below k l in omega arith };
    labelled = h.labelled;
  }

  module _ (w₁ w₂ : List ℕ) (r : ℕ) (e₁ : length w₁ ≡ length w) (e₂ : length w₂ ≡ length w₁) (n : Noted c (length ps / 3) w₁ r) (b : Begun (scene ps qs ns) c ls begun kept touched w₁ w₂) where
    pub pass-ready : Ready (scene ps qs ns) c ls (length ps / 3) w₂ (across_from c (length ps / 3)) begun kept touched
    pass-ready =
        let room = h.room in
        let lab = h.labelled in
        record {
          thirds = h.thirds;
          few = h.few;
          below = h.below;
          points = omega arith;
          most = h.most;
          labelled = h.labelled;
          closed = h.closed;
          first = omega arith;
          second = omega arith;
          third = omega arith;
          fourth = omega arith;
          room = omega arith;
          twins = λ k l. subst (Twin c k) (sym (b.rest.under (length ps / 3 * 3 + length c + k) (omega arith))) (n.twins k l);
          degrees = λ v l. b.rest.under (length ps / 3 + v) (omega arith) ∙ n.degrees v l;
          joins = λ k l.
              b.rest.under (across_from c (length ps / 3) + k) (omega arith) ∙ n.joins k l
              ∙ ap (λ (j : ℕ). sides (triangles c) (at c k) (at c (pv j))) (sym (b.rest.under (length ps / 3 * 3 + length c + nx k) (let m = nx-below (length c) k h.thirds l in omega arith)));
          shapes = b.shapes;
        }

    -- the sides are still there
    pub pass-sides : part w₂ (sides_from c (length ps / 3)) r ≡ sorted c (length ps / 3)
    pass-sides = let room = h.room in let half = n.half in part-kept w₁ w₂ (sides_from c (length ps / 3)) r e₂ (omega arith) (λ j o. b.rest.under j (omega arith)) ∙ n.listed

    pub pass-standing : Standing c w₂ (sides_from c (length ps / 3)) r begun touched
    pass-standing =
        let half = n.half in
        let room = h.room in
        record {
          begins = b.begins;
          sides_in = omega arith;
          most = omega arith;
          places = λ i l.
              let size = part_length w₂ (sides_from c (length ps / 3)) r (omega arith) in
              let same = ap length pass-sides in
              let is : at w₂ (sides_from c (length ps / 3) + i) ≡ at (sorted c (length ps / 3)) i = sym (part_at w₂ (sides_from c (length ps / 3)) r i l) ∙ ap (λ (x : List ℕ). at x i) pass-sides in
              let u = n.order.sound (at (sorted c (length ps / 3)) i) (among-at (sorted c (length ps / 3)) i (omega arith)) in
              let m = u.low in
              omega arith;
        }

    pub pass-flipped : (c' w₃ : List ℕ) (x : ℕ) → Free 0 (across_from c (length ps / 3) + length c) w w₁ → Passed (scene ps qs ns) c ls (length ps / 3) w₂ (sides_from c (length ps / 3)) r touched c' w₃ x → Flipped ps qs ns c ls w c' w₃ x
    unfolding flipped flips
    pass-flipped c' w₃ x free d =
        let all : map (side_at c) (part w₂ (sides_from c (length ps / 3)) r) ≡ rising (triangles c) (length ps / 3) = ap (map (side_at c)) pass-sides ∙ sym (rising-is c h.thirds h.closed (length ps / 3)) in
        let pr = pair_of c ls in
        let choose = helps (scene ps qs ns) (pair_of c ls) in
        record {
          pair = ap (λ (ts : List Tri). record { tris = ts; labels = ls }) (d.tris ∙ ap (λ (l : List Side). (flip_pass pr choose (flip_start pr) l).tris) all);
          corners = d.corners;
          rest =
              let all = flip_words c ls (length ps / 3) in
              free_more (free_wider 0 all (omega arith) (omega arith) free) (free_more (free_wider 0 all (omega arith) (omega arith) b.rest) (free_wider 0 all (omega arith) (omega arith) d.rest));
          flips_are = d.flips ∙ ap (λ (l : List Side). length (flips_of pr choose (flip_start pr) l)) all;
        }
