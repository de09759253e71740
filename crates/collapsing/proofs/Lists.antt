-- The marks of a closed list with labels, stage by stage: the labels' marks made in a part of the words, and what the stages leave together.
use Prim.Native.Nat.{ℕ, ◌+◌, ◌*◌, ◌-◌, ◌<◌, ◌≤◌}
use native.Mathlib.Omega.{arith}
use mathlib.Core.Path.{◌≡◌, sym, ap, ◌∙◌, subst}
use mathlib.Core.List.{List, ◌++◌}
use lib.ListN.{length, take, drop, length-take, length-drop}
use lib.Seq.{ext_get_or}
use Rattle.surface.specs.Triangle.{triangles}
use Rattle.surface.specs.Closed.{Closed}
use Rattle.halfedges.specs.Place.{at}
use Rattle.halfedges.proofs.Free.{free_wider, free_more}
use Rattle.sides.specs.Side.{Twin, sides-from}
use Rattle.sides.specs.Whole.{Listed}
use Rattle.sides.specs.Valence.{Valued}
use Rattle.sorting.specs.Stable.{part}
use Rattle.sorting.proofs.Parts.{part_at, part_length}
use Rattle.chains.specs.Marks.{Lists, Marking}
use Rattle.chains.proofs.Marks.{marking-kept}
use Rattle.chains.specs.Clear.{ChainedAt}
use Rattle.chains.proofs.Clear.{part_in, free_part}
use Rattle.chains.specs.LabelMarks.{LabelsMarked}
use Rattle.chains.specs.SideMarks.{SidesMarked}
use Rattle.collapsing.specs.Areas.{sides_from, chains_from, carried_from, stamps_from, lones_from, weak_from}
use Rattle.collapsing.specs.Noting.{CarriedAt, Noted, ListsNoted}

-- ---- mark_labels_at

pub carried_at : (c ls : List ℕ) (p carried : ℕ) (w v w' : List ℕ) → carried + p * 8 ≤ length w → LabelsMarked c ls p (take (length w - carried) (drop carried w)) v → w' ≡ take carried w ++ (v ++ drop (length w - carried) (drop carried w)) → CarriedAt c ls p carried w w'
carried_at c ls p carried w v w' room h e =
    let size = h.rest.len in
    let r = drop (length w - carried) (drop carried w) in
    let a = length-take (length w - carried) (drop carried w) in
    let b = length-drop carried w in
    record {
      carries = record {
        each = λ x l m n.
            let y : carried + x * 8 + l ≡ carried + (0 + x * 8 + l) = omega arith in
            ap (at w') y ∙ ap (λ (u : List ℕ). at u (carried + (0 + x * 8 + l))) e ∙ part_in carried w v r (0 + x * 8 + l) (omega arith) (omega arith) ∙ h.carries.each x l m n;
      };
      rest = free_part carried (p * 8) w v w' (omega arith) h.rest e;
    }

-- ---- note_lists

module _ (c ls : List ℕ) (p : ℕ) (w : List ℕ) (lists : Lists c p) (closed : Closed (triangles c)) (room : weak_from c p ≤ length w) (w₁ : List ℕ) (r : ℕ) (e₁ : length w₁ ≡ length w) (l : Listed c p w w₁ r) (w₂ : List ℕ) (e₂ : length w₂ ≡ length w₁) (v : Valued c p w₁ w₂) (w₃ : List ℕ) (e₃ : length w₃ ≡ length w₂) (h : ChainedAt c p (chains_from c p) w₂ w₃) where
  -- the words of the twins and the sides
  past : (j : ℕ) → p + p ≤ j → j < chains_from c p → at w₃ j ≡ at w₁ j
  past j m n = h.rest.under j n ∙ v.kept.over j m

  marking₃ : Marking c p w₃ (chains_from c p) (carried_from c p) (lones_from c p)
  marking₃ = record {
    lists = lists;
    closed = closed;
    twins = λ k m.
        let z : p * 3 + length c + k ≡ p + p + p + length c + k = omega arith in
        subst (Twin c k) (sym (ap (at w₃) z ∙ past (p + p + p + length c + k) (omega arith) (omega arith))) (l.twins k m);
    valences = λ x m. h.rest.under (p + x) (omega arith) ∙ v.places x m;
    chained = h.chained;
    first = omega arith;
    second = omega arith;
    third = omega arith;
    room = omega arith;
  }

  module _ (w₄ : List ℕ) (e₄ : length w₄ ≡ length w₃) (b : CarriedAt c ls p (carried_from c p) w₃ w₄) where
    pub note-marking : Marking c p w₄ (chains_from c p) (stamps_from c p) (lones_from c p)
    note-marking =
        let m = marking-kept w₄ e₄ b.rest.under marking₃ in
        record { lists = lists; closed = closed; twins = m.twins; valences = m.valences; chained = m.chained; first = m.first; second = omega arith; third = omega arith; room = m.room }

    pub lists-noted : (w₅ : List ℕ) → SidesMarked c (stamps_from c p) (lones_from c p) w₄ w₅ → Noted c ls p w₅ r
    lists-noted w₅ a =
        let half = l.half in
        let e₅ = a.rest.len in
        let m = marking-kept w₅ e₅ a.rest.under note-marking in
        let same : (j : ℕ) → p + p ≤ j → j < chains_from c p → at w₅ j ≡ at w₁ j = λ j x y. a.rest.under j (omega arith) ∙ b.rest.under j (omega arith) ∙ past j x y in
        let z : sides_from c p ≡ sides-from c p = omega arith in
        record {
          chained = m.chained;
          carries = record { each = λ x i y q. a.rest.under (carried_from c p + x * 8 + i) (omega arith) ∙ b.carries.each x i y q };
          twins = m.twins;
          valences = m.valences;
          lones = a.each;
          listed =
              let n₅ = part_length w₅ (sides_from c p) r (omega arith) in
              let n₁ = part_length w₁ (sides-from c p) r (omega arith) in
              ext_get_or 0 (part w₅ (sides_from c p) r) (part w₁ (sides-from c p) r) (omega arith)
              (λ i q. part_at w₅ (sides_from c p) r i (omega arith) ∙ same (sides_from c p + i) (omega arith) (omega arith) ∙ ap (λ (j : ℕ). at w₁ (j + i)) z ∙ sym (part_at w₁ (sides-from c p) r i (omega arith)))
              ∙ l.sides;
          half = l.half;
          order = l.order;
        }

    pub lists-made : (w₅ : List ℕ) → SidesMarked c (stamps_from c p) (lones_from c p) w₄ w₅ → ListsNoted c ls p w w₅ r
    lists-made w₅ a =
        let half = l.half in
        let weak = weak_from c p in
        record {
          noted = lists-noted w₅ a;
          rest =
              free_more (free_wider 0 weak (omega arith) (omega arith) l.rest)
              (free_more (free_wider 0 weak (omega arith) (omega arith) v.kept)
              (free_more (free_wider 0 weak (omega arith) (omega arith) h.rest)
              (free_more (free_wider 0 weak (omega arith) (omega arith) b.rest) (free_wider 0 weak (omega arith) (omega arith) a.rest))));
        }
