-- The stages of the collapse pass put together.
use Prim.Native.Nat.{ℕ, zero, suc, ◌+◌, ◌*◌, ◌<◌, ◌≤◌}
use native.Mathlib.Omega.{arith}
use mathlib.Core.Path.{◌≡◌, refl, sym, ap, ap₂, ◌∙◌, subst}
use mathlib.Core.Bool.{true, false, not}
use mathlib.Core.List.{List, [], ◌∷◌, ◌++◌, map, map-append}
use lib.Dec.{eqb}
use lib.ListN.{length, get_or, length-map}
use lib.Ieee.{Float}
use Rattle.surface.specs.Triangle.{Tri, triangles}
use Rattle.surface.specs.Edit.{place}
use Rattle.surface.proofs.Flat.{place-triangles}
use Rattle.halfedges.specs.Place.{at}
use Rattle.sides.specs.Side.{Twin, sorted}
use Rattle.sides.proofs.Order.{among-at}
use Rattle.sorting.specs.Stable.{part}
use Rattle.sorting.proofs.Parts.{part_at, part_length, part-more}
use Rattle.chains.proofs.Flat.{thirds-length}
use Rattle.chains.specs.Marks.{Lists, Cleared}
use Rattle.surface.specs.Renumber.{renumber, renumbered}
use Rattle.rounds.specs.Choices.{Side, collapse_start}
use Rattle.renumber.specs.Dropped.{becomes}
use Rattle.oracle.specs.Scene.{Scene}
use Rattle.oracle.specs.Slivers.{pass}
use Rattle.scores.specs.Measures.{pair_of, side_at, Filled}
use Rattle.slivers.specs.Stand.{Stands}
use Rattle.slivers.specs.Ready.{Ready, Items, Passing, candidates_in}
use Rattle.halfedges.specs.Free.{Free}
use Rattle.halfedges.proofs.Free.{free_wider, free_more}
use Rattle.collapsing.specs.Areas.{sides_from, chains_from, carried_from, lones_from, weak_from, items_from, touched_from, collapse_words}
use Rattle.collapsing.specs.Noting.{Collapsible, Noted, Chosen, Clean, Collapsed}

-- ---- begin_collapses

pub clean_of : (p n touched : ℕ) (w w₁ w₂ w₃ : List ℕ) → Cleared touched p w w₁ → Filled (λ (i : ℕ). i) (touched + p) w₁ w₂ p → Cleared (touched + p * 2) n w₂ w₃ → Clean p n touched w w₃
clean_of p n touched w w₁ w₂ w₃ a b c = record {
  untouched = λ x l. c.under (touched + x) (omega arith) ∙ b.rest.under (touched + x) (omega arith) ∙ a.zeros x l;
  same = λ x l. c.under (touched + p + x) (omega arith) ∙ b.each x l;
  stay = c.zeros;
  rest = record {
    len = c.len ∙ b.rest.len ∙ a.len;
    under = λ j l. c.under j (omega arith) ∙ b.rest.under j (omega arith) ∙ a.under j l;
    over = λ j l. c.over j l ∙ b.rest.over j (omega arith) ∙ a.over j (omega arith);
  };
}

-- ---- the state with which the pass begins stands in the words

same-list : (f : ℕ → ℕ) (ts : List Tri) → ((i : ℕ) → i < length ts → renumber f (place ts i) ≡ place ts i) → renumbered f ts ≡ ts
same-list f [] h = refl
same-list f (t ∷ ts) h = ap₂ ◌∷◌ (h 0 (omega arith)) (same-list f ts (λ i l. h (suc i) (omega arith)))

none-gone : (ts : List Tri) (i : ℕ) → get_or (map (λ (t : Tri). false) ts) i false ≡ false
none-gone [] i = refl
none-gone (t ∷ ts) zero = refl
none-gone (t ∷ ts) (suc i) = none-gone ts i

pub stands_first : (c ls : List ℕ) (p touched : ℕ) (w w' : List ℕ) → Lists c p → length ls * 3 ≡ length c → Clean p (length ls) touched w w' → Stands c (length ls) p touched w' (collapse_start (pair_of c ls))
stands_first c ls p touched w w' h size e = record {
  tris = sym (same-list (becomes w' (touched + p)) (triangles c) kept);
  size = length-map (triangles c) _ ∙ omega (arith, count);
  gone = λ i l. none-gone (triangles c) i ∙ sym (ap (λ (x : ℕ). not (eqb x 0)) (e.stay i l));
  marks = λ x l. sym (ap (λ (y : ℕ). not (eqb y 0)) (e.untouched x l));
  below = λ x l. subst (λ (y : ℕ). y < p) (sym (e.same x l)) l;
  fixed = λ x l q. e.same x l;
  off = λ x l q. absurd (q (e.same x l));
}
  where
    count : 3 * length (triangles c) ≡ length c
    count = thirds-length c h.thirds

    kept : (i : ℕ) → i < length (triangles c) → renumber (becomes w' (touched + p)) (place (triangles c) i) ≡ place (triangles c) i
    kept i l =
        let is = place-triangles c i (omega (arith, count)) in
        ap (renumber (becomes w' (touched + p))) is
        ∙ rw (
          e.same (at c (3 * i)) (h.below (3 * i) (omega (arith, count))),
          e.same (at c (3 * i + 1)) (h.below (3 * i + 1) (omega (arith, count))),
          e.same (at c (3 * i + 2)) (h.below (3 * i + 2) (omega (arith, count))),
        ) refl
        ∙ sym is

-- ---- the candidates in their order

in_order : (c : List ℕ) (f : ℕ → Side) (v w : List ℕ) (sides items n : ℕ) → items + n ≤ length v → ((j : ℕ) → j < n → side_at c (at w (sides + at w (items + j))) ≡ f (at v (items + j))) → candidates_in c w sides items n ≡ map f (part v items n)
unfolding candidates_in
in_order c f v w sides items zero room h = refl
in_order c f v w sides items (suc n) room h =
    ap₂ (λ (x : List Side) (y : Side). x ++ (y ∷ [])) (in_order c f v w sides items n (omega arith) (λ j l. h j (omega arith))) (h n (omega arith))
    ∙ sym (ap (map f) (part-more v items n (omega arith)) ∙ map-append f (part v items n) (at v (items + n) ∷ []))

-- ---- note_collapses: w as handed, w₁ with the marks, w₂ with the candidates, w₃ as the pass begins, w₄ as it ends

module _ (ps : List Float) (c ls : List ℕ) (p : ℕ) (w : List ℕ) (h : Collapsible ps c ls p w) (s : Scene) (w₁ w₂ w₃ : List ℕ) (r n : ℕ) (e₁ : length w₁ ≡ length w) (e₂ : length w₂ ≡ length w₁) (e₃ : length w₃ ≡ length w₂)
    (noted : Noted c ls p w₁ r) (chosen : Chosen s c ls p r w₁ w₂ n) (clean : Clean p (length ls) (touched_from c p) w₂ w₃) where
  kept : (j : ℕ) → j < weak_from c p → at w₃ j ≡ at w₁ j
  kept j l = clean.rest.under j (omega arith) ∙ chosen.rest.under j l

  labels : length ls * 3 ≡ length c
  labels = h.labelled.size

  pub pass-ready : Ready ps c ls p w₃ (chains_from c p) (carried_from c p) (lones_from c p) (touched_from c p)
  pass-ready = record {
    lists = h.lists;
    coords = h.coords;
    labelled = h.labelled;
    closed = h.closed;
    chained = record {
      heads = λ v l. kept (chains_from c p + v) (omega arith) ∙ noted.chained.heads v l;
      links = λ i l. kept (chains_from c p + p + i) (omega arith) ∙ noted.chained.links i l;
    };
    carries = record { each = λ v l a b. kept (carried_from c p + v * 8 + l) (omega arith) ∙ noted.carries.each v l a b };
    twins = λ i l. subst (Twin c i) (sym (kept (p * 3 + length c + i) (omega arith))) (noted.twins i l);
    valences = λ v l. kept (p + v) (omega arith) ∙ noted.valences v l;
    lones = λ i l. kept (lones_from c p + i) (omega arith) ∙ noted.lones i l;
    first = omega arith;
    second = omega arith;
    third = omega arith;
    fourth = omega arith;
    room = omega (arith, labels, h.room);
  }

  item : (j : ℕ) → j < n → at w₃ (items_from c p + j) ≡ at w₂ (items_from c p + j)
  item j l = clean.rest.under (items_from c p + j) (omega (arith, chosen.few, noted.half))

  side : (j : ℕ) → j < n → at w₃ (sides_from c p + at w₃ (items_from c p + j)) ≡ at w₁ (sides_from c p + at w₂ (items_from c p + j))
  side j l = ap (λ (x : ℕ). at w₃ (sides_from c p + x)) (item j l) ∙ kept (sides_from c p + at w₂ (items_from c p + j)) (omega (arith, chosen.low j l, noted.half))

  listed : (i : ℕ) → i < r → at w₁ (sides_from c p + i) < length c
  listed i l =
      let size : length (sorted c p) ≡ r = ap length (sym noted.listed) ∙ part_length w₁ (sides_from c p) r (omega (arith, noted.half, h.room)) in
      let e : at (sorted c p) i ≡ at w₁ (sides_from c p + i) = ap (λ (x : List ℕ). at x i) (sym noted.listed) ∙ part_at w₁ (sides_from c p) r i l in
      let u = noted.order.sound (at (sorted c p) i) (among-at (sorted c p) i (omega arith)) in
      let m = u.low in
      omega arith

  pub pass_items : Items c w₃ (sides_from c p) (items_from c p) n (touched_from c p)
  pass_items = record {
    places = λ j l. subst (λ (x : ℕ). x < length c) (sym (side j l)) (listed (at w₂ (items_from c p + j)) (chosen.low j l));
    inside = λ j l. let e = item j l in let m = chosen.low j l in let q = noted.half in omega arith;
    order = omega (arith, chosen.few, noted.half);
  }

  pub pass-collapsed : (w₄ : List ℕ) → Passing s c ls p (sides_from c p) (items_from c p) (touched_from c p) w₃ w₄ n → Free 0 (weak_from c p) w w₁ → Collapsed s c ls p w w₄
  pass-collapsed w₄ q free = record {
    state =
        subst (λ (l : List Side). Stands c (length ls) p (touched_from c p) w₄ (pass true s (pair_of c ls) (collapse_start (pair_of c ls)) l))
        (in_order c (λ (i : ℕ). side_at c (at w₁ (sides_from c p + i))) w₂ w₃ (sides_from c p) (items_from c p) n (omega (arith, chosen.few, noted.half, h.room)) (λ j l. ap (side_at c) (side j l)) ∙ chosen.list)
        (q.state (collapse_start (pair_of c ls)) (stands_first c ls p (touched_from c p) w₂ w₃ h.lists labels clean));
    rest =
        free_more (free_wider 0 (collapse_words c p) (omega arith) (omega arith) free)
        (free_more (free_wider 0 (collapse_words c p) (omega arith) (omega arith) chosen.rest)
        (free_more (free_wider 0 (collapse_words c p) (omega arith) (omega (arith, labels)) clean.rest) (free_wider 0 (collapse_words c p) (omega arith) (omega (arith, labels)) q.rest)));
  }
