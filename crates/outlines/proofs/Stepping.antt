-- The walk over places is the walk over sides: `next_place` leads where `next_crossed` does, and `follow` lists the places of the sides that `circuit` lists.
use Prim.Native.Nat.{ℕ, zero, suc, ◌+◌, ◌%◌, ◌<◌}
use mathlib.Core.Path.{◌≡◌, refl, sym, ◌∙◌, ap, ap₂, subst}
use mathlib.Core.Logic.{◌⊎◌, inl, inr}
use mathlib.Core.Bool.{Bool, true, false, not, cond, beq}
use mathlib.Core.List.{List, [], ◌∷◌, map, Memᴰ}
use native.Mathlib.Omega.{arith}
use lib.Dec.{eqb}
use lib.ListN.{length}
use borrow.Author.Tests.{eq-eqb, ne_eqb}
use Rattle.surface.specs.Triangle.{triangles}
use Rattle.surface.specs.Closed.{one, Step, step, Closed}
use Rattle.surface.proofs.Reading.{Has}
use Rattle.surface.proofs.Steps.{has-around, around-has}
use Rattle.surface.proofs.Bridge.{closed_surface_lem}
use Rattle.halfedges.specs.Place.{nx, pv, at, st}
use Rattle.halfedges.proofs.Fine.{nx-below, pv-below}
use Rattle.halfedges.proofs.Whole.{nx-nx, nx-pv}
use Rattle.halfedges.proofs.Steps as halfedges
use Rattle.sides.specs.Side.{twins-from}
use Rattle.sides.proofs.Meeting.{met_of}
use Rattle.outlines.specs.Side.{Side, side_of, same?, Each}
use Rattle.outlines.specs.Crossing.{end_of, next_crossed}
use Rattle.outlines.specs.Outline.{circuit}
use Rattle.outlines.specs.Stages.Trace.{kind_of, next_place, follow, Walkable}
use Rattle.outlines.proofs.Sides.{Compared, alike, unlike, compared}
use Rattle.outlines.proofs.Crossings.{either, beq_same, beq_other, At, at_from, at-to, next-crossed-is}
use Rattle.outlines.proofs.Reading.{from_low, apex_low}

-- ---- places and triangles

in_mem : {s : Step} (l : List Step) → halfedges.In s l → Memᴰ s l
in_mem [] i = absurd i
in_mem (t ∷ l) (inl e) = Memᴰ.head e
in_mem (t ∷ l) (inr i) = Memᴰ.tail (in_mem l i)

mem_in : {s : Step} {l : List Step} → Memᴰ s l → halfedges.In s l
mem_in (Memᴰ.head e) = inl e
mem_in (Memᴰ.tail m) = inr (mem_in m)

pub place_at : (c : List ℕ) → length c % 3 ≡ 0 → (k : ℕ) → k < length c → Has (at c k) (at c (nx k)) (at c (pv k)) (triangles c)
place_at c h k l =
    around-has (at c k) (st c k) (triangles c) (subst (Memᴰ (st c k)) (sym (halfedges.around-places c (at c k) h))
    (in_mem (halfedges.pl c (at c k) 0 (length c)) (halfedges.pl_in c (at c k) 0 (length c) k (omega arith) (omega arith) refl)))

pub record Spot (c : List ℕ) (x y : ℕ) : Type 0 where
  pub k : ℕ
  pub low : k < length c
  pub from : at c k ≡ x
  pub to : at c (nx k) ≡ y

pub has-spot : (c : List ℕ) → length c % 3 ≡ 0 → {x y z : ℕ} → Has x y z (triangles c) → Spot c x y
has-spot c h {x} {y} {z} a =
    let q = halfedges.pl_place c x 0 (length c) (length c) (step y z) (omega arith) (subst (halfedges.In (step y z)) (halfedges.around-places c x h) (mem_in (has-around a))) in
    record { k = q.k; low = q.low; from = q.names; to = ap (λ (s : Step). s.from) (sym q.makes) }

abbrev pub side_at : List ℕ → ℕ → Side
side_at c k = side_of (at c k) (at c (nx k))

pub eqb_one : (p q : Bool) → eqb (one p) (one q) ≡ beq p q
eqb_one true true = refl
eqb_one true false = refl
eqb_one false true = refl
eqb_one false false = refl

-- ---- the steps

-- the words say of each point whether it lies above
abbrev pub Kinds : List ℕ → ℕ → (ℕ → Bool) → List ℕ → Type 0
Kinds c p above w = (v : ℕ) → v < p → kind_of c p w v ≡ one (above v)

module _ (c : List ℕ) (p : ℕ) (above : ℕ → Bool) (closed : Closed (triangles c)) where
  -- the place runs its side from the kind `up` to the other
  pub record Heads (up : Bool) (k : ℕ) : Type 0 where
    pub low : k < length c
    pub from : above (at c k) ≡ up
    pub to : above (at c (nx k)) ≡ not up

  module _ (w : List ℕ) (r : Walkable c p w) (kinds : Kinds c p above w) where
    pub heads-at : {up : Bool} {k : ℕ} → Heads up k → At above (triangles c) up (side_at c k)
    heads-at {up} {k} h = record { x = at c k; y = at c (nx k); z = at c (pv k); has = place_at c r.thirds k h.low; is = refl; from = h.from; to = h.to }

    pub record Leads (up : Bool) (k k' : ℕ) : Type 0 where
      pub side-is : side_at c k' ≡ next_crossed above (triangles c) up (side_at c k)
      pub heads : Heads up k'

    pub leads : (up : Bool) (k : ℕ) → Heads up k → Leads up k (next_place c p w k)
    unfolding heads-at
    leads up k h = go (either (above (at c (pv k))) up)
      where
        apex : at c (pv k) < p
        apex = apex_low c p w k r h.low

        test : eqb (kind_of c p w (at c (pv k))) (kind_of c p w (at c k)) ≡ beq (above (at c (pv k))) up
        test = ap₂ eqb (kinds (at c (pv k)) apex) (kinds (at c k) (from_low c p w k r h.low)) ∙ eqb_one (above (at c (pv k))) (above (at c k)) ∙ ap (beq (above (at c (pv k)))) h.from

        goes : (b : Bool) → beq (above (at c (pv k))) up ≡ b
            → next_crossed above (triangles c) up (side_at c k) ≡ cond b (side_of (at c (pv k)) (at c (nx k))) (side_of (at c k) (at c (pv k)))
        goes b e = next-crossed-is above (triangles c) (closed_surface_lem closed) up (side_at c k) (heads-at h) ∙ ap (λ (b : Bool). cond b (side_of (at c (pv k)) (at c (nx k))) (side_of (at c k) (at c (pv k)))) e

        next : (b : Bool) → beq (above (at c (pv k))) up ≡ b → next_place c p w k ≡ at w (twins-from c p + cond b (nx k) (pv k))
        next b e = ap (λ (b : Bool). at w (twins-from c p + cond b (nx k) (pv k))) (test ∙ e)

        go : (above (at c (pv k)) ≡ up) ⊎ (above (at c (pv k)) ≡ not up) → Leads up k (next_place c p w k)
        go (inl e) =
            let t = r.twins (nx k) (nx-below (length c) k r.thirds h.low) in
            let b = beq_same (above (at c (pv k))) up e in
            let x : at c (at w (twins-from c p + nx k)) ≡ at c (pv k) = t.from ∙ ap (at c) (nx-nx k) in
            subst (Leads up k) (sym (next true b)) (record {
              side-is = ap₂ side_of x t.to ∙ sym (goes true b);
              heads = record { low = t.low; from = ap above x ∙ e; to = ap above t.to ∙ h.to };
            })
        go (inr e) =
            let t = r.twins (pv k) (pv-below (length c) k r.thirds h.low) in
            let b = beq_other (above (at c (pv k))) up e in
            let x : at c (at w (twins-from c p + pv k)) ≡ at c k = t.from ∙ ap (at c) (nx-pv k) in
            subst (Leads up k) (sym (next false b)) (record {
              side-is = ap₂ side_of x t.to ∙ sym (goes false b);
              heads = record { low = t.low; from = ap above x ∙ h.from; to = ap above t.to ∙ e };
            })

    -- two places that run alike and have one side are one
    same_place : (up : Bool) (j k : ℕ) → Heads up j → Heads up k → side_at c j ≡ side_at c k → j ≡ k
    unfolding heads-at
    same_place up j k g h e =
        let ts = triangles c in
        let s = closed_surface_lem closed in
        let from = sym (at_from above ts s up (heads-at g)) ∙ ap (end_of above up) e ∙ at_from above ts s up (heads-at h) in
        let to = sym (at-to above ts s up (heads-at g)) ∙ ap (end_of above (not up)) e ∙ at-to above ts s up (heads-at h) in
        (met_of c r.thirds closed).once j k g.low h.low from to

    met_test : (up : Bool) (j k : ℕ) → Heads up j → Heads up k → eqb j k ≡ same? (side_at c j) (side_at c k)
    met_test up j k g h = go (compared (side_at c j) (side_at c k))
      where
        go : Compared (side_at c j) (side_at c k) → eqb j k ≡ same? (side_at c j) (side_at c k)
        go (alike e f) = eq-eqb j k (same_place up j k g h e) ∙ sym f
        go (unlike n f) = ne_eqb j k (λ e. n (ap (side_at c) e)) ∙ sym f

    pub follow-walk : (up : Bool) (start n k : ℕ) → Heads up start → Heads up k
        → map (side_at c) (follow (next_place c p w) start n k) ≡ circuit (next_crossed above (triangles c) up) (side_at c start) n (side_at c k)
    unfolding follow circuit
    follow-walk up start zero k g h = refl
    follow-walk up start (suc n) k g h =
        let l = leads up k h in
        let e = follow-walk up start n (next_place c p w k) g l.heads ∙ ap (circuit (next_crossed above (triangles c) up) (side_at c start) n) l.side-is in
        turn (eqb k start) (same? (side_at c k) (side_at c start)) (met_test up k start h g) (follow (next_place c p w) start n (next_place c p w k))
        (circuit (next_crossed above (triangles c) up) (side_at c start) n (next_crossed above (triangles c) up (side_at c k))) e
      where
        turn : (b b' : Bool) → b ≡ b' → (l : List ℕ) (m : List Side) → map (side_at c) l ≡ m → map (side_at c) (cond b [] (k ∷ l)) ≡ cond b' [] (side_at c k ∷ m)
        turn true b' e l m f = ap (λ (b : Bool). cond b [] (side_at c k ∷ m)) e
        turn false b' e l m f = ap (λ (x : List Side). side_at c k ∷ x) f ∙ ap (λ (b : Bool). cond b [] (side_at c k ∷ m)) e

    -- every place on the way runs its side alike
    pub follow-heads : (up : Bool) (start n k : ℕ) → Heads up k → Each (Heads up) (follow (next_place c p w) start n k)
    unfolding follow Each
    follow-heads up start zero k h = tt
    follow-heads up start (suc n) k h = turn (eqb k start) (follow (next_place c p w) start n (next_place c p w k)) (follow-heads up start n (next_place c p w k) (leads up k h).heads)
      where
        turn : (b : Bool) (l : List ℕ) → Each (Heads up) l → Each (Heads up) (cond b [] (k ∷ l))
        turn true l e = tt
        turn false l e = (h, e)
