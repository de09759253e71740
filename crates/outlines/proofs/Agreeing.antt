-- Two planes that have the same corners above them have the same crossed sides and the same outlines: only the corners of the list matter.
use Prim.Native.Nat.{ℕ, ◌+◌, ◌<◌}
use mathlib.Core.Path.{◌≡◌, refl, sym, ◌∙◌, ap, ap₂}
use mathlib.Core.Logic.{◌⊎◌, inl, inr}
use mathlib.Core.Bool.{Bool, true, not, cond, beq}
use mathlib.Core.List.{List, [], ◌∷◌}
use lib.Dec.{eqb}
use lib.ListN.{length}
use Rattle.surface.specs.Triangle.{Tri}
use Rattle.surface.specs.Closed.{one, Closed}
use Rattle.surface.specs.Edit.{place}
use Rattle.surface.proofs.Reading.{Reads, r0, r1, r2, Has, here, there, spin}
use Rattle.surface.proofs.Places.{place-has}
use Rattle.surface.proofs.Hinged.{has_either}
use Rattle.outlines.specs.Side.{Side, side_of, insert_side}
use Rattle.outlines.specs.Crossing.{crossed?, crossed_triangle?, insert_crossed, crossings}
use Rattle.outlines.specs.Outline.{Place, outlines, loops}
use Rattle.outlines.specs.Request.{CrossedSide, Outlines}
use Rattle.outlines.proofs.Joins.{crossed-is}
use Rattle.outlines.proofs.Laws.{outlines-request}
use Rattle.outlines.proofs.Unique.{loops-only, outlines-only}

-- the same corners of the list lie above
abbrev pub Agree : (ℕ → Bool) → (ℕ → Bool) → List Tri → Type 0
Agree above above' ts = (x y z : ℕ) → Has x y z ts → above x ≡ above' x

pub agree_back : (above above' : ℕ → Bool) (ts : List Tri) → Agree above above' ts → Agree above' above ts
agree_back above above' ts a x y z h = sym (a x y z h)

module _ (above above' : ℕ → Bool) where
  side_same : (x y : ℕ) → above x ≡ above' x → above y ≡ above' y → crossed? above (side_of x y) ≡ crossed? above' (side_of x y)
  side_same x y e f = crossed-is above x y ∙ ap₂ (λ (p q : Bool). not (beq p q)) e f ∙ sym (crossed-is above' x y)

  insert-same : (x y : ℕ) (l : List Side) → above x ≡ above' x → above y ≡ above' y → insert_crossed above (side_of x y) l ≡ insert_crossed above' (side_of x y) l
  insert-same x y l e f = ap (λ (b : Bool). cond b (insert_side (side_of x y) l) l) (side_same x y e f)

  pub crossings-same : (ts : List Tri) → Agree above above' ts → crossings above ts ≡ crossings above' ts
  unfolding crossings
  crossings-same [] a = refl
  crossings-same (t ∷ ts) a =
      let p : above t.a ≡ above' t.a = a t.a t.b t.c (here (r0 refl refl refl)) in
      let q : above t.b ≡ above' t.b = a t.b t.c t.a (here (r1 refl refl refl)) in
      let r : above t.c ≡ above' t.c = a t.c t.a t.b (here (r2 refl refl refl)) in
      let i = crossings-same ts (λ x y z h. a x y z (there h)) in
      let l3 = insert_crossed above (side_of t.c t.a) (crossings above ts) in
      let l3' = insert_crossed above' (side_of t.c t.a) (crossings above' ts) in
      let e3 : l3 ≡ l3' = ap (insert_crossed above (side_of t.c t.a)) i ∙ insert-same t.c t.a (crossings above' ts) r p in
      let e2 : insert_crossed above (side_of t.b t.c) l3 ≡ insert_crossed above' (side_of t.b t.c) l3' = ap (insert_crossed above (side_of t.b t.c)) e3 ∙ insert-same t.b t.c l3' q r in
      ap (insert_crossed above (side_of t.a t.b)) e2 ∙ insert-same t.a t.b (insert_crossed above' (side_of t.b t.c) l3') p q

  module _ (ts : List Tri) (a : Agree above above' ts) where
    triangle_same : (i : ℕ) → i < length ts → crossed_triangle? above (place ts i) ≡ crossed_triangle? above' (place ts i)
    triangle_same i l =
        let t = place ts i in
        let h = place-has ts i l (r0 refl refl refl) in
        let p : above t.a ≡ above' t.a = a _ _ _ h in
        let q : above t.b ≡ above' t.b = a _ _ _ (spin h) in
        let r : above t.c ≡ above' t.c = a _ _ _ (spin (spin h)) in
        ap₂ (λ (m n : ℕ). eqb (m + n) 2) (ap one (side_same t.a t.b p q)) (ap₂ ◌+◌ (ap one (side_same t.b t.c q r)) (ap one (side_same t.c t.a r p)))

    crossed-same : (s : Side) → CrossedSide above ts s → CrossedSide above' ts s
    crossed-same s k = record { order = k.order; is-side = k.is-side; crossed = go (has_either (place ts k.is-side.0) s.low s.high k.is-side.2) }
      where
        both : above s.low ≡ above' s.low → above s.high ≡ above' s.high → crossed? above' s ≡ true
        both e f = sym (ap₂ (λ (p q : Bool). not (beq p q)) e f) ∙ k.crossed

        go : ((z : ℕ) × Reads (place ts k.is-side.0) s.low s.high z) ⊎ ((z : ℕ) × Reads (place ts k.is-side.0) s.high s.low z) → crossed? above' s ≡ true
        go (inl r) = let h = place-has ts k.is-side.0 k.is-side.1 r.1 in both (a _ _ _ h) (a _ _ _ (spin h))
        go (inr r) = let h = place-has ts k.is-side.0 k.is-side.1 r.1 in both (a _ _ _ (spin h)) (a _ _ _ h)

-- the sentences say the same for both
request-same : (above above' : ℕ → Bool) (ts : List Tri) → Agree above above' ts → (places : List Place) → Outlines above' ts places → Outlines above ts places
request-same above above' ts a places o = record {
  loops = o.loops;
  written = o.written;
  each = λ s k. o.each s (crossed-same above above' ts a s k);
  no_other = λ s h. crossed-same above' above ts (agree_back above above' ts a) s (o.no_other s h);
  shared = o.shared;
  joined = λ i l k. o.joined i l (sym (triangle_same above above' ts a i l) ∙ k);
  smallest = o.smallest;
  direction = o.direction;
  by-start = o.by-start;
}

module _ (above above' : ℕ → Bool) (ts : List Tri) (closed : Closed ts) (a : Agree above above' ts) where
  other : Outlines above ts (outlines above' ts)
  other = request-same above above' ts a (outlines above' ts) (outlines-request above' ts closed)

  pub outlines-same : outlines above' ts ≡ outlines above ts
  outlines-same = outlines-only above ts closed (outlines above' ts) other

  pub loops-same : loops above' ts ≡ loops above ts
  unfolding other request-same
  loops-same = sym (loops-only above' ts closed (outlines above' ts) (outlines-request above' ts closed)) ∙ loops-only above ts closed (outlines above' ts) other
