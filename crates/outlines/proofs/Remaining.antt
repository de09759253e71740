-- The sides that are open, by the words: a mark strikes its side from their list.
use Prim.Native.Nat.{ℕ, ◌+◌, ◌<◌}
use mathlib.Core.Path.{◌≡◌, refl, sym, ◌∙◌, ap, ap₂}
use mathlib.Core.Logic.{◌⊎◌, inl, inr}
use mathlib.Core.Bool.{Bool, true, false, not, ◌&&◌, cond, and-false}
use mathlib.Core.List.{List, [], ◌∷◌, map}
use native.Mathlib.Omega.{arith}
use lib.Dec.{eqb, ltb}
use lib.ListN.{length}
use lib.Seq.{get_or-set_same, get_or-set_other}
use borrow.Author.Tests.{ltb-true, ltb-false}
use Rattle.surface.specs.Triangle.{triangles}
use Rattle.surface.specs.Closed.{Closed}
use Rattle.halfedges.specs.Place.{nx, at}
use Rattle.halfedges.proofs.Turns.{same_or}
use Rattle.sides.specs.Side.{twins-from}
use Rattle.sides.specs.Order.{Upward}
use Rattle.sides.proofs.Meeting.{met_of}
use Rattle.outlines.specs.Side.{Side, side_of, Each, strike, strike_all}
use Rattle.outlines.specs.Stages.Trace.{kinds-from, marks-from, up_place, crossed_place, open?, with_mark, mark_all, Walkable}
use Rattle.outlines.proofs.Sides.{Compared, alike, unlike, compared}
use Rattle.outlines.proofs.Crossings.{side_swap}
use Rattle.outlines.proofs.Reading.{from_low, to_low, up-low}
use Rattle.outlines.proofs.Following.{Same, same_self, same-marked, ready_marked}
use Rattle.outlines.proofs.Stepping.{side_at}

unfoldable pub open_sides : List ℕ → ℕ → List ℕ → List ℕ → List Side
open_sides c p w [] = []
open_sides c p w (k ∷ ks) = cond (open? c p w k) (side_at c k ∷ open_sides c p w ks) (open_sides c p w ks)

module _ (c : List ℕ) (p : ℕ) (closed : Closed (triangles c)) where
  -- the corners of an upward place are those of its side
  pub low-is : (k : ℕ) → Upward c k → (side_at c k).low ≡ at c k
  low-is k u = omega (arith, u.less)

  pub high_is : (k : ℕ) → Upward c k → (side_at c k).high ≡ at c (nx k)
  high_is k u = omega (arith, u.less)

  module _ (w : List ℕ) (r : Walkable c p w) where
    -- the upward place of a side
    pub record Up (k u : ℕ) : Type 0 where
      pub upward : Upward c u
      pub side-is : side_at c u ≡ side_at c k

    pub up_is : (k : ℕ) → k < length c → Up k (up_place c p w k)
    up_is k l = go (ltb (at c k) (at c (nx k))) refl
      where
        go : (b : Bool) → ltb (at c k) (at c (nx k)) ≡ b → Up k (cond b k (at w (twins-from c p + k)))
        go true e = record { upward = record { low = l; less = ltb-true _ _ e }; side-is = refl }
        go false e =
            let t = r.twins k l in
            let n = (met_of c r.thirds closed).differ k l in
            let m = ltb-false (at c k) (at c (nx k)) e in
            record { upward = record { low = t.low; less = omega (arith, t.from, t.to) }; side-is = ap₂ side_of t.from t.to ∙ side_swap (at c (nx k)) (at c k) }

    pub up-only : (u v : ℕ) → Upward c u → Upward c v → side_at c u ≡ side_at c v → u ≡ v
    up-only u v a b e =
        (met_of c r.thirds closed).once u v a.low b.low (sym (low-is u a) ∙ ap (λ (s : Side). s.low) e ∙ low-is v b) (sym (high_is u a) ∙ ap (λ (s : Side). s.high) e ∙ high_is v b)

    crossed-same : (w' : List ℕ) → Same c p w w' → (u : ℕ) → u < length c → crossed_place c p w' u ≡ crossed_place c p w u
    crossed-same w' s u l =
        ap₂ (λ (x y : ℕ). not (eqb x y)) (s.low (kinds-from c p + at c u) (omega (arith, from_low c p w u r l))) (s.low (kinds-from c p + at c (nx u)) (omega (arith, to_low c p w u r l)))

    module _ (k : ℕ) (l : k < length c) where
      -- a mark shuts its own side
      shut : open? c p (with_mark c p w k) (up_place c p w k) ≡ false
      shut =
          let e : at (with_mark c p w k) (marks-from c p + up_place c p w k) ≡ 1 = get_or-set_same w (marks-from c p + up_place c p w k) 1 0 (omega (arith, up-low c p w k r l, r.room)) in
          ap (λ (x : ℕ). crossed_place c p (with_mark c p w k) (up_place c p w k) && eqb x 0) e ∙ and-false (crossed_place c p (with_mark c p w k) (up_place c p w k))

      -- and no other
      stays : (u : ℕ) → u < length c → (u ≡ up_place c p w k → ⊥) → open? c p (with_mark c p w k) u ≡ open? c p w u
      stays u b n =
          ap₂ (λ (x : Bool) (y : ℕ). x && eqb y 0) (crossed-same (with_mark c p w k) (same-marked c p w w (same_self c p w) k) u b)
          (get_or-set_other w (marks-from c p + up_place c p w k) (marks-from c p + u) 1 0 (λ e. n (omega arith)))

      pub mark-strike : (js : List ℕ) → Each (Upward c) js → open_sides c p (with_mark c p w k) js ≡ strike (side_at c k) (open_sides c p w js)
      unfolding open_sides strike Each
      mark-strike [] e = refl
      mark-strike (u ∷ js) e = go (same_or u (up_place c p w k)) (compared (side_at c k) (side_at c u)) (mark-strike js e.1) (open? c p w u) refl
        where
          up : Up k (up_place c p w k)
          up = up_is k l

          go : (u ≡ up_place c p w k) ⊎ (u ≡ up_place c p w k → ⊥) → Compared (side_at c k) (side_at c u)
              → open_sides c p (with_mark c p w k) js ≡ strike (side_at c k) (open_sides c p w js) → (b : Bool) → open? c p w u ≡ b
              → cond (open? c p (with_mark c p w k) u) (side_at c u ∷ open_sides c p (with_mark c p w k) js) (open_sides c p (with_mark c p w k) js)
              ≡ strike (side_at c k) (cond (open? c p w u) (side_at c u ∷ open_sides c p w js) (open_sides c p w js))
          go (inl d) (unlike n g) i b h = absurd (n (sym up.side-is ∙ ap (side_at c) (sym d)))
          go (inr d) (alike n g) i b h = absurd (d (up-only u (up_place c p w k) e.0 up.upward (sym n ∙ sym up.side-is)))
          go (inl d) (alike n g) i true h = rw (ap (open? c p (with_mark c p w k)) d ∙ shut, h, g, strike) i
          go (inl d) (alike n g) i false h = rw (ap (open? c p (with_mark c p w k)) d ∙ shut, h) i
          go (inr d) (unlike n g) i true h = rw (stays u e.0.low d ∙ h, h, g, strike) (ap (λ (m : List Side). side_at c u ∷ m) i)
          go (inr d) (unlike n g) i false h = rw (stays u e.0.low d ∙ h, h) i

  pub marks-strike : (w : List ℕ) → Walkable c p w → (ks js : List ℕ) → Each (λ (k : ℕ). k < length c) ks → Each (Upward c) js
      → open_sides c p (mark_all c p w ks) js ≡ strike_all (map (side_at c) ks) (open_sides c p w js)
  unfolding mark_all strike_all Each
  marks-strike w r [] js l e = refl
  marks-strike w r (k ∷ ks) js l e =
      marks-strike (with_mark c p w k) (ready_marked c p w (with_mark c p w k) k r refl) ks js l.1 e ∙ ap (strike_all (map (side_at c) ks)) (mark-strike w r k l.0 js e)
