-- What is decided by the work words is what the definition of the flip pass decides.
use Prim.Native.Nat.{ℕ, zero, suc, ◌+◌, ◌*◌, ◌/◌, ◌<◌, ◌≤◌}
use native.Mathlib.Omega.{arith}
use mathlib.Core.Path.{◌≡◌, refl, sym, ap, ap₂, ◌∙◌, subst}
use mathlib.Core.Logic.{◌⊎◌, inl, inr, ⊎_elim}
use mathlib.Core.Bool.{Bool, true, false, not, ◌&&◌, ◌||◌, cond}
use mathlib.Core.List.{List}
use lib.Dec.{eqb, ltb}
use lib.ListN.{length, get_or}
use lib.Ieee as Ieee
use lib.Ieee.{Float, inf}
use borrow.Author.Tests.{ne_eqb, lt-ltb, le-ltb}
use Rattle.float.specs.Order.{lesser, greater}
use Rattle.float.specs.Point.{plus}
use Rattle.surface.specs.Triangle.{Tri, tri, triangles}
use Rattle.surface.specs.Closed.{one, sides}
use Rattle.surface.specs.Edit.{Hinge, hinge, place}
use Rattle.surface.proofs.Bridge.{closed_surface_lem}
use Rattle.surface.specs.Laws.{FourDiffer}
use Rattle.surface.proofs.Laws.{hinge-differ}
use Rattle.halfedges.specs.Place.{nx, pv, at, uses}
use Rattle.halfedges.specs.Place as Place
use Rattle.halfedges.proofs.Chains.{uses-suc}
use Rattle.halfedges.proofs.Turns.{same_or}
use Rattle.halfedges.proofs.Whole.{nx-pv}
use Rattle.halfedges.proofs.Fine.{nx-below, pv-below}
use Rattle.sides.specs.Side.{Twin, Met}
use Rattle.sides.proofs.Meeting.{met_of}
use Rattle.sides.proofs.Twins.{twin-twice}
use Rattle.history.specs.History.{exists}
use Rattle.rounds.specs.Choices.{Side, may_flip}
use Rattle.rounds.specs.Flips.{FlipState}
use Rattle.rounds.proofs.Exact.{side-exists_test}
use Rattle.oracle.specs.Number.{gain_least, shape_enough}
use Rattle.oracle.specs.Scene.{Scene, score}
use Rattle.oracle.specs.Gains.{degree, evens, improves, helps}
use Rattle.oracle.proofs.Even.{even}
use Rattle.chains.proofs.Flat.{runs-side, around-uses}
use Rattle.chains.proofs.Hinges.{hinge_at, hinge_of, Ordered, ordered, ahead, behind}
use Rattle.scores.specs.Words.{float_at}
use Rattle.scores.proofs.Words.{kept_float}
use Rattle.scores.specs.Measures.{score_at, side_at}
use Rattle.scores.specs.Measures.{pair_of}
use Rattle.flips.specs.declared.Quad.{Quad}
use Rattle.flips.specs.Quads.{quad_of, quad_at, touches, evens_at, after_of, gains_of, improves_at, decides, Ready}

abbrev pub hinge_in : Quad → Hinge
hinge_in q = hinge_at q.one q.two q.u q.v q.c q.d

-- the gain by a hinge
unfoldable gains_by : Scene → List Tri → List ℕ → Hinge → Bool
gains_by s ts ls h =
    let x = lesser (score s (place ts h.p1) (get_or ls h.p1 0)) (score s (place ts h.p2) (get_or ls h.p2 0)) in
    let y = lesser (lesser (inf false) (score s (tri h.c h.d h.v) (get_or ls h.p1 0))) (score s (tri h.d h.c h.u) (get_or ls h.p1 0)) in
    Ieee.lt (plus x gain_least) y || (evens (degree ts h.u) (degree ts h.v) (degree ts h.c) (degree ts h.d) && Ieee.le (greater x shape_enough) y)

improves-by : (s : Scene) (ts : List Tri) (ls : List ℕ) (d : Side) → gains_by s ts ls (hinge ts d.one d.two) ≡ improves s (record { tris = ts; labels = ls }) d
unfolding gains_by improves
improves-by s ts ls d = refl

-- a corner that a place names is in use
uses-some : (c : List ℕ) (v i n : ℕ) → i < n → at c i ≡ v → 0 < uses c v n
unfolding uses
uses-some c v i zero l e = absurd (omega arith)
uses-some c v i (suc n) l e =
    ⊎_elim
    (λ (z : i ≡ n). let u = uses-suc c v n (ap (at c) (sym z) ∙ e) in omega arith)
    (λ (z : i ≡ n → ⊥). go (eqb (at c n) v) (uses-some c v i n (omega (arith, z)) e))
    (same_or i n)
  where
    go : (b : Bool) → 0 < uses c v n → 0 < Place.plus b (uses c v n)
    go true u = omega arith
    go false u = u

-- what is known of the side of a place: its hinge, its ends, and the word that says whether the corners across are joined
pub record Sided (c : List ℕ) (w : List ℕ) (across k : ℕ) (q : Quad) : Type 0 where
  pub is : hinge (triangles c) (at c k) (at c (nx k)) ≡ hinge_in q
  pub ends : ((q.u ≡ at c k) × (q.v ≡ at c (nx k))) ⊎ ((q.u ≡ at c (nx k)) × (q.v ≡ at c k))
  pub joins : at w (across + q.across) ≡ sides (triangles c) q.c q.d
  pub first : q.one * 3 + 2 < length c
  pub second : q.two * 3 + 2 < length c
  pub u-low : (i : ℕ) × (i < length c) × (at c i ≡ q.u)
  pub v_low : (i : ℕ) × (i < length c) × (at c i ≡ q.v)
  pub c-low : (i : ℕ) × (i < length c) × (at c i ≡ q.c)
  pub d-low : (i : ℕ) × (i < length c) × (at c i ≡ q.d)

module _ (s : Scene) (c ls : List ℕ) (p : ℕ) (w : List ℕ) (across begun kept touched : ℕ) (h : Ready s c ls p w across begun kept touched) (k : ℕ) (low : k < length c) where
  abbrev t : ℕ
  t = at w (p * 3 + length c + k)

  twin : Twin c k (at w (p * 3 + length c + k))
  twin = h.twins k low

  met : Met c
  met = met_of c h.thirds h.closed

  -- by the two places of the side, in their order
  side_of_lem : (j l : ℕ) → j < length c → l < length c → at w (p * 3 + length c + j) ≡ l → at c l ≡ at c (nx j)
      → hinge (triangles c) (at c k) (at c (nx k)) ≡ hinge_of c j l → ((at c j ≡ at c k) × (at c (nx j) ≡ at c (nx k))) ⊎ ((at c j ≡ at c (nx k)) × (at c (nx j) ≡ at c k))
      → Sided c w across k (quad_of (at c) j l)
  side_of_lem j l a b e f g i =
      let th = h.thirds in
      record {
        is = g ∙ ap (λ (v : ℕ). hinge_at (j / 3) (l / 3) (at c j) v (at c (pv j)) (at c (pv l))) f;
        ends = i;
        joins = h.joins (pv j) (pv-below (length c) j th a) ∙ ap (λ (m : ℕ). sides (triangles c) (at c (pv j)) (at c (pv (at w (p * 3 + length c + m))))) (nx-pv j) ∙ ap (λ (m : ℕ). sides (triangles c) (at c (pv j)) (at c (pv m))) e;
        first = omega arith;
        second = omega arith;
        u-low = (j, a, refl);
        v_low = (nx j, nx-below (length c) j th a, refl);
        c-low = (pv j, pv-below (length c) j th a, refl);
        d-low = (pv l, pv-below (length c) l th b, refl);
      }

  pub sided : Sided c w across k (quad_at (at c) k (at w (p * 3 + length c + k)))
  sided = go (ordered c h.thirds h.closed k (at w (p * 3 + length c + k)) low twin)
    where
      back : at w (p * 3 + length c + at w (p * 3 + length c + k)) ≡ k
      back = twin-twice c k (at w (p * 3 + length c + k)) (at w (p * 3 + length c + at w (p * 3 + length c + k))) met low twin (h.twins (at w (p * 3 + length c + k)) twin.low)

      go : Ordered c h.thirds h.closed k (at w (p * 3 + length c + k)) low twin → Sided c w across k (quad_at (at c) k (at w (p * 3 + length c + k)))
      go (ahead l e) =
          let m : k ≤ at w (p * 3 + length c + k) = omega arith in
          subst (λ (b : Bool). Sided c w across k (cond b (quad_of (at c) (at w (p * 3 + length c + k)) k) (quad_of (at c) k (at w (p * 3 + length c + k))))) (sym (le-ltb (at w (p * 3 + length c + k)) k m))
          (side_of_lem k (at w (p * 3 + length c + k)) low twin.low refl twin.from e (inl (refl, refl)))
      go (behind l e) =
          let m : at w (p * 3 + length c + k) < k = omega arith in
          subst (λ (b : Bool). Sided c w across k (cond b (quad_of (at c) (at w (p * 3 + length c + k)) k) (quad_of (at c) k (at w (p * 3 + length c + k))))) (sym (lt-ltb (at w (p * 3 + length c + k)) k m))
          (side_of_lem (at w (p * 3 + length c + k)) k twin.low low back (sym twin.to) e (inr (twin.from, twin.to)))

  module _ (q : Quad) (sd : Sided c w across k q) where
    -- the degrees
    degree-is : (v : ℕ) → (i : ℕ) × (i < length c) × (at c i ≡ v) → at w (p + v) ≡ degree (triangles c) v
    degree-is v x = let b = h.below x.0 x.1 in let e = x.2 in h.degrees v (omega arith) ∙ sym (around-uses c h.thirds v)

    degree-some : (v : ℕ) → (i : ℕ) × (i < length c) × (at c i ≡ v) → 0 < degree (triangles c) v
    degree-some v x = let e = around-uses c h.thirds v in let u = uses-some c v x.0 (length c) x.1 x.2 in omega arith

    evens-same : evens_at w p q ≡ evens (degree (triangles c) q.u) (degree (triangles c) q.v) (degree (triangles c) q.c) (degree (triangles c) q.d)
    evens-same =
        ap₂ (λ (m n : ℕ). ltb (m + 2) n)
        (ap₂ (λ (m n : ℕ). m + n) (degree-is q.c sd.c-low) (degree-is q.d sd.d-low))
        (ap₂ (λ (m n : ℕ). m + n) (degree-is q.u sd.u-low) (degree-is q.v sd.v_low))
        ∙ sym (even (degree (triangles c) q.u) (degree (triangles c) q.v) (degree (triangles c) q.c) (degree (triangles c) q.d) (degree-some q.u sd.u-low) (degree-some q.v sd.v_low))

    -- the shapes
    shape_is : (i : ℕ) → i * 3 + 2 < length c → float_at w (kept + i * 2) ≡ score s (place (triangles c) i) (get_or ls i 0)
    shape_is i l = let e = h.labelled in kept_float w (kept + i * 2) (score_at s c ls i) (h.shapes i (omega arith))

    pub improves-same : improves_at s w p kept q (get_or ls q.one 0) ≡ improves s (pair_of c ls) (side_at c k)
    unfolding improves_at gains_by
    improves-same =
        ap₂ (λ (x : Float) (e : Bool). gains_of x e (after_of s q (get_or ls q.one 0)))
        (ap₂ lesser (shape_is q.one sd.first) (shape_is q.two sd.second)) evens-same
        ∙ ap (gains_by s (triangles c) ls) (sym sd.is)
        ∙ improves-by s (triangles c) ls (side_at c k)

-- ---- the tests together

flat : (l u v c d z g : Bool) → l && (not (u || (v || (c || d))) && (z && g)) ≡ (l && (not u && (not v && (not c && (not d && z))))) && (z && g)
flat false u v c d z g = refl
flat true true v c d z g = refl
flat true false true c d z g = refl
flat true false false true d z g = refl
flat true false false false true z g = refl
flat true false false false false true g = refl
flat true false false false false false g = refl

swapped : (u v r : Bool) → not u && (not v && r) ≡ not v && (not u && r)
swapped true true r = refl
swapped true false r = refl
swapped false true r = refl
swapped false false r = refl

around_true : (e m n g : Bool) → e ≡ true → n ≡ true → m && g ≡ (e && m) && (n && g)
around_true e m n g a b = sym (ap₂ (λ (x y : Bool). (x && m) && (y && g)) a b)

not_one : (b : Bool) → not (eqb (one b) 0) ≡ b
not_one true = refl
not_one false = refl

module _ (s : Scene) (c ls : List ℕ) (p : ℕ) (w : List ℕ) (across begun kept touched : ℕ) (h : Ready s c ls p w across begun kept touched) (k : ℕ) (low : k < length c)
    (q : Quad) (sd : Sided c w across k q) (st : FlipState) (tw : (x : ℕ) → x < p → at w (touched + x) ≡ one (st.touched x)) where
  abbrev a : ℕ
  a = at c k

  abbrev b : ℕ
  b = at c (nx k)

  touched-is : (v : ℕ) → (i : ℕ) × (i < length c) × (at c i ≡ v) → not (eqb (at w (touched + v)) 0) ≡ st.touched v
  touched-is v x = let l = h.below x.0 x.1 in let e = x.2 in ap (λ (n : ℕ). not (eqb n 0)) (tw v (omega arith)) ∙ not_one (st.touched v)

  touches-is : touches w touched q ≡ st.touched q.u || (st.touched q.v || (st.touched q.c || st.touched q.d))
  touches-is =
      ap₂ (λ (x y : Bool). x || y) (touched-is q.u sd.u-low)
      (ap₂ (λ (x y : Bool). x || y) (touched-is q.v sd.v_low)
      (ap₂ (λ (x y : Bool). x || y) (touched-is q.c sd.c-low) (touched-is q.d sd.d-low)))

  -- the definition's tests by a hinge
  abbrev rest_by : Hinge → Bool
  rest_by x = not (st.touched x.c) && (not (st.touched x.d) && eqb (sides (triangles c) x.c x.d) 0)

  abbrev may_by : Hinge → Bool
  may_by x = eqb (get_or ls x.p1 0) (get_or ls x.p2 0) && (not (st.touched (at c k)) && (not (st.touched (at c (nx k))) && rest_by x))

  abbrev both_by : Hinge → Bool
  both_by x = (exists (pair_of c ls) (at c k) (at c (nx k)) && may_by x) && (not (eqb x.c x.d) && (eqb (sides (triangles c) x.d x.c) 0 && improves s (pair_of c ls) (side_at c k)))

  opened : both_by (hinge (triangles c) (at c k) (at c (nx k))) ≡ may_flip (pair_of c ls) st (at c k) (at c (nx k)) && helps s (pair_of c ls) st (side_at c k)
  unfolding may_flip helps
  opened = refl

  there : 0 < sides (triangles c) (at c k) (at c (nx k))
  there = runs-side c h.thirds k low

  exists_true : exists (pair_of c ls) (at c k) (at c (nx k)) ≡ true
  exists_true = side-exists_test (pair_of c ls) h.closed (at c k) (at c (nx k)) there

  differ_true : not (eqb q.c q.d) ≡ true
  differ_true =
      let x : FourDiffer q.u q.v q.c q.d = subst (λ (y : Hinge). FourDiffer y.u y.v y.c y.d) sd.is (hinge-differ h.closed (at c k) (at c (nx k)) there) in
      ap not (ne_eqb q.c q.d x.cd)

  back-same : eqb (sides (triangles c) q.d q.c) 0 ≡ eqb (sides (triangles c) q.c q.d) 0
  back-same = ap (λ (n : ℕ). eqb n 0) ((closed_surface_lem h.closed).even q.d q.c)

  -- the ends of the side in either order
  ends_same : not (st.touched q.u) && (not (st.touched q.v) && rest_by (hinge_in q)) ≡ not (st.touched (at c k)) && (not (st.touched (at c (nx k))) && rest_by (hinge_in q))
  ends_same = go sd.ends
    where
      go : ((q.u ≡ at c k) × (q.v ≡ at c (nx k))) ⊎ ((q.u ≡ at c (nx k)) × (q.v ≡ at c k)) → not (st.touched q.u) && (not (st.touched q.v) && rest_by (hinge_in q)) ≡ not (st.touched (at c k)) && (not (st.touched (at c (nx k))) && rest_by (hinge_in q))
      go (inl e) = ap₂ (λ (x y : ℕ). not (st.touched x) && (not (st.touched y) && rest_by (hinge_in q))) e.0 e.1
      go (inr e) = ap₂ (λ (x y : ℕ). not (st.touched x) && (not (st.touched y) && rest_by (hinge_in q))) e.0 e.1 ∙ swapped (st.touched (at c (nx k))) (st.touched (at c k)) (rest_by (hinge_in q))

  abbrev alike : Bool
  alike = eqb (get_or ls q.one 0) (get_or ls q.two 0)

  abbrev zero-joins : Bool
  zero-joins = eqb (sides (triangles c) q.c q.d) 0

  abbrev gain : Bool
  gain = improves s (pair_of c ls) (side_at c k)

  by-words : decides s ls w p across kept touched q ≡ alike && (not (st.touched q.u || (st.touched q.v || (st.touched q.c || st.touched q.d))) && (zero-joins && gain))
  unfolding decides
  by-words =
      ap₂ (λ (x y : Bool). alike && (not x && y)) touches-is
      (ap₂ (λ (x y : Bool). x && y) (ap (λ (n : ℕ). eqb n 0) sd.joins) (improves-same s c ls p w across begun kept touched h k low q sd))

  pub decision_same : decides s ls w p across kept touched q ≡ may_flip (pair_of c ls) st (at c k) (at c (nx k)) && helps s (pair_of c ls) st (side_at c k)
  decision_same =
      by-words
      ∙ flat alike (st.touched q.u) (st.touched q.v) (st.touched q.c) (st.touched q.d) zero-joins gain
      ∙ ap₂ (λ (x y : Bool). (alike && x) && (y && gain)) ends_same (sym back-same)
      ∙ around_true (exists (pair_of c ls) (at c k) (at c (nx k))) (may_by (hinge_in q)) (not (eqb q.c q.d)) (eqb (sides (triangles c) q.d q.c) 0 && gain) exists_true differ_true
      ∙ ap both_by (sym sd.is)
      ∙ opened
