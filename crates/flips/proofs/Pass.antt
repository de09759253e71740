-- The pass side by side: the corners and the words that it leaves are those of the definition's state.
use Prim.Native.Nat.{ℕ, ◌+◌, ◌*◌, ◌<◌, ◌≤◌}
use native.Mathlib.Omega.{arith}
use mathlib.Core.Path.{◌≡◌, refl, sym, ap, ap₂, ◌∙◌, subst}
use mathlib.Core.Logic.{◌⊎◌, inl, inr}
use mathlib.Core.Bool.{Bool, true, false, ◌&&◌, ◌||◌, cond}
use mathlib.Core.List.{List, ◌∷◌}
use lib.Dec.{eqb}
use lib.ListN.{length, set, length-set}
use lib.Seq.{get_or-set_same, get_or-set_other}
use borrow.Author.Tests.{eqb-true, eqb-false}
use Rattle.surface.specs.Triangle.{Tri, tri, triangles}
use Rattle.surface.specs.Closed.{one, sides}
use Rattle.surface.specs.Edit.{Hinge}
use Rattle.surface.specs.Flat.{put_at}
use Rattle.surface.proofs.Flat.{set-triangles}
use Rattle.surface.proofs.Held.{length-put}
use Rattle.halfedges.specs.Place.{nx, pv, at}
use Rattle.halfedges.proofs.Fine.{nx-below}
use Rattle.sides.specs.Side.{Twin}
use Rattle.history.specs.History.{Pair}
use Rattle.rounds.specs.Choices.{Side, may_flip, flip_step, flip_pass, flips_of}
use Rattle.rounds.specs.Flips.{FlipState, flip_at, flip_entry}
use Rattle.oracle.specs.Scene.{Scene}
use Rattle.scores.proofs.Words.{kept_same}
use Rattle.scores.specs.Measures.{score_at}
use Rattle.scores.specs.Measures.{pair_of}
use Rattle.flips.specs.declared.Quad.{Quad}
use Rattle.flips.specs.Quads.{flip_corners, touch_four, Ready}
use Rattle.flips.proofs.Decision.{hinge_in, Sided}

-- ---- a step of the definition's pass

abbrev pub decided : Pair → (FlipState → Side → Bool) → FlipState → Side → Bool
decided p choose st d = may_flip p st d.one d.two && choose st d

abbrev pub step_of : Pair → (FlipState → Side → Bool) → FlipState → Side → FlipState
step_of p choose st d = cond (decided p choose st d) (flip_step p st d.one d.two) st

pub pass-next : (p : Pair) (choose : FlipState → Side → Bool) (st : FlipState) (d : Side) (ds : List Side) → flip_pass p choose (step_of p choose st d) ds ≡ flip_pass p choose st (d ∷ ds)
unfolding flip_pass
pass-next p choose st d ds = refl

pub count_next : (p : Pair) (choose : FlipState → Side → Bool) (st : FlipState) (d : Side) (ds : List Side) → one (decided p choose st d) + length (flips_of p choose (step_of p choose st d) ds) ≡ length (flips_of p choose st (d ∷ ds))
unfolding flips_of
count_next p choose st d ds = go (decided p choose st d)
  where
    go : (b : Bool) → one b + length (flips_of p choose (cond b (flip_step p st d.one d.two) st) ds)
        ≡ length (cond b (flip_entry d.one d.two ∷ flips_of p choose (flip_step p st d.one d.two) ds) (flips_of p choose st ds))
    go true = omega arith
    go false = omega arith

-- ---- the state in memory

pub record Matches (p touched : ℕ) (st : FlipState) (c w : List ℕ) : Type 0 where
  pub tris : triangles c ≡ st.tris
  pub marks : (x : ℕ) → x < p → at w (touched + x) ≡ one (st.touched x)

put_triangle_lem : (c : List ℕ) (i x y z : ℕ) → i * 3 + 2 < length c → triangles (put_at c i (tri x y z)) ≡ set (triangles c) i (tri x y z)
put_triangle_lem c i x y z l = set-triangles c i x y z (omega arith)

pub flip-length : (q : Quad) (c : List ℕ) → length (flip_corners q c) ≡ length c
flip-length q c = length-put (put_at c q.one (tri q.c q.d q.v)) q.two (tri q.d q.c q.u) ∙ length-put c q.one (tri q.c q.d q.v)

flip-triangles : (q : Quad) (c : List ℕ) → q.one * 3 + 2 < length c → q.two * 3 + 2 < length c → triangles (flip_corners q c) ≡ flip_at (hinge_in q) (triangles c)
flip-triangles q c l m =
    let e = length-put c q.one (tri q.c q.d q.v) in
    put_triangle_lem (put_at c q.one (tri q.c q.d q.v)) q.two q.d q.c q.u (omega arith)
    ∙ ap (λ (ts : List Tri). set ts q.two (tri q.d q.c q.u)) (put_triangle_lem c q.one q.c q.d q.v l)

or_true : (b : Bool) → b || true ≡ true
or_true true = refl
or_true false = refl

or_false : (b : Bool) → b || false ≡ b
or_false true = refl
or_false false = refl

touch_one : (w : List ℕ) (touched v x : ℕ) (b : Bool) → touched + v < length w → at w (touched + x) ≡ one b → at (set w (touched + v) 1) (touched + x) ≡ one (b || eqb v x)
touch_one w touched v x b l e = go (eqb v x) refl
  where
    go : (t : Bool) → eqb v x ≡ t → at (set w (touched + v) 1) (touched + x) ≡ one (b || t)
    go true f = let z = eqb-true v x f in ap (λ (n : ℕ). at (set w (touched + v) 1) (touched + n)) (sym z) ∙ get_or-set_same w (touched + v) 1 0 l ∙ sym (ap one (or_true b))
    go false f = let n = eqb-false v x f in get_or-set_other w (touched + v) (touched + x) 1 0 (λ z. n (omega arith)) ∙ e ∙ sym (ap one (or_false b))

pub touch_length : (touched : ℕ) (q : Quad) (w : List ℕ) → length (touch_four touched q w) ≡ length w
touch_length touched q w =
    length-set (set (set (set w (touched + q.u) 1) (touched + q.v) 1) (touched + q.c) 1) (touched + q.d) 1
    ∙ length-set (set (set w (touched + q.u) 1) (touched + q.v) 1) (touched + q.c) 1
    ∙ length-set (set w (touched + q.u) 1) (touched + q.v) 1
    ∙ length-set w (touched + q.u) 1

pub touch_under : (touched : ℕ) (q : Quad) (w : List ℕ) (j : ℕ) → j < touched → at (touch_four touched q w) j ≡ at w j
touch_under touched q w j l =
    get_or-set_other (set (set (set w (touched + q.u) 1) (touched + q.v) 1) (touched + q.c) 1) (touched + q.d) j 1 0 (λ z. omega arith)
    ∙ get_or-set_other (set (set w (touched + q.u) 1) (touched + q.v) 1) (touched + q.c) j 1 0 (λ z. omega arith)
    ∙ get_or-set_other (set w (touched + q.u) 1) (touched + q.v) j 1 0 (λ z. omega arith)
    ∙ get_or-set_other w (touched + q.u) j 1 0 (λ z. omega arith)

regrouped : (b u v c d : Bool) → (((b || u) || v) || c) || d ≡ b || (u || (v || (c || d)))
regrouped true u v c d = refl
regrouped false true v c d = refl
regrouped false false true c d = refl
regrouped false false false c d = refl

touch_four_lem : (touched : ℕ) (q : Quad) (w : List ℕ) (x : ℕ) (b : Bool) → touched + q.u < length w → touched + q.v < length w → touched + q.c < length w → touched + q.d < length w
    → at w (touched + x) ≡ one b → at (touch_four touched q w) (touched + x) ≡ one (b || (eqb q.u x || (eqb q.v x || (eqb q.c x || eqb q.d x))))
touch_four_lem touched q w x b lu lv lc ld e =
    let w1 = set w (touched + q.u) 1 in
    let w2 = set w1 (touched + q.v) 1 in
    let w3 = set w2 (touched + q.c) 1 in
    let e1 = length-set w (touched + q.u) 1 in
    let e2 = length-set w1 (touched + q.v) 1 in
    let e3 = length-set w2 (touched + q.c) 1 in
    let a1 = touch_one w touched q.u x b lu e in
    let a2 = touch_one w1 touched q.v x (b || eqb q.u x) (omega arith) a1 in
    let a3 = touch_one w2 touched q.c x ((b || eqb q.u x) || eqb q.v x) (omega arith) a2 in
    touch_one w3 touched q.d x (((b || eqb q.u x) || eqb q.v x) || eqb q.c x) (omega arith) a3 ∙ ap one (regrouped b (eqb q.u x) (eqb q.v x) (eqb q.c x) (eqb q.d x))

ends_turned : (u v r : Bool) → u || (v || r) ≡ v || (u || r)
ends_turned true true r = refl
ends_turned true false r = refl
ends_turned false true r = refl
ends_turned false false r = refl

-- a flip keeps memory and state alike
module _ (s : Scene) (c ls : List ℕ) (p : ℕ) (w₀ : List ℕ) (across begun kept touched : ℕ) (h : Ready s c ls p w₀ across begun kept touched) (k : ℕ) (q : Quad) (sd : Sided c w₀ across k q) where
  named : (v : ℕ) → (i : ℕ) × (i < length c) × (at c i ≡ v) → v < p
  named v x = let l = h.below x.0 x.1 in let e = x.2 in omega arith

  pub touch_over : (w : List ℕ) (j : ℕ) → touched + p ≤ j → at (touch_four touched q w) j ≡ at w j
  touch_over w j l =
      let lu = named q.u sd.u-low in
      let lv = named q.v sd.v_low in
      let lc = named q.c sd.c-low in
      let ld = named q.d sd.d-low in
      get_or-set_other (set (set (set w (touched + q.u) 1) (touched + q.v) 1) (touched + q.c) 1) (touched + q.d) j 1 0 (λ z. omega arith)
      ∙ get_or-set_other (set (set w (touched + q.u) 1) (touched + q.v) 1) (touched + q.c) j 1 0 (λ z. omega arith)
      ∙ get_or-set_other (set w (touched + q.u) 1) (touched + q.v) j 1 0 (λ z. omega arith)
      ∙ get_or-set_other w (touched + q.u) j 1 0 (λ z. omega arith)

  pub flip_matches : (st : FlipState) (c₁ w₁ : List ℕ) → length c₁ ≡ length c → length w₁ ≡ length w₀ → Matches p touched st c₁ w₁
      → Matches p touched (flip_step (pair_of c ls) st (at c k) (at c (nx k))) (flip_corners q c₁) (touch_four touched q w₁)
  unfolding flip_step
  flip_matches st c₁ w₁ e f m = record {
    tris =
        let a = sd.first in
        let b = sd.second in
        flip-triangles q c₁ (omega arith) (omega arith) ∙ ap (flip_at (hinge_in q)) m.tris ∙ ap (λ (x : Hinge). flip_at x st.tris) (sym sd.is);
    marks = λ x l.
        let r = h.room in
        let lu = named q.u sd.u-low in
        let lv = named q.v sd.v_low in
        let lc = named q.c sd.c-low in
        let ld = named q.d sd.d-low in
        touch_four_lem touched q w₁ x (st.touched x) (omega arith) (omega arith) (omega arith) (omega arith) (m.marks x l)
        ∙ ap (λ (b : Bool). one (st.touched x || b)) (ends x)
        ∙ ap (λ (y : Hinge). one (st.touched x || (eqb (at c k) x || (eqb (at c (nx k)) x || (eqb y.c x || eqb y.d x))))) (sym sd.is);
  }
    where
      ends : (x : ℕ) → eqb q.u x || (eqb q.v x || (eqb q.c x || eqb q.d x)) ≡ eqb (at c k) x || (eqb (at c (nx k)) x || (eqb q.c x || eqb q.d x))
      ends x = go sd.ends
        where
          go : ((q.u ≡ at c k) × (q.v ≡ at c (nx k))) ⊎ ((q.u ≡ at c (nx k)) × (q.v ≡ at c k)) → eqb q.u x || (eqb q.v x || (eqb q.c x || eqb q.d x)) ≡ eqb (at c k) x || (eqb (at c (nx k)) x || (eqb q.c x || eqb q.d x))
          go (inl z) = ap₂ (λ (m n : ℕ). eqb m x || (eqb n x || (eqb q.c x || eqb q.d x))) z.0 z.1
          go (inr z) = ap₂ (λ (m n : ℕ). eqb m x || (eqb n x || (eqb q.c x || eqb q.d x))) z.0 z.1 ∙ ends_turned (eqb (at c (nx k)) x) (eqb (at c k) x) (eqb q.c x || eqb q.d x)

-- words that are written behind `touched` only
pub ready-kept : (s : Scene) (c ls : List ℕ) (p : ℕ) (w w' : List ℕ) (across begun kept touched : ℕ) → length w' ≡ length w → ((j : ℕ) → j < touched → at w' j ≡ at w j) → Ready s c ls p w across begun kept touched → Ready s c ls p w' across begun kept touched
ready-kept s c ls p w w' across begun kept touched e u h =
    let h1 = h.first in
    let h2 = h.second in
    let h3 = h.third in
    let h4 = h.fourth in
    let hr = h.room in
    record {
      thirds = h.thirds;
      few = h.few;
      below = h.below;
      points = h.points;
      most = h.most;
      labelled = h.labelled;
      closed = h.closed;
      first = h.first;
      second = h.second;
      third = h.third;
      fourth = h.fourth;
      room = omega arith;
      twins = λ k l. subst (Twin c k) (sym (u (p * 3 + length c + k) (omega arith))) (h.twins k l);
      degrees = λ v l. u (p + v) (omega arith) ∙ h.degrees v l;
      joins = λ k l. u (across + k) (omega arith) ∙ h.joins k l ∙ ap (λ (m : ℕ). sides (triangles c) (at c k) (at c (pv m))) (sym (u (p * 3 + length c + nx k) (let n = nx-below (length c) k h.thirds l in omega arith)));
      shapes = λ i l. kept_same w w' (kept + i * 2) (score_at s c ls i) e (u (kept + i * 2) (omega arith)) (u (kept + i * 2 + 1) (omega arith)) (h.shapes i l);
    }
