-- A lemma for each turn of a loop.
use Prim.Native.Nat.{ℕ, ◌+◌, ◌*◌, ◌-◌, ◌<◌, ◌≤◌}
use native.Mathlib.Nat.{zero-add}
use native.Mathlib.Omega.{arith}
use mathlib.Core.Path.{◌≡◌, refl, sym, ap, ap₂, ◌∙◌, subst}
use mathlib.Core.Logic.{inl, ⊎_elim}
use mathlib.Core.Bool.{Bool, true, false, cond}
use mathlib.Core.List.{List, [], ◌∷◌, map}
use lib.Dec.{T}
use lib.ListN.{length}
use lib.Ieee.{Float, binary64, fits}
use lib.Ieee.Fits.{div-fits}
use mir.Val.{bool_byte}
use Rattle.field.specs.Shape.{shape}
use Rattle.surface.specs.Closed.{one}
use Rattle.halfedges.specs.Place.{nx, at}
use Rattle.halfedges.proofs.Turns.{same_or}
use Rattle.sorting.specs.Stable.{part}
use Rattle.sorting.proofs.Parts.{part_cons, part-kept, part_none}
use Rattle.rounds.specs.Choices.{Side, flip_step, flip_start, flip_pass, flips_of}
use Rattle.rounds.specs.Flips.{FlipState}
use Rattle.oracle.specs.Scene.{Scene, score}
use Rattle.oracle.specs.Gains.{helps}
use Rattle.scores.specs.Words.{put_at, Kept}
use Rattle.chains.proofs.Bits.{bit_one, bit_most}
use Rattle.scores.proofs.Words.{put-length, put_other, put-kept, put_keeps}
use Rattle.scores.specs.Measures.{score_at, side_at}
use Rattle.scores.specs.Measures.{pair_of}
use Rattle.flips.specs.declared.Quad.{Quad}
use Rattle.halfedges.proofs.Free.{free_none, free_wider, free_more}
use Rattle.flips.specs.Quads.{quad_at, quad_in, decides_at, flip_corners, touch_four, Tried, Ready, Shaped, Standing, Passed}
use Rattle.flips.proofs.Decision.{Sided, sided, decision_same}
use Rattle.flips.proofs.Pass.{decided, step_of, pass-next, count_next, Matches, flip_matches, flip-length, touch_length, touch_under, touch_over, ready-kept}

-- ---- the shapes are kept

score-fits : (s : Scene) (c ls : List ℕ) (i : ℕ) → T (fits binary64 (score_at s c ls i))
unfolding score shape
score-fits s c ls i = div-fits binary64 _ _

pub shaped_none : (s : Scene) (c ls : List ℕ) (kept : ℕ) (w : List ℕ) → Shaped s c ls kept w w 0
shaped_none s c ls kept w = record { rest = free_none w; shapes = λ i l. absurd (omega arith) }

pub shaped_more : (s : Scene) (c ls : List ℕ) (kept : ℕ) (w w' v : List ℕ) (n : ℕ) (x : Float) → kept + n * 2 + 1 < length w' → x ≡ score_at s c ls n → v ≡ put_at w' (kept + n * 2) x → Shaped s c ls kept w w' n → Shaped s c ls kept w v (n + 1)
shaped_more s c ls kept w w' v n x room e f h = subst (λ (y : List ℕ). Shaped s c ls kept w y (n + 1)) (sym f) (record {
  rest =
      free_more (free_wider kept (kept + (n + 1) * 2) (omega arith) (omega arith) h.rest)
      (record { len = put-length w' (kept + n * 2) x; under = λ j l. put_other w' (kept + n * 2) x j (λ z. omega arith) (λ z. omega arith); over = λ j l. put_other w' (kept + n * 2) x j (λ z. omega arith) (λ z. omega arith) });
  shapes = λ i l.
      ⊎_elim
      (λ (z : i ≡ n). subst (λ (m : ℕ). Kept (put_at w' (kept + n * 2) x) (kept + m * 2) (score_at s c ls m)) (sym z) (subst (Kept (put_at w' (kept + n * 2) x) (kept + n * 2)) e (put-kept w' (kept + n * 2) x room (subst (λ (y : Float). T (fits binary64 y)) (sym e) (score-fits s c ls n)))))
      (λ (z : i ≡ n → ⊥). put_keeps w' (kept + n * 2) x (kept + i * 2) (score_at s c ls i) (inl (omega (arith, z))) (h.shapes i (omega (arith, z))))
      (same_or i n);
})

pub shaped_same : (s : Scene) (c ls : List ℕ) (kept : ℕ) (w w' : List ℕ) (n m : ℕ) → n ≡ m → Shaped s c ls kept w w' n → Shaped s c ls kept w w' m
shaped_same s c ls kept w w' n m e h = subst (Shaped s c ls kept w w') e h

-- ---- the pass

-- the sides from i on, of the `count` whose places stand from `sides` on
abbrev rest : List ℕ → List ℕ → ℕ → ℕ → ℕ → List Side
rest c w sides count i = map (side_at c) (part w (sides + i) (sides + count - (sides + i)))

-- i sides are tried, and r of them flipped; c and w are the lists as the pass began, c₁ and w₁ as they are
pub record Flipping (s : Scene) (c ls : List ℕ) (p : ℕ) (w : List ℕ) (touched sides count : ℕ) (c₁ w₁ : List ℕ) (i r : ℕ) : Type 0 where
  pub short : i ≤ count
  pub few : r ≤ i
  pub corners : length c₁ ≡ length c
  pub size : length w₁ ≡ length w
  pub under : (j : ℕ) → j < touched → at w₁ j ≡ at w j
  pub over : (j : ℕ) → touched + p ≤ j → at w₁ j ≡ at w j
  pub state : FlipState
  pub matches : Matches p touched state c₁ w₁
  pub left : flip_pass (pair_of c ls) (helps s (pair_of c ls)) state (rest c w sides count i) ≡ flip_pass (pair_of c ls) (helps s (pair_of c ls)) (flip_start (pair_of c ls)) (map (side_at c) (part w sides count))
  pub flips : r + length (flips_of (pair_of c ls) (helps s (pair_of c ls)) state (rest c w sides count i)) ≡ length (flips_of (pair_of c ls) (helps s (pair_of c ls)) (flip_start (pair_of c ls)) (map (side_at c) (part w sides count)))

pub flip_starts : (s : Scene) (c ls : List ℕ) (p : ℕ) (w : List ℕ) (touched sides count : ℕ) → ((x : ℕ) → x < p → at w (touched + x) ≡ 0) → Flipping s c ls p w touched sides count c w 0 0
flip_starts s c ls p w touched sides count z =
    let e : sides + count - (sides + 0) ≡ count = omega arith in
    let f : sides + 0 ≡ sides = omega arith in
    let all : rest c w sides count 0 ≡ map (side_at c) (part w sides count) = ap₂ (λ (m n : ℕ). map (side_at c) (part w m n)) f e in
    record {
      short = omega arith;
      few = omega arith;
      corners = refl;
      size = refl;
      under = λ j l. refl;
      over = λ j l. refl;
      state = flip_start (pair_of c ls);
      matches = record { tris = refl; marks = z };
      left = ap (flip_pass (pair_of c ls) (helps s (pair_of c ls)) (flip_start (pair_of c ls))) all;
      flips = zero-add (length (flips_of (pair_of c ls) (helps s (pair_of c ls)) (flip_start (pair_of c ls)) (rest c w sides count 0))) ∙ ap (λ (l : List Side). length (flips_of (pair_of c ls) (helps s (pair_of c ls)) (flip_start (pair_of c ls)) l)) all;
    }

module _ (s : Scene) (c ls : List ℕ) (p : ℕ) (w : List ℕ) (across begun kept touched sides count : ℕ) (h : Ready s c ls p w across begun kept touched) (g : Standing c w sides count begun touched)
    (c₁ w₁ : List ℕ) (i r : ℕ) (I : Flipping s c ls p w touched sides count c₁ w₁ i r) where
  pub flip-begun : part w₁ begun (length c₁) ≡ c
  flip-begun =
      let h3 = h.third in
      let h4 = h.fourth in
      let hr = h.room in
      let e = I.corners in
      part-kept w w₁ begun (length c₁) I.size (omega arith) (λ j o. I.under j (omega arith)) ∙ ap (part w begun) I.corners ∙ g.begins

  pub flip-ready : Ready s (part w₁ begun (length c₁)) ls p w₁ across begun kept touched
  flip-ready = subst (λ (x : List ℕ). Ready s x ls p w₁ across begun kept touched) (sym flip-begun) (ready-kept s c ls p w w₁ across begun kept touched I.size I.under h)

  pub flip-room : begun + length c₁ ≤ length w₁
  flip-room = let h3 = h.third in let h4 = h.fourth in let hr = h.room in let e = I.corners in let f = I.size in omega arith

  pub flip-place : i < count → (k : ℕ) → k ≡ at w₁ (sides + i) → (k ≡ at w (sides + i)) × (k < length c₁)
  flip-place l k e =
      let b = g.sides_in in
      let z : k ≡ at w (sides + i) = e ∙ I.under (sides + i) (omega arith) in
      let m = g.places i l in
      let n = I.corners in
      (z, omega arith)

  module _ (l : i < count) (k : ℕ) (e : k ≡ at w₁ (sides + i)) (c₂ w₂ : List ℕ) (f : Bool) (x : ℕ) (one-more : x ≡ bool_byte f) (t : Tried (decides_at s ls p (length c₁) across begun kept touched w₁ k) (quad_in p (length c₁) begun w₁ k) touched c₁ c₂ w₁ w₂ f) where
    k-low : k < length c
    k-low = let m = (flip-place l k e).1 in let n = I.corners in omega arith

    Q : Quad
    Q = quad_at (at c) k (at w₁ (p * 3 + length c + k))

    quad_same : quad_in p (length c₁) begun w₁ k ≡ quad_at (at c) k (at w₁ (p * 3 + length c + k))
    quad_same = ap₂ (λ (y : List ℕ) (n : ℕ). quad_at (at y) k (at w₁ (p * 3 + n + k))) flip-begun I.corners

    ready : Ready s c ls p w₁ across begun kept touched
    ready = ready-kept s c ls p w w₁ across begun kept touched I.size I.under h

    sd : Sided c w₁ across k (quad_in p (length c₁) begun w₁ k)
    sd = subst (Sided c w₁ across k) (sym quad_same) (sided s c ls p w₁ across begun kept touched ready k k-low)

    decision : decides_at s ls p (length c₁) across begun kept touched w₁ k ≡ decided (pair_of c ls) (helps s (pair_of c ls)) I.state (side_at c k)
    decision = decision_same s c ls p w₁ across begun kept touched ready k k-low (quad_in p (length c₁) begun w₁ k) sd I.state I.matches.marks

    next-list : side_at c k ∷ rest c w sides count (i + 1) ≡ rest c w sides count i
    next-list =
        let b = g.sides_in in
        let hr = h.room in
        let z = (flip-place l k e).0 in
        let f : sides + (i + 1) ≡ sides + i + 1 = omega arith in
        let d : sides + count - (sides + (i + 1)) ≡ sides + count - (sides + i + 1) = omega arith in
        ap₂ (λ (m : ℕ) (y : List ℕ). side_at c m ∷ map (side_at c) y) z (ap₂ (λ (m n : ℕ). part w m n) f d)
        ∙ ap (map (side_at c)) (sym (part_cons w (sides + i) (sides + count) (omega arith) (omega arith)))

    matched : (b : Bool) → Matches p touched (cond b (flip_step (pair_of c ls) I.state (at c k) (at c (nx k))) I.state) (cond b (flip_corners (quad_in p (length c₁) begun w₁ k) c₁) c₁) (cond b (touch_four touched (quad_in p (length c₁) begun w₁ k) w₁) w₁)
    matched true = flip_matches s c ls p w₁ across begun kept touched ready k (quad_in p (length c₁) begun w₁ k) sd I.state c₁ w₁ I.corners refl I.matches
    matched false = I.matches

    corners-kept : (b : Bool) → length (cond b (flip_corners (quad_in p (length c₁) begun w₁ k) c₁) c₁) ≡ length c₁
    corners-kept true = flip-length (quad_in p (length c₁) begun w₁ k) c₁
    corners-kept false = refl

    size-kept : (b : Bool) → length (cond b (touch_four touched (quad_in p (length c₁) begun w₁ k) w₁) w₁) ≡ length w₁
    size-kept true = touch_length touched (quad_in p (length c₁) begun w₁ k) w₁
    size-kept false = refl

    under-kept : (b : Bool) (j : ℕ) → j < touched → at (cond b (touch_four touched (quad_in p (length c₁) begun w₁ k) w₁) w₁) j ≡ at w₁ j
    under-kept true j m = touch_under touched (quad_in p (length c₁) begun w₁ k) w₁ j m
    under-kept false j m = refl

    over-kept : (b : Bool) (j : ℕ) → touched + p ≤ j → at (cond b (touch_four touched (quad_in p (length c₁) begun w₁ k) w₁) w₁) j ≡ at w₁ j
    over-kept true j m = touch_over s c ls p w₁ across begun kept touched ready k (quad_in p (length c₁) begun w₁ k) sd w₁ j m
    over-kept false j m = refl

    pub flip_turn : Flipping s c ls p w touched sides count c₂ w₂ (i + 1) (r + x)
    flip_turn =
        let D = decides_at s ls p (length c₁) across begun kept touched w₁ k in
        let pr = pair_of c ls in
        let choose = helps s (pair_of c ls) in
        let st = I.state in
        let d = side_at c k in
        let more = rest c w sides count (i + 1) in
        let few = I.few in
        let b1 = bit_most f x one-more in
        let n : x ≡ one (decides_at s ls p (length c₁) across begun kept touched w₁ k) = one-more ∙ bit_one f ∙ ap one t.flips in
        record {
          short = omega arith;
          few = omega arith;
          corners = ap length t.corners ∙ corners-kept D ∙ I.corners;
          size = ap length t.words ∙ size-kept D ∙ I.size;
          under = λ j m. ap (λ (y : List ℕ). at y j) t.words ∙ under-kept D j m ∙ I.under j m;
          over = λ j m. ap (λ (y : List ℕ). at y j) t.words ∙ over-kept D j m ∙ I.over j m;
          state = step_of pr choose st d;
          matches = subst (λ (y : List ℕ). Matches p touched (step_of pr choose st d) y w₂) (sym t.corners)
              (subst (λ (y : List ℕ). Matches p touched (step_of pr choose st d) (cond D (flip_corners (quad_in p (length c₁) begun w₁ k) c₁) c₁) y) (sym t.words)
              (subst (λ (y : Bool). Matches p touched (cond y (flip_step pr st (at c k) (at c (nx k))) st) (cond D (flip_corners (quad_in p (length c₁) begun w₁ k) c₁) c₁) (cond D (touch_four touched (quad_in p (length c₁) begun w₁ k) w₁) w₁)) decision (matched D)));
          left = pass-next pr choose st d more ∙ ap (flip_pass pr choose st) next-list ∙ I.left;
          flips =
              let a = count_next pr choose st d more in
              let f = I.flips in
              let z : length (flips_of pr choose st (d ∷ more)) ≡ length (flips_of pr choose st (rest c w sides count i)) = ap (λ (y : List Side). length (flips_of pr choose st y)) next-list in
              let v : one D ≡ one (decided pr choose st d) = ap one decision in
              omega arith;
        }

  pub flip-ends : count ≤ i → Passed s c ls p w sides count touched c₁ w₁ r
  unfolding flip_pass flips_of
  flip-ends l =
      let m = I.short in
      let z : rest c w sides count i ≡ [] = ap (map (side_at c)) (part_none w (sides + i) (sides + count) (omega arith)) in
      record {
        corners = I.corners;
        rest = record { len = I.size; under = I.under; over = I.over };
        tris = I.matches.tris ∙ ap (λ (x : FlipState). x.tris) (ap (flip_pass (pair_of c ls) (helps s (pair_of c ls)) I.state) (sym z) ∙ I.left);
        flips = let a = ap (λ (y : List Side). length (flips_of (pair_of c ls) (helps s (pair_of c ls)) I.state y)) z in let b = I.flips in omega arith;
      }
