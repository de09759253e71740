-- The triangles that stay move to the front, one triangle a turn.
use Prim.Native.Nat.{ℕ, suc, ◌+◌, ◌*◌, ◌<◌, ◌≤◌}
use native.Mathlib.Numerals.{add-one}
use native.Mathlib.Omega.{arith}
use mathlib.Core.Path.{◌≡◌, refl, sym, ◌∙◌, ap, ap₂, subst}
use mathlib.Core.Bool.{Bool, true, false, not, cond}
use mathlib.Core.List.{List, [], ◌∷◌, ◌++◌, append-nil, append_assoc}
use lib.Dec.{eqb}
use lib.ListN.{length, length-append, get_or, take, drop, set, length-set, length-drop, length-map, get_or-map}
use lib.Seq.{take-suc, take-set-le, take-suc-set, take_all, length-take-le, get_or-set_other, get_or-take, get_or-drop}
use mir.Val.{bool_byte}
use Rattle.surface.specs.Triangle.{Tri, tri, triangles, corners}
use Rattle.surface.proofs.Flat.{length-triangles, place-triangles}
use Rattle.halfedges.specs.Place.{at}
use Rattle.rounds.specs.Pass.{retain}
use Rattle.surface.specs.Renumber.{renumber, renumbered}
use Rattle.rounds.proofs.Loops.{retain-more}
use Rattle.renumber.specs.Dropped.{gone_at, becomes, Movable, Moved, Droppable, Dropped}

-- three words, one triangle further
pub three-on : (l : List ℕ) (q a b d : ℕ) → 3 * q + 2 < length l → take (3 * (q + 1)) (set (set (set l (3 * q) a) (3 * q + 1) b) (3 * q + 2) d) ≡ take (3 * q) l ++ (a ∷ b ∷ d ∷ [])
three-on l q a b d h =
    let m = set l (3 * q) a in
    let n = set m (3 * q + 1) b in
    let x : 3 * (q + 1) ≡ suc (3 * q + 2) = omega arith in
    let y : 3 * q + 2 ≡ suc (3 * q + 1) = omega arith in
    let z : 3 * q + 1 ≡ suc (3 * q) = omega arith in
    let i = length-set l (3 * q) a in
    let j = length-set m (3 * q + 1) b in
    ap (λ (k : ℕ). take k (set n (3 * q + 2) d)) x
    ∙ take-suc-set n (3 * q + 2) d (omega arith)
    ∙ ap (λ (t : List ℕ). t ++ (d ∷ [])) (ap (λ (k : ℕ). take k n) y ∙ take-suc-set m (3 * q + 1) b (omega arith) ∙ ap (λ (t : List ℕ). t ++ (b ∷ [])) (ap (λ (k : ℕ). take k m) z ∙ take-suc-set l (3 * q) a (omega arith)))
    ∙ simp append_assoc

corners-append : (xs ys : List Tri) → corners (xs ++ ys) ≡ corners xs ++ corners ys
unfolding corners
corners-append [] ys = refl
corners-append (t ∷ xs) ys = ap (λ (l : List ℕ). t.a ∷ t.b ∷ t.c ∷ l) (corners-append xs ys)

pub byte_small : (b : Bool) (n : ℕ) → n ≡ bool_byte b → n ≤ 1
byte_small true n e = omega arith
byte_small false n e = omega arith

pub moved-is : (c w : List ℕ) (into i q x y z : ℕ) → x ≡ at c (3 * i) → y ≡ at c (3 * i + 1) → z ≡ at c (3 * i + 2)
    → set (set (set c (3 * q) (at w (into + x))) (3 * q + 1) (at w (into + y))) (3 * q + 2) (at w (into + z))
    ≡ set (set (set c (3 * q) (becomes w into (at c (3 * i)))) (3 * q + 1) (becomes w into (at c (3 * i + 1)))) (3 * q + 2) (becomes w into (at c (3 * i + 2)))
moved-is c w into i q x y z e f g = rw (e, f, g) refl

-- what stays of the first i
abbrev kept : {A : Type 0} → List Bool → List A → ℕ → List A
kept gs l i = retain (take i gs) (take i l)

kept_more : {A : Type 0} (gs : List Bool) (l : List A) (d : A) (i : ℕ) → i < length gs → i < length l → kept gs l (i + 1) ≡ kept gs l i ++ cond (get_or gs i false) [] (get_or l i d ∷ [])
kept_more gs l d i g h =
    let e = add-one i in
    ap₂ (λ (x : List Bool) (y : List _). retain x y) (ap (λ (n : ℕ). take n gs) e ∙ take-suc gs i false g) (ap (λ (n : ℕ). take n l) e ∙ take-suc l i d h)
    ∙ retain-more (take i gs) (take i l) (get_or gs i false) (get_or l i d) (length-take-le i gs (omega arith) ∙ sym (length-take-le i l (omega arith)))

module _ (c ls w : List ℕ) (into gone : ℕ) where
  abbrev gs : List Bool
  gs = gone_at w gone (length ls)

  abbrev ts : List Tri
  ts = renumbered (becomes w into) (triangles c)

  -- the first i triangles are dealt with, and q of them stay
  pub record Dropping (c' ls' : List ℕ) (i q : ℕ) : Type 0 where
    pub behind : q ≤ i
    pub short : i ≤ length ls
    pub size-c : length c' ≡ length c
    pub size_l : length ls' ≡ length ls
    pub count : q ≡ length (kept gs ls i)
    pub front-c : take (3 * q) c' ≡ corners (kept gs ts i)
    pub front_l : take q ls' ≡ kept gs ls i
    pub rest-c : (k : ℕ) → 3 * i ≤ k → at c' k ≡ at c k
    pub rest_l : (k : ℕ) → i ≤ k → at ls' k ≡ at ls k

  pub drop_starts : Dropping c ls 0 0
  unfolding corners retain
  drop_starts = record {
    behind = omega arith;
    short = omega arith;
    size-c = refl;
    size_l = refl;
    count = refl;
    front-c = refl;
    front_l = refl;
    rest-c = λ k l. refl;
    rest_l = λ k l. refl;
  }

  module _ (h : Droppable c ls w into gone) where
    gs_length : length gs ≡ length ls
    gs_length = length-map (take (length ls) (drop gone w)) _ ∙ length-take-le (length ls) (drop gone w) (let m = h.marks in omega (arith, length-drop gone w))

    ts_length : length ts ≡ length ls
    ts_length = length-map (triangles c) (renumber (becomes w into)) ∙ length-triangles (length ls) c h.labelled

    gs_at : (i : ℕ) → i < length ls → get_or gs i false ≡ not (eqb (at w (gone + i)) 0)
    gs_at i l =
        get_or-map (λ (x : ℕ). not (eqb x 0)) (take (length ls) (drop gone w)) i 0
        ∙ ap (λ (x : ℕ). not (eqb x 0)) (get_or-take (length ls) (drop gone w) i 0 l ∙ get_or-drop gone w i 0)

    none : Tri
    none = renumber (becomes w into) (tri 0 0 0)

    ts_at : (i : ℕ) → i < length ls → get_or ts i none ≡ renumber (becomes w into) (tri (at c (3 * i)) (at c (3 * i + 1)) (at c (3 * i + 2)))
    unfolding none
    ts_at i l = get_or-map (renumber (becomes w into)) (triangles c) i (tri 0 0 0) ∙ ap (renumber (becomes w into)) (place-triangles c i (omega (arith, h.labelled)))

    module _ (c' ls' : List ℕ) (i q : ℕ) (I : Dropping c' ls' i q) (l : i < length ls) where
      -- the words of the corners of the triangle i
      reads : (j : ℕ) → j < 3 → (3 * i + j < length c') × (into + at c' (3 * i + j) < length w)
      reads j m =
          let e = I.rest-c (3 * i + j) (omega arith) in
          let s = I.size-c in
          let t = h.labelled in
          let r = h.renames (3 * i + j) (omega arith) in
          (omega arith, omega arith)

      pub movable : Movable c' ls' w into i q
      movable = record {
        room = (reads 2 (omega arith)).0;
        label = omega (arith, I.size_l);
        place = I.behind;
        first = subst (λ (n : ℕ). into + at c' n < length w) (same (3 * i)) (reads 0 (omega arith)).1;
        second = (reads 1 (omega arith)).1;
        third = (reads 2 (omega arith)).1;
      }
        where
          same : (n : ℕ) → n + 0 ≡ n
          same n = omega arith

      abbrev next-c : ℕ → ℕ → ℕ → List ℕ
      next-c a b d = set (set (set c' (3 * q) a) (3 * q + 1) b) (3 * q + 2) d

      abbrev next_l : List ℕ
      next_l = set ls' q (at ls' i)

      room : 3 * q + 2 < length c'
      room = let s = I.size-c in let t = h.labelled in let b = I.behind in omega arith

      rest-on : (a b d k : ℕ) → 3 * (i + 1) ≤ k → at (next-c a b d) k ≡ at c k
      rest-on a b d k m = let y = I.behind in
          get_or-set_other (set (set c' (3 * q) a) (3 * q + 1) b) (3 * q + 2) k d 0 (λ e. omega arith)
          ∙ get_or-set_other (set c' (3 * q) a) (3 * q + 1) k b 0 (λ e. omega arith)
          ∙ get_or-set_other c' (3 * q) k a 0 (λ e. omega arith)
          ∙ I.rest-c k (omega arith)

      size-on : (a b d : ℕ) → length (next-c a b d) ≡ length c
      size-on a b d = length-set (set (set c' (3 * q) a) (3 * q + 1) b) (3 * q + 2) d ∙ length-set (set c' (3 * q) a) (3 * q + 1) b ∙ length-set c' (3 * q) a ∙ I.size-c

      one-stays : {A : Type 0} (t : List A) (x : A) → get_or gs i false ≡ false → i < length t → kept gs t (i + 1) ≡ kept gs t i ++ (get_or t i x ∷ [])
      one-stays t x g m = kept_more gs t x i (omega (arith, gs_length)) m ∙ ap (λ (k : Bool). kept gs t i ++ cond k [] (get_or t i x ∷ [])) g

      one_goes : {A : Type 0} (t : List A) (x : A) → get_or gs i false ≡ true → i < length t → kept gs t (i + 1) ≡ kept gs t i
      one_goes t x g m = kept_more gs t x i (omega (arith, gs_length)) m ∙ ap (λ (k : Bool). kept gs t i ++ cond k [] (get_or t i x ∷ [])) g ∙ append-nil (kept gs t i)

      stays : (a b d : ℕ) → a ≡ becomes w into (at c' (3 * i)) → b ≡ becomes w into (at c' (3 * i + 1)) → d ≡ becomes w into (at c' (3 * i + 2))
          → get_or gs i false ≡ false → Dropping (next-c a b d) next_l (i + 1) (q + 1)
      unfolding corners
      stays a b d p r s g = let m = I.behind in record {
        behind = omega arith;
        short = omega arith;
        size-c = size-on a b d;
        size_l = length-set ls' q (at ls' i) ∙ I.size_l;
        count = let e = I.count in sym (ap length (one-stays ls 0 g l) ∙ length-append (kept gs ls i) (at ls i ∷ []) ∙ ap (λ (n : ℕ). n + 1) (sym e));
        front-c = three-on c' q a b d room
            ∙ ap₂ (λ (x y : List ℕ). x ++ y) I.front-c (ap corners_of_lem named)
            ∙ sym (corners-append (kept gs ts i) (get_or ts i none ∷ []))
            ∙ sym (ap corners (one-stays ts none g (omega (arith, ts_length))));
        front_l = ap (λ (n : ℕ). take n next_l) (add-one q)
            ∙ take-suc-set ls' q (at ls' i) (omega (arith, I.size_l))
            ∙ ap₂ (λ (x : List ℕ) (y : ℕ). x ++ (y ∷ [])) I.front_l (I.rest_l i (omega arith))
            ∙ sym (one-stays ls 0 g l);
        rest-c = λ k n. rest-on a b d k n;
        rest_l = λ k n. get_or-set_other ls' q k (at ls' i) 0 (λ e. omega arith) ∙ I.rest_l k (omega arith);
      }
        where
          corners_of_lem : Tri → List ℕ
          corners_of_lem t = t.a ∷ t.b ∷ t.c ∷ []

          named : tri a b d ≡ get_or ts i none
          named =
              let x = I.rest-c (3 * i) (omega arith) in
              let y = I.rest-c (3 * i + 1) (omega arith) in
              let z = I.rest-c (3 * i + 2) (omega arith) in
              three (p ∙ ap (becomes w into) x) (r ∙ ap (becomes w into) y) (s ∙ ap (becomes w into) z) ∙ sym (ts_at i l)
            where
              three : {x y z x' y' z' : ℕ} → x ≡ x' → y ≡ y' → z ≡ z' → tri x y z ≡ tri x' y' z'
              three e f g = cc

      goes : (a b d : ℕ) → get_or gs i false ≡ true → Dropping (next-c a b d) next_l (i + 1) q
      goes a b d g = let m = I.behind in record {
        behind = omega arith;
        short = omega arith;
        size-c = size-on a b d;
        size_l = length-set ls' q (at ls' i) ∙ I.size_l;
        count = I.count ∙ sym (ap length (one_goes ls 0 g l));
        front-c = take-set-le (3 * q) (set (set c' (3 * q) a) (3 * q + 1) b) (3 * q + 2) d (omega arith)
            ∙ take-set-le (3 * q) (set c' (3 * q) a) (3 * q + 1) b (omega arith)
            ∙ take-set-le (3 * q) c' (3 * q) a (omega arith)
            ∙ I.front-c ∙ sym (ap corners (one_goes ts none g (omega (arith, ts_length))));
        front_l = take-set-le q ls' q (at ls' i) (omega arith) ∙ I.front_l ∙ sym (one_goes ls 0 g l);
        rest-c = λ k n. rest-on a b d k n;
        rest_l = λ k n. get_or-set_other ls' q k (at ls' i) 0 (λ e. omega arith) ∙ I.rest_l k (omega arith);
      }

      pub drop_turn : (a b d : ℕ) → a ≡ becomes w into (at c' (3 * i)) → b ≡ becomes w into (at c' (3 * i + 1)) → d ≡ becomes w into (at c' (3 * i + 2))
          → Dropping (next-c a b d) next_l (i + 1) (q + bool_byte (eqb (at w (gone + i)) 0))
      drop_turn a b d p r s = go (eqb (at w (gone + i)) 0) refl
        where
          go : (k : Bool) → eqb (at w (gone + i)) 0 ≡ k → Dropping (next-c a b d) next_l (i + 1) (q + bool_byte (eqb (at w (gone + i)) 0))
          go true e = rw e (stays a b d p r s (gs_at i l ∙ ap not e))
          go false e = rw e (subst (Dropping (next-c a b d) next_l (i + 1)) (same q) (goes a b d (gs_at i l ∙ ap not e)))
            where
              same : (n : ℕ) → n ≡ n + 0
              same n = omega arith

      pub drop-on : (c'' ls'' : List ℕ) → Moved c' ls' w c'' ls'' into i q → (x : ℕ) → x ≡ bool_byte (eqb (at w (gone + i)) 0) → Dropping c'' ls'' (i + 1) (q + x)
      drop-on c'' ls'' m x e = rw (e, m.corners, m.labels) (drop_turn _ _ _ refl refl refl)

    pub drop-ends : (c' ls' : List ℕ) (i q : ℕ) → Dropping c' ls' i q → length ls ≤ i → Dropped c ls w c' ls' into gone q
    drop-ends c' ls' i q I l = record {
      count = I.count ∙ ap length (whole ls (omega (arith, I.size_l)));
      corners = I.front-c ∙ ap corners (whole ts (omega (arith, ts_length, I.size_l)));
      labels = I.front_l ∙ whole ls (omega (arith, I.size_l));
      lengths = (I.size-c, I.size_l);
    }
      where
        whole : {A : Type 0} (t : List A) → length t ≤ i → kept gs t i ≡ retain gs t
        whole t m = ap₂ (λ (x : List Bool) (y : List _). retain x y) (take_all i gs (omega (arith, gs_length, I.size_l))) (take_all i t m)
