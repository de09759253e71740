-- What each function's calls come to, and a lemma for each turn of a loop.
use Prim.Native.Nat.{ℕ, suc, ◌+◌, ◌*◌, ◌-◌, ◌/◌, ◌%◌, ◌<◌, ◌≤◌}
use native.Mathlib.Numerals.{add-one}
use native.Mathlib.Omega.{arith}
use mathlib.Core.Path.{◌≡◌, refl, sym, ap, ap₂, ◌∙◌, subst}
use mathlib.Core.Logic.{inl, ⊎_elim}
use mathlib.Core.Bool.{Bool, true, false, ◌&&◌, ◌||◌, cond}
use mathlib.Core.List.{List, [], ◌∷◌, ◌++◌, map, append-nil, append_assoc}
use lib.Dec.{T, eqb}
use lib.ListN.{length, get_or, set, take, drop, length-set, length-drop}
use lib.Seq.{get_or-set_same, get_or-set_other, take-set-le, take-suc-set, drop-set-add}
use lib.Ieee.Fits.{add-fits}
use lib.Ieee as Ieee
use lib.Ieee.{Float, binary64, fits}
use mir.Val.{bool_byte}
use borrow.Author.Tests.{eq-eqb, ne_eqb}
use Rattle.float.specs.declared.Point.{Point}
use Rattle.float.specs.Point.{plus, difference, dotted}
use Rattle.field.specs.Number.{plus_zero}
use Rattle.field.specs.Shape.{shape}
use Rattle.surface.specs.Triangle.{Tri, tri, triangles}
use Rattle.surface.specs.Edit.{place}
use Rattle.surface.proofs.Flat.{place-triangles}
use Rattle.halfedges.specs.Place.{nx, at}
use Rattle.halfedges.proofs.Free.{free_none, free_wider, free_more, free_set}
use Rattle.halfedges.proofs.Fine.{nx-below}
use Rattle.halfedges.proofs.Turns.{same_or}
use Rattle.sorting.specs.Stable.{part}
use Rattle.sorting.proofs.Keys.{key_there}
use Rattle.sorting.proofs.Parts.{part_cons, part_none}
use Rattle.rounds.specs.Choices.{Side}
use Rattle.oracle.specs.Scene.{scene, point_at, score, squared}
use Rattle.oracle.specs.Candidates.{chosen, total, length_bits}
use Rattle.scores.specs.Words.{put_at, Kept}
use Rattle.scores.proofs.Words.{kept_bits, put-length, put_other, put-kept, put_keeps}
use Rattle.scores.specs.Measures.{Pointed, Lists, score_at, Filled, side_at, Measurable, Measured, Marked, picks, up_from, Picked}

-- ---- the functions without loops

pub scored : (ps qs : List Float) (ns : List ℕ) (a b c l : ℕ) (x y z : Point) (r : Float) → x ≡ point_at ps a → y ≡ point_at ps b → z ≡ point_at ps c → r ≡ shape qs ns x y z l → r ≡ score (scene ps qs ns) (tri a b c) l
unfolding score
scored ps qs ns a b c l x y z r p q s e = cc

pub placed : (c : List ℕ) (i : ℕ) → i * 3 + 2 < length c → place (triangles c) i ≡ tri (at c (i * 3)) (at c (i * 3 + 1)) (at c (i * 3 + 2))
placed c i h =
    let e : 3 * i ≡ i * 3 = omega arith in
    place-triangles c i (omega arith) ∙ ap (λ (n : ℕ). tri (at c n) (at c (n + 1)) (at c (n + 2))) e

module _ (ps qs : List Float) (ns c ls : List ℕ) (i : ℕ) (h : Lists ps c ls) (low : i < length ls) where
  pub triangle_room : i * 3 + 2 < length c
  triangle_room = let e = h.labelled in omega arith

  pub scored_at : (x y z l : ℕ) (r : Float) → x ≡ at c (i * 3) → y ≡ at c (i * 3 + 1) → z ≡ at c (i * 3 + 2) → l ≡ get_or ls i 0 → r ≡ score (scene ps qs ns) (tri x y z) l → r ≡ score_at (scene ps qs ns) c ls i
  scored_at x y z l r p q s t e =
      let u : tri x y z ≡ place (triangles c) i = cc (placed c i triangle_room) in
      e ∙ ap₂ (λ (m : Tri) (n : ℕ). score (scene ps qs ns) m n) u t

  pub corner-points : (x y z : ℕ) → x ≡ at c (i * 3) → y ≡ at c (i * 3 + 1) → z ≡ at c (i * 3 + 2) → (x * 3 + 2 < length ps) × (y * 3 + 2 < length ps) × (z * 3 + 2 < length ps)
  corner-points x y z p q s =
      let r = triangle_room in
      let b = h.pointed.below in
      let b0 = b (i * 3) (omega arith) in
      let b1 = b (i * 3 + 1) (omega arith) in
      let b2 = b (i * 3 + 2) (omega arith) in
      (omega arith, omega arith, omega arith)

pub squared-is : (ps : List Float) (a b : ℕ) (x y d : Point) (r : Float) → x ≡ point_at ps a → y ≡ point_at ps b → d ≡ difference x y → r ≡ dotted d d → r ≡ squared ps a b
unfolding squared
squared-is ps a b x y d r p q s e = e ∙ ap (λ (z : Point). dotted z z) (s ∙ ap₂ (λ (m n : Point). difference m n) p q)

module _ (ps : List Float) (c : List ℕ) (k x y m : ℕ) (h : Pointed ps c) (low : k < length c) (p : x ≡ at c k) (q : m ≡ nx k) (s : y ≡ at c m) where
  pub end_is : y ≡ at c (nx k)
  end_is = s ∙ ap (at c) q

  pub end_low : nx k < length c
  end_low = nx-below (length c) k h.thirds low

  pub end_points : (x * 3 + 2 < length ps) × (y * 3 + 2 < length ps)
  end_points =
      let e = end_is in
      let a = h.below k low in
      let b = h.below (nx k) end_low in
      (omega arith, omega arith)

  pub side-squared-is : (r : Float) → r ≡ squared ps x y → r ≡ squared ps (at c k) (at c (nx k))
  side-squared-is r e = e ∙ ap₂ (squared ps) p end_is

-- ---- a list that is filled word by word

pub filled_none : (f : ℕ → ℕ) (base : ℕ) (w : List ℕ) → Filled f base w w 0
filled_none f base w = record { rest = free_none w; each = λ i l. absurd (omega arith) }

pub filled_more : (f : ℕ → ℕ) (base : ℕ) (w w' : List ℕ) (n x : ℕ) → base + n < length w' → x ≡ f n → Filled f base w w' n → Filled f base w (set w' (base + n) x) (n + 1)
filled_more f base w w' n x room e h = record {
  rest = free_more (free_wider base (base + (n + 1)) (omega arith) (omega arith) h.rest) (free_set base (base + (n + 1)) (base + n) x w' (omega arith) (omega arith));
  each = λ i l.
      ⊎_elim
      (λ (z : i ≡ n). ap (λ (m : ℕ). at (set w' (base + n) x) (base + m)) z ∙ get_or-set_same w' (base + n) x 0 room ∙ e ∙ ap f (sym z))
      (λ (z : i ≡ n → ⊥). get_or-set_other w' (base + n) (base + i) x 0 (λ q. z (omega arith)) ∙ h.each i (omega (arith, z)))
      (same_or i n);
}

pub filled-same : (f : ℕ → ℕ) (base : ℕ) (w w' : List ℕ) (n m : ℕ) → n ≡ m → Filled f base w w' n → Filled f base w w' m
filled-same f base w w' n m e h = subst (Filled f base w w') e h

-- ---- the lengths of the sides

squared-fits : (ps : List Float) (a b : ℕ) → T (fits binary64 (squared ps a b))
unfolding squared
squared-fits ps a b = add-fits binary64 _ _

-- the length of the side j of those whose places stand from `sides` on
abbrev length_at : List Float → List ℕ → List ℕ → ℕ → ℕ → Float
length_at ps c w sides j = squared ps (at c (at w (sides + j))) (at c (nx (at w (sides + j))))

-- i sides are measured, and s is their sum
pub record Measuring (ps : List Float) (c w w' : List ℕ) (sides count keys i : ℕ) (s : Float) : Type 0 where
  pub short : i ≤ count
  pub size : length w' ≡ length w
  pub left : total ps s (map (side_at c) (part w (sides + i) (sides + count - (sides + i)))) ≡ total ps plus_zero (map (side_at c) (part w sides count))
  pub lengths : (j : ℕ) → j < i → Kept w' (keys + 2 * j) (length_at ps c w sides j)
  pub under : (j : ℕ) → j < keys → at w' j ≡ at w j
  pub over : (j : ℕ) → keys + 2 * count ≤ j → at w' j ≡ at w j

pub measure_starts : (ps : List Float) (c w : List ℕ) (sides count keys : ℕ) → Measuring ps c w w sides count keys 0 plus_zero
measure_starts ps c w sides count keys =
    let e : sides + count - (sides + 0) ≡ count = omega arith in
    let z : sides + 0 ≡ sides = omega arith in
    record {
      short = omega arith;
      size = refl;
      left = ap₂ (λ (m n : ℕ). total ps plus_zero (map (side_at c) (part w m n))) z e;
      lengths = λ j l. absurd (omega arith);
      under = λ j l. refl;
      over = λ j l. refl;
    }

total-more : (ps : List Float) (s q : Float) (d : Side) (ds : List Side) → q ≡ squared ps d.one d.two → total ps (plus s q) ds ≡ total ps s (d ∷ ds)
unfolding total
total-more ps s q d ds e = ap (λ (x : Float). total ps (plus s x) ds) e

module _ (ps : List Float) (c w w' : List ℕ) (sides count keys i : ℕ) (s : Float) (h : Measurable ps c w sides count keys (2 * count)) (I : Measuring ps c w w' sides count keys i s) where
  pub measure_place : i < count → (k : ℕ) → k ≡ at w' (sides + i) → (k ≡ at w (sides + i)) × (k < length c)
  measure_place l k e =
      let b = h.behind in
      let z : k ≡ at w (sides + i) = e ∙ I.under (sides + i) (omega arith) in
      let p = h.places i l in
      (z, omega arith)

  measure_turn : i < count → (k : ℕ) (q : Float) → k ≡ at w' (sides + i) → q ≡ squared ps (at c k) (at c (nx k)) → Measuring ps c w (put_at w' (keys + 2 * i) q) sides count keys (i + 1) (plus s q)
  measure_turn l k q e f =
      let b = h.behind in
      let r = h.room in
      let z = I.size in
      let is : q ≡ length_at ps c w sides i = f ∙ ap (λ (m : ℕ). squared ps (at c m) (at c (nx m))) (measure_place l k e).0 in
      let one_more : sides + (i + 1) ≡ sides + i + 1 = omega arith in
      let rest_more : sides + count - (sides + (i + 1)) ≡ sides + count - (sides + i + 1) = omega arith in
      let fit : T (fits binary64 q) = subst (λ (x : Float). T (fits binary64 x)) (sym is) (squared-fits ps (at c (at w (sides + i))) (at c (nx (at w (sides + i))))) in
      record {
        short = omega arith;
        size = put-length w' (keys + 2 * i) q ∙ I.size;
        left =
            ap₂ (λ (m n : ℕ). total ps (plus s q) (map (side_at c) (part w m n))) one_more rest_more
            ∙ total-more ps s q (side_at c (at w (sides + i))) (map (side_at c) (part w (sides + i + 1) (sides + count - (sides + i + 1)))) is
            ∙ ap (λ (x : List ℕ). total ps s (map (side_at c) x)) (sym (part_cons w (sides + i) (sides + count) (omega arith) (omega arith)))
            ∙ I.left;
        lengths = λ j m.
            ⊎_elim
            (λ (y : j ≡ i). subst (λ (n : ℕ). Kept (put_at w' (keys + 2 * i) q) (keys + 2 * n) (length_at ps c w sides n)) (sym y) (subst (Kept (put_at w' (keys + 2 * i) q) (keys + 2 * i)) is (put-kept w' (keys + 2 * i) q (omega arith) fit)))
            (λ (y : j ≡ i → ⊥). put_keeps w' (keys + 2 * i) q (keys + 2 * j) (length_at ps c w sides j) (inl (omega (arith, y))) (I.lengths j (omega (arith, y))))
            (same_or j i);
        under = λ j m. put_other w' (keys + 2 * i) q j (λ y. omega arith) (λ y. omega arith) ∙ I.under j m;
        over = λ j m. put_other w' (keys + 2 * i) q j (λ y. omega arith) (λ y. omega arith) ∙ I.over j m;
      }

  pub measure_turned : i < count → (k : ℕ) (q : Float) (v : List ℕ) → k ≡ at w' (sides + i) → q ≡ squared ps (at c k) (at c (nx k)) → v ≡ put_at w' (keys + 2 * i) q → Measuring ps c w v sides count keys (i + 1) (plus s q)
  measure_turned l k q v e f g = subst (λ (x : List ℕ). Measuring ps c w x sides count keys (i + 1) (plus s q)) (sym g) (measure_turn l k q e f)

  pub measure_ends : count ≤ i → Measured ps c w w' sides count keys s
  unfolding total length_bits
  measure_ends l =
      let g = I.short in
      record {
        sum = sym (ap (λ (x : List ℕ). total ps s (map (side_at c) x)) (part_none w (sides + i) (sides + count) (omega arith))) ∙ I.left;
        lengths = λ j m. sym (key_there w' keys count j m) ∙ kept_bits w' (keys + 2 * j) (length_at ps c w sides j) (I.lengths j (omega arith));
        rest = record { len = I.size; under = I.under; over = I.over };
      }

-- ---- the candidates

pub record Picking (f : ℕ → Bool) (w w' : List ℕ) (count items n i : ℕ) : Type 0 where
  pub short : i ≤ count
  pub few : n ≤ i
  pub size : length w' ≡ length w
  pub left : part w' items n ++ chosen f (up_from i (count - i)) ≡ chosen f (up_from 0 count)
  pub under : (j : ℕ) → j < items → at w' j ≡ at w j
  pub over : (j : ℕ) → items + count ≤ j → at w' j ≡ at w j

pub pick_starts : (f : ℕ → Bool) (w : List ℕ) (count items : ℕ) → Picking f w w count items 0 0
pick_starts f w count items = record { short = omega arith; few = omega arith; size = refl; left = ap (λ (n : ℕ). chosen f (up_from 0 n)) (omega arith); under = λ j l. refl; over = λ j l. refl }

part-set : (w : List ℕ) (b n x : ℕ) → b + n < length w → part (set w (b + n) x) b (n + 1) ≡ part w b n ++ (x ∷ [])
part-set w b n x h =
    ap₂ (λ (m : ℕ) (l : List ℕ). take m l) (add-one n) (drop-set-add b w n x)
    ∙ take-suc-set (drop b w) n x (let l = length-drop b w in omega arith)

part-past : (w : List ℕ) (b n x : ℕ) → part (set w (b + n) x) b n ≡ part w b n
part-past w b n x = ap (take n) (drop-set-add b w n x) ∙ take-set-le n (drop b w) n x (omega arith)

chosen-next : (f : ℕ → Bool) (i count : ℕ) → i < count → chosen f (up_from i (count - i)) ≡ cond (f i) (i ∷ chosen f (up_from (i + 1) (count - (i + 1)))) (chosen f (up_from (i + 1) (count - (i + 1))))
unfolding chosen up_from
chosen-next f i count l =
    let e : count - i ≡ suc (count - (i + 1)) = omega arith in
    ap (λ (n : ℕ). chosen f (up_from i n)) e ∙ ap (λ (n : ℕ). cond (f i) (i ∷ chosen f (up_from n (count - (i + 1)))) (chosen f (up_from n (count - (i + 1))))) (sym (add-one i))

module _ (f : ℕ → Bool) (w w' : List ℕ) (count items n i : ℕ) (room : items + count ≤ length w) (I : Picking f w w' count items n i) where
  pick_turn : i < count → (b : Bool) → b ≡ f i → Picking f w (set w' (items + n) i) count items (n + bool_byte b) (i + 1)
  pick_turn l b e = record {
    short = omega arith;
    few = let g = I.few in go b;
    size = length-set w' (items + n) i ∙ I.size;
    left = next b e ∙ I.left;
    under = λ j m. get_or-set_other w' (items + n) j i 0 (λ q. omega arith) ∙ I.under j m;
    over = λ j m. let g = I.few in get_or-set_other w' (items + n) j i 0 (λ q. omega arith) ∙ I.over j m;
  }
    where
      go : (b : Bool) → n + bool_byte b ≤ i + 1
      go true = let g = I.few in omega arith
      go false = let g = I.few in omega arith

      rest : List ℕ
      rest = chosen f (up_from (i + 1) (count - (i + 1)))

      next : (b : Bool) → b ≡ f i → part (set w' (items + n) i) items (n + bool_byte b) ++ rest ≡ part w' items n ++ chosen f (up_from i (count - i))
      next true q =
          let g = I.few in
          let z = I.size in
          ap (λ (x : List ℕ). x ++ rest) (part-set w' items n i (omega arith))
          ∙ append_assoc (part w' items n) (i ∷ []) rest
          ∙ ap (λ (x : List ℕ). part w' items n ++ x) (ap (λ (x : Bool). cond x (i ∷ rest) rest) q ∙ sym (chosen-next f i count l))
      next false q =
          let z : n + 0 ≡ n = omega arith in
          ap (λ (x : List ℕ). x ++ rest) (ap (part (set w' (items + n) i) items) z ∙ part-past w' items n i)
          ∙ ap (λ (x : List ℕ). part w' items n ++ x) (ap (λ (x : Bool). cond x (i ∷ rest) rest) q ∙ sym (chosen-next f i count l))

  pub pick_turned : i < count → (b : Bool) (m : ℕ) → m ≡ bool_byte b → b ≡ f i → Picking f w (set w' (items + n) i) count items (n + m) (i + 1)
  pick_turned l b m g e = subst (λ (k : ℕ). Picking f w (set w' (items + n) i) count items (n + k) (i + 1)) (sym g) (pick_turn l b e)

  pub pick_ends : count ≤ i → Picked f w w' count items n
  unfolding chosen up_from
  pick_ends l =
      let a = I.short in
      let b = I.few in
      let z : 0 ≡ count - i = omega arith in
      record {
        list = sym (append-nil (part w' items n)) ∙ ap (λ (m : ℕ). part w' items n ++ chosen f (up_from i m)) z ∙ I.left;
        few = omega arith;
        rest = record { len = I.size; under = I.under; over = I.over };
      }

-- the test reads words below the items only
pub picks-same : (ps : List Float) (c w w' : List ℕ) (twins marks base : ℕ) (most : Float) (k m : ℕ) → length c % 3 ≡ 0 → Marked c w twins marks base → ((j : ℕ) → j < base → at w' j ≡ at w j) → k ≡ m → m < length c → picks ps c twins marks most w' k ≡ picks ps c twins marks most w m
picks-same ps c w w' twins marks base most k m thirds h u e low =
    let t = h.twins-low m low in
    let a = h.marks_in in
    let b = h.twins_in in
    let x : at w' (twins + m) ≡ at w (twins + m) = u (twins + m) (omega arith) in
    let y : at w' (marks + m / 3) ≡ at w (marks + m / 3) = u (marks + m / 3) (omega arith) in
    let z : at w' (marks + at w (twins + m) / 3) ≡ at w (marks + at w (twins + m) / 3) = u (marks + at w (twins + m) / 3) (omega arith) in
    ap (picks ps c twins marks most w') e
    ∙ ap₂ (λ (p q : ℕ). Ieee.lt (squared ps (at c m) (at c (nx m))) most && (eqb p 1 || eqb q 1)) y (ap (λ (n : ℕ). at w' (marks + n / 3)) x ∙ z)

-- ---- the ways out of the test

module _ (ps : List Float) (c w : List ℕ) (twins marks : ℕ) (most : Float) (k : ℕ) (q : Float) (e : q ≡ squared ps (at c k) (at c (nx k))) where
  tested : (b x y : Bool) → Ieee.lt q most ≡ b → eqb (at w (marks + k / 3)) 1 ≡ x → eqb (at w (marks + at w (twins + k) / 3)) 1 ≡ y → b && (x || y) ≡ picks ps c twins marks most w k
  tested b x y f g h = cc

  pub pick-long : Ieee.lt q most ≡ false → false ≡ picks ps c twins marks most w k
  pick-long f = tested false _ _ f refl refl

  pub pick_first : Ieee.lt q most ≡ true → at w (marks + k / 3) ≡ 1 → true ≡ picks ps c twins marks most w k
  pick_first f g = tested true true _ f (eq-eqb (at w (marks + k / 3)) 1 g) refl

  pub pick_second : Ieee.lt q most ≡ true → (at w (marks + k / 3) ≡ 1 → ⊥) → (t : ℕ) → t ≡ at w (twins + k) → eqb (at w (marks + t / 3)) 1 ≡ picks ps c twins marks most w k
  pick_second f g t h = ap (λ (m : ℕ). eqb (at w (marks + m / 3)) 1) h ∙ tested true false _ f (ne_eqb (at w (marks + k / 3)) 1 g) refl

pub twin-room : (c w : List ℕ) (twins marks k t : ℕ) → length c % 3 ≡ 0 → Marked c w twins marks (length w) → k < length c → t ≡ at w (twins + k) → marks + t / 3 < length w
twin-room c w twins marks k t thirds h l e = let a = h.twins-low k l in let b = h.marks_in in omega arith

pub marked_in : (c w w' : List ℕ) (twins marks base : ℕ) → base ≤ length w' → ((j : ℕ) → j < base → at w' j ≡ at w j) → Marked c w twins marks base → Marked c w' twins marks (length w')
marked_in c w w' twins marks base room u h =
    let a = h.twins_in in
    let b = h.marks_in in
    record { twins_in = omega arith; marks_in = omega arith; twins-low = λ k l. subst (λ (m : ℕ). m < length c) (sym (u (twins + k) (omega arith))) (h.twins-low k l) }

module _ (ps : List Float) (c w w' : List ℕ) (f : ℕ → Bool) (sides count items n i : ℕ) (h : Measurable ps c w sides count items count) (I : Picking f w w' count items n i) where
  pub pick-place : i < count → (k : ℕ) → k ≡ at w' (sides + i) → (k ≡ at w (sides + i)) × (k < length c)
  pick-place l k e =
      let b = h.behind in
      let z : k ≡ at w (sides + i) = e ∙ I.under (sides + i) (omega arith) in
      let p = h.places i l in
      (z, omega arith)
