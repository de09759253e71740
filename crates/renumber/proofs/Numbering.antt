-- The corners get their new numbers, one corner a turn.
use Prim.Native.Nat.{ℕ, suc, ◌+◌, ◌-◌, ◌*◌, ◌/◌, ◌%◌, ◌<◌, ◌≤◌}
use native.Mathlib.Numerals.{add-one}
use native.Mathlib.Omega.{arith}
use native.Mathlib.Decide.{ℕ_discrete, dec_lt}
use mathlib.Core.Path.{◌≡◌, refl, sym, ◌∙◌, ap, ap₂, subst}
use mathlib.Core.Logic.{◌⊎◌, inl, inr}
use mathlib.Core.List.{List, [], ◌∷◌, ◌++◌, append_assoc, Memᴰ}
use lib.ListN.{length, get_or, take, drop, set, length-append, length-set, take-append-drop}
use lib.Seq.{take-suc, take-suc-set, take_all, get_or-set_same, get_or-set_other}
use lib.Ieee.{Float, nan}
use borrow.Author.Tests.{lt-ltb, le-ltb}
use Rattle.surface.specs.Triangle.{triangles, corners}
use Rattle.surface.specs.Euler.{Below}
use Rattle.surface.proofs.Euler.{use_has}
use Rattle.surface.proofs.Flat.{corners-triangles}
use Rattle.halfedges.specs.Place.{at}
use Rattle.rounds.specs.Renumber.{index, meet, met, first_use, walk}
use Rattle.rounds.proofs.FirstUse.{In, index-append, index-new, met_adds, has-corner, first-fewer}
use Rattle.rounds.proofs.Loops.{met-more, walk_more, meet-old, meet-new, not_met}
use Rattle.oracle.specs.Points.{gathered}
use Rattle.scores.specs.Words.{float_at, Kept}
use Rattle.scores.proofs.Words.{held, kept_float, kept_same}
use Rattle.renumber.specs.Numbered.{Numberable, noted, Numbered, loaded, Loadable, Meetable, Met, old, new}

-- ---- the functions without loops

pub loaded-is : (ps : List Float) (w : List ℕ) (saved v q : ℕ) (x y z : Float) → x ≡ float_at w (saved + v * 6) → y ≡ float_at w (saved + v * 6 + 2) → z ≡ float_at w (saved + v * 6 + 4)
    → set (set (set ps (q * 3) x) (q * 3 + 1) y) (q * 3 + 2) z ≡ loaded ps w saved v q
loaded-is ps w saved v q x y z e f g = rw (e, f, g) refl

module _ (c w : List ℕ) (numbers k v m : ℕ) (e : v ≡ at c k) (f : m ≡ at w (numbers + v)) where
  note : m ≡ at w (numbers + at c k)
  note = f ∙ ap (λ (n : ℕ). at w (numbers + n)) e

  pub note_of : 0 < m → suc (m - 1) ≡ at w (numbers + at c k)
  note_of l = let n = note in omega arith

pub fresh_at : (ps : List Float) (c w : List ℕ) (numbers saved k q v m : ℕ) → Meetable ps c w numbers saved k q → v ≡ at c k → m ≡ at w (numbers + v) → m ≤ 0 → Loadable ps w saved v q × (q < 32768)
fresh_at ps c w numbers saved k q v m h e f l =
    let n = note c w numbers k v m e f in
    let r = h.fresh (omega arith) in
    (subst (λ (u : ℕ). Loadable ps w saved u q) (sym e) r.0, r.1)

pub met-new : (ps ps' : List Float) (c w : List ℕ) (numbers saved k q v m : ℕ) → v ≡ at c k → m ≡ at w (numbers + v) → m ≤ 0 → ps' ≡ loaded ps w saved v q
    → Met ps c w ps' (set c k q) (set w (numbers + v) (q + 1)) numbers saved k q (q + 1)
met-new ps ps' c w numbers saved k q v m e f l g =
    let n = note c w numbers k v m e f in
    new (omega arith) refl (g ∙ ap (λ (u : ℕ). loaded ps w saved u q) e) (ap (λ (u : ℕ). set w (numbers + u) (q + 1)) e) refl

-- ---- the loop

-- the word of a corner that is met, and of one that is not
noted_in : (seen : List ℕ) (v : ℕ) → In seen v → noted seen v ≡ suc (index seen v)
noted_in seen v i = rw (lt-ltb (index seen v) (length seen) i) refl

noted_out : (seen : List ℕ) (v : ℕ) → (In seen v → ⊥) → noted seen v ≡ 0
noted_out seen v n = let e : length seen ≤ index seen v = omega arith in rw (le-ltb (index seen v) (length seen) e) refl

noted_more : (seen : List ℕ) (v u : ℕ) → (u ≡ v → ⊥) → noted (seen ++ (v ∷ [])) u ≡ noted seen u
noted_more seen v u n = pick (dec_lt (index seen u) (length seen))
  where
    pick : Dec (In seen u) → noted (seen ++ (v ∷ [])) u ≡ noted seen u
    pick (yes i) =
        let e = index-append seen (v ∷ []) u i in
        noted_in (seen ++ (v ∷ [])) u (omega (arith, length-append seen (v ∷ []))) ∙ ap suc e ∙ sym (noted_in seen u i)
    pick (no i) = noted_out (seen ++ (v ∷ [])) u (not_met seen v u (λ e. n (sym e)) i) ∙ sym (noted_out seen u i)

noted-new : (seen : List ℕ) (v : ℕ) → (In seen v → ⊥) → noted (seen ++ (v ∷ [])) v ≡ length seen + 1
noted-new seen v n =
    let e = index-new seen v n in
    noted_in (seen ++ (v ∷ [])) v (omega (arith, length-append seen (v ∷ []))) ∙ ap suc e ∙ sym (add-one (length seen))

-- no more corners are met than there are points
met-append : (seen xs ys : List ℕ) → met seen (xs ++ ys) ≡ met (met seen xs) ys
unfolding met
met-append seen [] ys = refl
met-append seen (x ∷ xs) ys = met-append (meet seen x) xs ys

met-part : (c : List ℕ) (k : ℕ) → length (met [] (take k c)) ≤ length (met [] c)
met-part c k =
    let r = met_adds (met [] (take k c)) (drop k c) in
    let e = ap (met []) (sym (take-append-drop k c)) ∙ met-append [] (take k c) (drop k c) ∙ r.1 in
    omega (arith, ap length e, length-append (met [] (take k c)) r.0)

mem_at : (c : List ℕ) (v : ℕ) → Memᴰ v c → (k : ℕ) × (k < length c) × (at c k ≡ v)
mem_at (x ∷ c) v (Memᴰ.head e) = (0, omega arith, sym e)
mem_at (x ∷ c) v (Memᴰ.tail m) = let r = mem_at c v m in (suc r.0, omega (arith, r.1), r.2)
mem_at [] v x' = elim x' [ ]

met-few : (c : List ℕ) (p : ℕ) → length c % 3 ≡ 0 → ((k : ℕ) → k < length c → at c k < p) → length (met [] c) ≤ p
unfolding first_use
met-few c p t low = subst (λ (l : List ℕ). length (met [] l) ≤ p) e (first-fewer (triangles c) p below)
  where
    e : corners (triangles c) ≡ c
    e = corners-triangles (length c / 3) c (omega arith)

    below : Below p (triangles c)
    below v i =
        let h = use_has (triangles c) v i in
        let r = mem_at c v (subst (Memᴰ v) e (has-corner h.2)) in
        subst (λ (n : ℕ). n < p) r.2 (low r.0 r.1)

-- the points of one more corner
gathered-more : (ps : List Float) (seen : List ℕ) (v : ℕ) → gathered ps (seen ++ (v ∷ [])) ≡ gathered ps seen ++ (get_or ps (v * 3) nan ∷ get_or ps (v * 3 + 1) nan ∷ get_or ps (v * 3 + 2) nan ∷ [])
unfolding gathered
gathered-more ps [] v = refl
gathered-more ps (u ∷ seen) v = ap (λ (l : List Float). get_or ps (u * 3) nan ∷ get_or ps (u * 3 + 1) nan ∷ get_or ps (u * 3 + 2) nan ∷ l) (gathered-more ps seen v)

point-on : (l : List Float) (q : ℕ) (x y z : Float) → q * 3 + 2 < length l → take ((q + 1) * 3) (set (set (set l (q * 3) x) (q * 3 + 1) y) (q * 3 + 2) z) ≡ take (q * 3) l ++ (x ∷ y ∷ z ∷ [])
point-on l q x y z h =
    let m = set l (q * 3) x in
    let n = set m (q * 3 + 1) y in
    let e : (q + 1) * 3 ≡ suc (q * 3 + 2) = omega arith in
    let f : q * 3 + 2 ≡ suc (q * 3 + 1) = omega arith in
    let g : q * 3 + 1 ≡ suc (q * 3) = omega arith in
    let i = length-set l (q * 3) x in
    let j = length-set m (q * 3 + 1) y in
    ap (λ (k : ℕ). take k (set n (q * 3 + 2) z)) e
    ∙ take-suc-set n (q * 3 + 2) z (omega arith)
    ∙ ap (λ (t : List Float). t ++ (z ∷ [])) (ap (λ (k : ℕ). take k n) f ∙ take-suc-set m (q * 3 + 1) y (omega arith) ∙ ap (λ (t : List Float). t ++ (y ∷ [])) (ap (λ (k : ℕ). take k m) g ∙ take-suc-set l (q * 3) x (omega arith)))
    ∙ simp append_assoc

module _ (ps : List Float) (c w : List ℕ) (numbers : ℕ) where
  abbrev seen : ℕ → List ℕ
  seen k = met [] (take k c)

  -- the first k corners have their numbers, of which there are m
  pub record Numbering (ps' : List Float) (c' w' : List ℕ) (k m : ℕ) : Type 0 where
    pub short : k ≤ length c
    pub size-p : length ps' ≡ length ps
    pub size-c : length c' ≡ length c
    pub size_w : length w' ≡ length w
    pub done : take k c' ≡ walk [] (take k c)
    pub rest : (j : ℕ) → k ≤ j → at c' j ≡ at c j
    pub count : m ≡ length (seen k)
    pub points : take (m * 3) ps' ≡ gathered ps (seen k)
    pub notes : (v : ℕ) → v < length ps / 3 → at w' (numbers + v) ≡ noted (seen k) v
    pub others : (j : ℕ) → (j < numbers) ⊎ (numbers + length ps / 3 ≤ j) → at w' j ≡ at w j

  module _ (saved : ℕ) (h : Numberable ps c w numbers saved) where
    pub number_starts : Numbering ps c w 0 0
    unfolding met walk gathered index
    number_starts = record {
      short = omega arith;
      size-p = refl;
      size-c = refl;
      size_w = refl;
      done = refl;
      rest = λ j l. refl;
      count = refl;
      points = refl;
      notes = λ v l. h.blank v l;
      others = λ j l. refl;
    }

    module _ (ps' : List Float) (c' w' : List ℕ) (k m : ℕ) (I : Numbering ps' c' w' k m) where
      pub number-ends : length c ≤ k → Numbered ps c w ps' c' w' numbers m
      number-ends l =
          let g : length c' ≤ k = omega (arith, I.size-c) in
          let e : take k c ≡ c = take_all k c l in
          let f : take k c' ≡ c' = take_all k c' g in
          let n = ap (λ (t : List ℕ). length (met [] t)) e in
          let a = met-few c (length ps / 3) h.thirds (λ j q. omega (arith, h.low j q)) in
          record {
            corners = sym f ∙ I.done ∙ ap (walk []) e;
            count = I.count ∙ n;
            fits = omega (arith, I.count, n, a);
            points = I.points ∙ ap (λ (t : List ℕ). gathered ps (met [] t)) e;
            notes = λ v q. I.notes v q ∙ ap (λ (t : List ℕ). noted (met [] t) v) e;
            others = I.others;
            lengths = (I.size-p, I.size-c, I.size_w);
          }

      module _ (l : k < length c) where
        pub corner-is : at c' k ≡ at c k
        corner-is = I.rest k (omega arith)

        pub corner-low : at c' k * 3 + 2 < length ps
        corner-low = let e = corner-is in omega (arith, h.low k l)

        seen_more : seen (k + 1) ≡ meet (seen k) (at c k)
        seen_more = ap (λ (n : ℕ). met [] (take n c)) (add-one k) ∙ ap (met []) (take-suc c k 0 l) ∙ met-more [] (take k c) (at c k)

        walk-next : walk [] (take (k + 1) c) ≡ walk [] (take k c) ++ (index (meet (seen k) (at c k)) (at c k) ∷ [])
        walk-next = ap (λ (n : ℕ). walk [] (take n c)) (add-one k) ∙ ap (walk []) (take-suc c k 0 l) ∙ walk_more [] (take k c) (at c k)

        pub note-is : at w' (numbers + at c' k) ≡ noted (seen k) (at c k)
        note-is = ap (λ (v : ℕ). at w' (numbers + v)) corner-is ∙ I.notes (at c k) (omega (arith, h.low k l))

        set-done : (x : ℕ) → x ≡ index (meet (seen k) (at c k)) (at c k) → take (k + 1) (set c' k x) ≡ walk [] (take (k + 1) c)
        set-done x e = ap (λ (n : ℕ). take n (set c' k x)) (add-one k)
            ∙ take-suc-set c' k x (omega (arith, I.size-c))
            ∙ ap₂ (λ (t : List ℕ) (y : ℕ). t ++ (y ∷ [])) I.done e
            ∙ sym walk-next

        -- a corner whose word is not 0 is met
        is-met : (x : ℕ) → suc x ≡ at w' (numbers + at c' k) → (In (seen k) (at c k)) × (x ≡ index (seen k) (at c k))
        is-met x e = pick (dec_lt (index (seen k) (at c k)) (length (seen k)))
          where
            pick : Dec (In (seen k) (at c k)) → (In (seen k) (at c k)) × (x ≡ index (seen k) (at c k))
            pick (yes i) = (i, omega (arith, e, note-is, noted_in (seen k) (at c k) i))
            pick (no i) = absurd (omega (arith, e, note-is, noted_out (seen k) (at c k) i))

        not_yet : at w' (numbers + at c' k) ≡ 0 → In (seen k) (at c k) → ⊥
        not_yet e i = omega (arith, note-is, noted_in (seen k) (at c k) i)

        turn_old : (x : ℕ) → suc x ≡ at w' (numbers + at c' k) → Numbering ps' (set c' k x) w' (k + 1) m
        turn_old x e =
            let i = is-met x e in
            let o = meet-old (seen k) (at c k) i.0 in
            let s = seen_more ∙ o in
            record {
              short = omega arith;
              size-p = I.size-p;
              size-c = length-set c' k x ∙ I.size-c;
              size_w = I.size_w;
              done = set-done x (i.1 ∙ ap (λ (t : List ℕ). index t (at c k)) (sym o));
              rest = λ j q. get_or-set_other c' k j x 0 (λ r. omega arith) ∙ I.rest j (omega arith);
              count = I.count ∙ ap length (sym s);
              points = I.points ∙ ap (gathered ps) (sym s);
              notes = λ v q. I.notes v q ∙ ap (λ (t : List ℕ). noted t v) (sym s);
              others = I.others;
            }

        -- the next number is that of a point
        pub room-new : at w' (numbers + at c' k) ≡ 0 → (m * 3 + 2 < length ps) × (m < 32768)
        room-new e =
            let s = seen_more ∙ (meet-new (seen k) (at c k) (not_yet e)).0 in
            let a = met-few c (length ps / 3) h.thirds (λ j q. omega (arith, h.low j q)) in
            let b = met-part c (k + 1) in
            let n = ap length s ∙ length-append (seen k) (at c k ∷ []) in
            let f = h.few in
            let g = I.count in
            (omega arith, omega arith)

        -- the saved points are still there
        kept_now : (j : ℕ) → j < length ps → Kept w' (saved + j * 2) (get_or ps j nan)
        kept_now j q = let a = h.apart in kept_same w w' (saved + j * 2) (get_or ps j nan) I.size_w (I.others (saved + j * 2) (inr (omega arith))) (I.others (saved + j * 2 + 1) (inr (omega arith))) (h.kept j q)

        coordinate : (i j n : ℕ) → j < 3 → n ≡ at c' k * 3 + j → i ≡ saved + at c' k * 6 + j * 2 → Kept w' i (get_or ps n nan)
        coordinate i j n b e f =
            let p = corner-low in
            let q : n < length ps = omega arith in
            let g : i ≡ saved + n * 2 = omega arith in
            subst (λ (x : ℕ). Kept w' x (get_or ps n nan)) (sym g) (kept_now n q)

        abbrev v : ℕ
        v = at c' k

        first : Kept w' (saved + v * 6) (get_or ps (v * 3) nan)
        first = coordinate (saved + v * 6) 0 (v * 3) (omega arith) (omega arith) (omega arith)

        second : Kept w' (saved + v * 6 + 2) (get_or ps (v * 3 + 1) nan)
        second = coordinate (saved + v * 6 + 2) 1 (v * 3 + 1) (omega arith) (omega arith) (omega arith)

        third : Kept w' (saved + v * 6 + 4) (get_or ps (v * 3 + 2) nan)
        third = coordinate (saved + v * 6 + 4) 2 (v * 3 + 2) (omega arith) (omega arith) (omega arith)

        pub meetable : Meetable ps' c' w' numbers saved k m
        meetable = record {
          here = omega (arith, I.size-c);
          there = let r = first.room in let p = corner-low in let a = h.apart in omega arith;
          fresh = λ e. let r = room-new e in (record { first = held w' _ _ first; second = held w' _ _ second; third = held w' _ _ third; room = omega (arith, I.size-p, r.0) }, r.1);
        }

        -- the words after the number is noted
        note-set : at w' (numbers + v) ≡ 0 → (u : ℕ) → u < length ps / 3 → at (set w' (numbers + v) (m + 1)) (numbers + u) ≡ noted (seen k ++ (at c k ∷ [])) u
        note-set e u l = pick (ℕ_discrete u v)
          where
            pick : Dec (u ≡ v) → at (set w' (numbers + v) (m + 1)) (numbers + u) ≡ noted (seen k ++ (at c k ∷ [])) u
            pick (yes f) =
                ap (λ (n : ℕ). at (set w' (numbers + v) (m + 1)) (numbers + n)) f
                ∙ get_or-set_same w' (numbers + v) (m + 1) 0 meetable.there
                ∙ ap (λ (n : ℕ). n + 1) I.count
                ∙ sym (noted-new (seen k) (at c k) (not_yet e))
                ∙ ap (noted (seen k ++ (at c k ∷ []))) (sym (f ∙ corner-is))
            pick (no f) =
                get_or-set_other w' (numbers + v) (numbers + u) (m + 1) 0 (λ g. f (omega arith))
                ∙ I.notes u l
                ∙ sym (noted_more (seen k) (at c k) u (λ g. f (g ∙ sym corner-is)))

        others-set : (j : ℕ) → (j < numbers) ⊎ (numbers + length ps / 3 ≤ j) → at (set w' (numbers + v) (m + 1)) j ≡ at w j
        others-set j o = get_or-set_other w' (numbers + v) j (m + 1) 0 (off o) ∙ I.others j o
          where
            off : (j < numbers) ⊎ (numbers + length ps / 3 ≤ j) → j ≡ numbers + v → ⊥
            off (inl a) e = omega arith
            off (inr a) e = let p = corner-low in omega arith

        point-set : at w' (numbers + v) ≡ 0 → take ((m + 1) * 3) (loaded ps' w' saved v m) ≡ gathered ps (seen k ++ (at c k ∷ []))
        point-set e =
            point-on ps' m _ _ _ (meetable.fresh e).0.room
            ∙ ap₂ (λ (s t : List Float). s ++ t) I.points (coordinates (kept_float w' _ _ first) (kept_float w' _ _ second) (kept_float w' _ _ third))
            ∙ ap (λ (u : ℕ). gathered ps (seen k) ++ (get_or ps (u * 3) nan ∷ get_or ps (u * 3 + 1) nan ∷ get_or ps (u * 3 + 2) nan ∷ [])) corner-is
            ∙ sym (gathered-more ps (seen k) (at c k))
          where
            coordinates : {x y z x' y' z' : Float} → x ≡ x' → y ≡ y' → z ≡ z' → ◌≡◌ {A = List Float} (x ∷ y ∷ z ∷ []) (x' ∷ y' ∷ z' ∷ [])
            coordinates a b d = cc

        turn_new : at w' (numbers + v) ≡ 0 → Numbering (loaded ps' w' saved v m) (set c' k m) (set w' (numbers + v) (m + 1)) (k + 1) (m + 1)
        turn_new e =
            let n = meet-new (seen k) (at c k) (not_yet e) in
            let s = seen_more ∙ n.0 in
            record {
              short = omega arith;
              size-p = length-set (set (set ps' (m * 3) x) (m * 3 + 1) y) (m * 3 + 2) z ∙ length-set (set ps' (m * 3) x) (m * 3 + 1) y ∙ length-set ps' (m * 3) x ∙ I.size-p;
              size-c = length-set c' k m ∙ I.size-c;
              size_w = length-set w' (numbers + v) (m + 1) ∙ I.size_w;
              done = set-done m (I.count ∙ sym n.1);
              rest = λ j q. get_or-set_other c' k j m 0 (λ r. omega arith) ∙ I.rest j (omega arith);
              count = ap (λ (i : ℕ). i + 1) I.count ∙ sym (ap length s ∙ length-append (seen k) (at c k ∷ []));
              points = point-set e ∙ ap (gathered ps) (sym s);
              notes = λ u l. note-set e u l ∙ ap (λ (t : List ℕ). noted t u) (sym s);
              others = others-set;
            }
          where
            x : Float
            x = float_at w' (saved + v * 6)

            y : Float
            y = float_at w' (saved + v * 6 + 2)

            z : Float
            z = float_at w' (saved + v * 6 + 4)

        pub number_turn : (ps'' : List Float) (c'' w'' : List ℕ) (r : ℕ) → Met ps' c' w' ps'' c'' w'' numbers saved k m r → Numbering ps'' c'' w'' (k + 1) r
        number_turn ps'' c'' w'' r (old x e a b d f) = rw (a, b, d, f) (turn_old x e)
        number_turn ps'' c'' w'' r (new e a b d f) = rw (a, b, d, f) (turn_new e)
