-- Ours says what the Rust's `validate` says, of every call that is lendable. The Rust's loop makes what `measured` makes, face by face, and its test of (b) and (c) is `original_iff` of `surface`.
use Prim.Native.Nat.{ℕ, zero, suc, ◌+◌, ◌*◌, ◌/◌, ◌%◌, ◌<◌}
use native.Mathlib.Decide.{ℕ_discrete}
use native.Mathlib.Omega.{arith}
use mathlib.Core.Path.{◌≡◌, refl, sym, ap, ap₂, ◌∙◌, subst}
use mathlib.Core.Logic.{◌⊎◌, inl, inr, ◌↔◌}
use mathlib.Core.Bool.{Bool, true, false, not, ◌&&◌, ◌||◌, cond}
use mathlib.Core.List.{List, [], ◌∷◌, ◌++◌, foldl, append-nil, append_assoc}
use lib.Dec.{eqb}
use lib.ListN.{length}
use lib.Ieee.{Float}
use borrow.Author.Tests.{eq-eqb, ne_eqb, eqb-true, le-leb}
use Rattle.float.specs.Order.{lesser, is_finite}
use Rattle.float.specs.Point.{plus, difference}
use Rattle.float.specs.declared.Point.{Point}
use Rattle.surface.specs.Triangle.{Tri, tri, triangles}
use Rattle.surface.specs.Closed.{Step, step}
use Rattle.surface.specs.Check.{every}
use Rattle.surface.specs.Euler.{Below}
use Rattle.surface.specs.Finding.{finding}
use Rattle.surface.specs.Original.{directed, closed_oriented, original_closed}
use Rattle.surface.specs.declared.Finding.{Finding}
use Rattle.surface.specs.declared.Finding.TheVariants as finds
use Rattle.surface.proofs.Bools.{or_second}
use Rattle.surface.proofs.Findings.{finding-closed}
use Rattle.surface.proofs.Flat.{length-triangles, used-below}
use Rattle.surface.proofs.Original.{original_iff}
use Rattle.questions.specs.Questions.{ask, lent_questions}
use Rattle.questions.specs.Refusal.{refusal_number, on_finding}
use Rattle.questions.specs.declared.Refusal.{Refusal}
use Rattle.questions.specs.declared.Refusal.TheVariants.{Lengths, NotFinite, CornerMissing, Degenerate, Repeated, Lone, Split, Volume}
use Rattle.std.specs.declared.result.Result.TheVariants as ours
use Rattle.questions.proofs.Counted.{no_labels, asked_finite}
use Rattle.questions.proofs.Chain.{not_so}
use Rattle.quality.specs.Quality.{number, rated, quality, wedge, degenerate}
use Rattle.checking.specs.Verdict.{Verdict, accepted, number_of, quality_of, volume_of}
use Rattle.checking.specs.Validate.{point_at, placed, quality_at, wedge_at, outside, next, measured, as_whole, examined, validated}
use Rattle.checking.specs.Original.{InvalidArrays, InvalidIndex, DegenerateTriangle, NotClosed, NonpositiveVolume, Result, Panics, Err, Ok, finite?, point_of, behind, from_face, from_origin, original, points_of, original_of, Lendable, EqualsOriginal}
use Rattle.checking.proofs.Turns.{taken, by_tests, refused}
use Rattle.checking.proofs.Sound.{never, measures, corners-below}
use Rattle.checking.proofs.Cases.{by_whole, some-triangles, by_first}

-- ---- the points of a list of coordinates

length-points : (n : ℕ) (ps : List Float) → length ps ≡ 3 * n → length (points_of ps) ≡ n
unfolding points_of
length-points zero [] e = refl
length-points (suc n) [] e = absurd (omega arith)
length-points zero (x ∷ l) e = absurd (omega arith)
length-points (suc n) (x ∷ []) e = absurd (omega arith)
length-points (suc n) (x ∷ y ∷ []) e = absurd (omega arith)
length-points (suc n) (x ∷ y ∷ z ∷ l) e = ap suc (length-points n l (omega arith))

point_at_lem : (n : ℕ) (ps : List Float) → length ps ≡ 3 * n → (i : ℕ) → point_of (points_of ps) i ≡ point_at ps i
unfolding points_of
point_at_lem n [] e i = refl
point_at_lem zero (x ∷ l) e i = absurd (omega arith)
point_at_lem (suc n) (x ∷ []) e i = absurd (omega arith)
point_at_lem (suc n) (x ∷ y ∷ []) e i = absurd (omega arith)
point_at_lem (suc n) (x ∷ y ∷ z ∷ l) e zero = refl
point_at_lem (suc n) (x ∷ y ∷ z ∷ l) e (suc i) =
    let a : 3 * suc i ≡ suc (suc (suc (3 * i))) = omega arith in
    let b : 3 * suc i + 1 ≡ suc (suc (suc (3 * i + 1))) = omega arith in
    let c : 3 * suc i + 2 ≡ suc (suc (suc (3 * i + 2))) = omega arith in
    rw (b, c, a) (point_at_lem n l (omega arith) i)

points-finite : (n : ℕ) (ps : List Float) → length ps ≡ 3 * n → every finite? (points_of ps) ≡ every is_finite ps
unfolding points_of every
points-finite n [] e = refl
points-finite zero (x ∷ l) e = absurd (omega arith)
points-finite (suc n) (x ∷ []) e = absurd (omega arith)
points-finite (suc n) (x ∷ y ∷ []) e = absurd (omega arith)
points-finite (suc n) (x ∷ y ∷ z ∷ l) e = three (is_finite x) (is_finite y) (is_finite z) ∙ ap (λ (b : Bool). is_finite x && (is_finite y && (is_finite z && b))) (points-finite n l (omega arith))
  where
    three : (a b c : Bool) → ((a && (b && c)) && every finite? (points_of l)) ≡ (a && (b && (c && every finite? (points_of l))))
    three true true c = refl
    three true false c = refl
    three false b c = refl

-- ---- the loop

-- the directed sides of one face
abbrev sides_of : Tri → List Step
sides_of t = step t.a t.b ∷ step t.b t.c ∷ step t.c t.a ∷ []

module _ (points : List Point) (faces : List Tri) (origin : Point) where
  -- one turn, by what it asks for
  one-face : (m v : Float) (sides : List Step) (t : Tri) (left : List Tri) {n : ℕ} {a b c : Point} → length points ≡ n → difference (point_of points t.a) origin ≡ a → difference (point_of points t.b) origin ≡ b → difference (point_of points t.c) origin ≡ c
      → from_face points faces origin m v sides (t ∷ left) ≡ cond (outside n t) (Err InvalidIndex) (cond (degenerate (quality a b c)) (Err DegenerateTriangle) (from_face points faces origin (lesser m (quality a b c)) (plus v (wedge a b c)) (sides ++ sides_of t) left))
  unfolding from_face rated wedge
  one-face m v sides t left e f g h =
      λ i. cond (outside (e i) t) (Err InvalidIndex) (cond (degenerate (quality (f i) (g i) (h i))) (Err DegenerateTriangle) (from_face points faces origin (lesser m (quality (f i) (g i) (h i))) (plus v (wedge (f i) (g i) (h i))) (sides ++ sides_of t) left))

  -- the lines behind the loop, or the message for a triangle that is refused
  onwards : Verdict → List Step → Result
  onwards (ours.Ok m) sides = behind points faces origin m.quality m.volume sides
  onwards (ours.Err why) sides = Err (cond (eqb (refusal_number why) 5) InvalidIndex DegenerateTriangle)

  -- the loop makes what `measured` makes
  module _ (ps : List Float) (many : length points ≡ length ps / 3) (at : (i : ℕ) → difference (point_of points i) origin ≡ placed ps i) where
    whole-loop : (m v : Float) (sides : List Step) (ts : List Tri) → from_face points faces origin m v sides ts ≡ onwards (foldl (next ps) (accepted m v) ts) (sides ++ directed ts)
    unfolding from_face onwards directed
    whole-loop m v sides [] = ap (behind points faces origin m v) (sym (append-nil sides))
    whole-loop m v sides (t ∷ ts) =
        one-face m v sides t ts many (at t.a) (at t.b) (at t.c)
        ∙ go (outside (length ps / 3) t) refl (degenerate (quality_at ps t)) refl (whole-loop (lesser m (quality_at ps t)) (plus v (wedge_at ps t)) (sides ++ sides_of t) ts)
      where
        onto : {x : Verdict} → next ps (accepted m v) t ≡ x → foldl (next ps) (accepted m v) (t ∷ ts) ≡ foldl (next ps) x ts
        onto e = ap (λ (x : Verdict). foldl (next ps) x ts) e

        go : (o : Bool) → outside (length ps / 3) t ≡ o → (d : Bool) → degenerate (quality_at ps t) ≡ d
            → from_face points faces origin (lesser m (quality_at ps t)) (plus v (wedge_at ps t)) (sides ++ sides_of t) ts ≡ onwards (foldl (next ps) (taken ps m v t) ts) ((sides ++ sides_of t) ++ directed ts)
            → cond o (Err InvalidIndex) (cond d (Err DegenerateTriangle) (from_face points faces origin (lesser m (quality_at ps t)) (plus v (wedge_at ps t)) (sides ++ sides_of t) ts)) ≡ onwards (foldl (next ps) (accepted m v) (t ∷ ts)) (sides ++ (sides_of t ++ directed ts))
        go true p d q h = sym (ap (λ (x : Verdict). onwards x (sides ++ (sides_of t ++ directed ts))) (onto (by_tests ps m v t p q) ∙ refused ps CornerMissing ts))
        go false p true q h = sym (ap (λ (x : Verdict). onwards x (sides ++ (sides_of t ++ directed ts))) (onto (by_tests ps m v t p q) ∙ refused ps Degenerate ts))
        go false p false q h = h ∙ ap₂ onwards (sym (onto (by_tests ps m v t p q))) (append_assoc sides (sides_of t) (directed ts))

-- ---- what is said by both

data Pairs : Result → Verdict → Type 0 where
  accepts : {q v : Float} → Pairs (Ok q v) (accepted q v)
  unlabelled : Pairs (Err InvalidArrays) (ours.Err Lengths)
  infinite : Pairs (Err InvalidArrays) (ours.Err NotFinite)
  beyond : Pairs (Err InvalidIndex) (ours.Err CornerMissing)
  flat : Pairs (Err DegenerateTriangle) (ours.Err Degenerate)
  repeated : {u v : ℕ} → Pairs (Err NotClosed) (ours.Err (Repeated u v))
  lone : {u v : ℕ} → Pairs (Err NotClosed) (ours.Err (Lone u v))
  split : {v : ℕ} → Pairs (Err NotClosed) (ours.Err (Split v))
  hollow : Pairs (Err NonpositiveVolume) (ours.Err Volume)

along : {r s : Result} {x y : Verdict} → r ≡ s → x ≡ y → Pairs s y → Pairs r x
along {r} {s} {x} {y} e f p = subst (λ (z : Result). Pairs z x) (sym e) (subst (λ (z : Verdict). Pairs s z) (sym f) p)

-- a triangle is refused with 5 or 6
module _ (ps : List Float) where
  five_six : (m v : Float) (ts : List Tri) (why : Refusal) → foldl (next ps) (accepted m v) ts ≡ ours.Err why → (why ≡ CornerMissing) ⊎ (why ≡ Degenerate)
  five_six m v [] why e = absurd (never (sym e))
  five_six m v (t ∷ ts) why e = go (outside (length ps / 3) t) refl (degenerate (quality_at ps t)) refl (five_six (lesser m (quality_at ps t)) (plus v (wedge_at ps t)) ts why)
    where
      onto : {x : Verdict} → next ps (accepted m v) t ≡ x → foldl (next ps) x ts ≡ ours.Err why
      onto q = sym (ap (λ (x : Verdict). foldl (next ps) x ts) q) ∙ e

      same : (k : Refusal) → ◌≡◌ {A = Verdict} (ours.Err k) (ours.Err why) → why ≡ k
      same k q = cc

      go : (o : Bool) → outside (length ps / 3) t ≡ o → (d : Bool) → degenerate (quality_at ps t) ≡ d → (foldl (next ps) (taken ps m v t) ts ≡ ours.Err why → (why ≡ CornerMissing) ⊎ (why ≡ Degenerate)) → (why ≡ CornerMissing) ⊎ (why ≡ Degenerate)
      go true p d q ih = inl (same CornerMissing (sym (refused ps CornerMissing ts) ∙ onto (by_tests ps m v t p q)))
      go false p true q ih = inr (same Degenerate (sym (refused ps Degenerate ts) ∙ onto (by_tests ps m v t p q)))
      go false p false q ih = ih (onto (by_tests ps m v t p q))

-- without points the first triangle is refused with 5
no_point : (m v : Float) (ts : List Tri) → 0 < length ts → foldl (next []) (accepted m v) ts ≡ ours.Err CornerMissing
no_point m v [] l = absurd (omega arith)
no_point m v (t ∷ ts) l = ap (λ (x : Verdict). foldl (next []) x ts) (by_tests [] m v t out refl) ∙ refused [] CornerMissing ts
  where
    out : outside 0 t ≡ true
    out = rw (le-leb 0 t.a (omega arith))

unmeasured : (cs : List ℕ) → 0 < length (triangles cs) → measured [] cs ≡ ours.Err CornerMissing
unfolding measured
unmeasured cs l = no_point (number 1) (number 0) (triangles cs) l

-- questions 7 and 8, and the lines behind the loop
module _ (points : List Point) (ts : List Tri) (origin : Point) (q v : Float) where
  by-behind : {a b : Bool} → closed_oriented ts (directed ts) (length points) ≡ a → degenerate v ≡ b → behind points ts origin q v (directed ts) ≡ cond (not a) (Err NotClosed) (cond b (Err NonpositiveVolume) (Ok q v))
  unfolding behind
  by-behind e f = λ i. cond (not (e i)) (Err NotClosed) (cond (f i) (Err NonpositiveVolume) (Ok q v))

  module _ (below : Below (length points) ts) where
    closed-both : (finding ts ≡ finds.Closed) ↔ (closed_oriented ts (directed ts) (length points) ≡ true)
    unfolding original_closed
    closed-both =
        let o = original_iff ts (length points) below in
        let k = finding-closed ts in
        ((λ e. o.1 (k.0 e)), λ e. k.1 (o.0 e))

    open_both : {f : Finding} → finding ts ≡ f → (f ≡ finds.Closed → ⊥) → closed_oriented ts (directed ts) (length points) ≡ false
    open_both e n = not_so _ (λ c. n (sym e ∙ closed-both.1 c))

    whole_pairs : Pairs (behind points ts origin q v (directed ts)) (as_whole ts (accepted q v))
    whole_pairs = go (finding ts) refl (degenerate v) refl
      where
        go : (f : Finding) → finding ts ≡ f → (d : Bool) → degenerate v ≡ d → Pairs (behind points ts origin q v (directed ts)) (as_whole ts (accepted q v))
        go finds.Closed e true g = along (by-behind (closed-both.0 e) g) (by_whole ts q v (ap on_finding e) g) hollow
        go finds.Closed e false g = along (by-behind (closed-both.0 e) g) (by_whole ts q v (ap on_finding e) g) accepts
        go (finds.Repeated x y) e d g = along (by-behind (open_both e (λ p. let z : ◌≡◌ {A = ℕ} 0 1 = cc in omega arith)) g) (by_whole ts q v (ap on_finding e) g) repeated
        go (finds.Lone x y) e d g = along (by-behind (open_both e (λ p. let z : ◌≡◌ {A = ℕ} 0 1 = cc in omega arith)) g) (by_whole ts q v (ap on_finding e) g) lone
        go (finds.Split x) e d g = along (by-behind (open_both e (λ p. let z : ◌≡◌ {A = ℕ} 0 1 = cc in omega arith)) g) (by_whole ts q v (ap on_finding e) g) split

-- questions 5 to 8, with at least one triangle and one point
module _ (x y z : Float) (l : List Float) (cs : List ℕ) (threes : length (x ∷ y ∷ z ∷ l) % 3 ≡ 0) (corners : length cs % 3 ≡ 0) where
  ps : List Float
  ps = x ∷ y ∷ z ∷ l

  points : List Point
  points = points_of ps

  some_pairs : Pairs (from_origin (points_of (x ∷ y ∷ z ∷ l)) (triangles cs)) (as_whole (triangles cs) (measured (x ∷ y ∷ z ∷ l) cs))
  unfolding points_of measured ps points onwards
  some_pairs = go (measured ps cs) refl
    where
      k : ℕ
      k = length ps / 3

      many : length ps ≡ 3 * (length ps / 3)
      many = omega arith

      count : length points ≡ length ps / 3
      count = length-points (length ps / 3) ps many

      origin : Point
      origin = record { x = x; y = y; z = z }

      loop : from_origin points (triangles cs) ≡ onwards points (triangles cs) origin (measured ps cs) (directed (triangles cs))
      loop = whole-loop points (triangles cs) origin ps count (λ i. ap (λ (p : Point). difference p origin) (point_at_lem (length ps / 3) ps many i)) (number 1) (number 0) [] (triangles cs)

      go : (v : Verdict) → measured ps cs ≡ v → Pairs (from_origin points (triangles cs)) (as_whole (triangles cs) (measured ps cs))
      go (ours.Ok m) e =
          along (loop ∙ ap (λ (w : Verdict). onwards points (triangles cs) origin w (directed (triangles cs))) e) (ap (as_whole (triangles cs)) e)
          (whole_pairs points (triangles cs) origin m.quality m.volume (λ u i. subst (λ (n : ℕ). u < n) (sym count) (used-below (length ps / 3) cs (corners-below ps cs m.quality corners (measures ps cs m.quality m.volume e)) u i)))
      go (ours.Err why) e = two (five_six ps (number 1) (number 0) (triangles cs) why e)
        where
          onto : {r : Result} {w : Refusal} → why ≡ w → onwards points (triangles cs) origin (ours.Err w) (directed (triangles cs)) ≡ r → Pairs r (ours.Err w) → Pairs (from_origin points (triangles cs)) (as_whole (triangles cs) (measured ps cs))
          onto f g p = along (loop ∙ ap (λ (w : Verdict). onwards points (triangles cs) origin w (directed (triangles cs))) (e ∙ ap ours.Err f) ∙ g) (ap (as_whole (triangles cs)) (e ∙ ap ours.Err f)) p

          two : (why ≡ CornerMissing) ⊎ (why ≡ Degenerate) → Pairs (from_origin points (triangles cs)) (as_whole (triangles cs) (measured ps cs))
          two (inl f) = onto f refl beyond
          two (inr f) = onto f refl flat

-- ---- the whole

module _ (ps : List Float) (cs ls : List ℕ) where
  by-original : {a b c : Bool} → eqb (length (triangles cs)) (length ls) ≡ a → every finite? (points_of ps) ≡ b → eqb (length (triangles cs)) 0 ≡ c
      → original_of ps cs ls ≡ cond (not a || not b) (Err InvalidArrays) (cond c (Ok (number 0) (number 0)) (from_origin (points_of ps) (triangles cs)))
  unfolding original
  by-original e f g = λ i. cond (not (e i) || not (f i)) (Err InvalidArrays) (cond (g i) (Ok (number 0) (number 0)) (from_origin (points_of ps) (triangles cs)))

  -- triangles, each with its label, and no points
  abbrev Pointless : Type 0
  Pointless = (length ps ≡ 0) × (0 < length cs) × (length ls ≡ length cs / 3)

  data Both (w : List ℕ) : Type 0 where
    says : Pairs (original_of ps cs ls) (validated ps cs ls w) → Both w
    stops : Pointless → original_of ps cs ls ≡ Panics → validated ps cs ls w ≡ ours.Err CornerMissing → Both w

module _ (cs ls : List ℕ) (thirds : length cs % 3 ≡ 0) where
  counted : length (triangles cs) ≡ length cs / 3
  counted = length-triangles (length cs / 3) cs (omega arith)

  none : length cs ≡ 0 → eqb (length (triangles cs)) 0 ≡ true
  none z = let c = counted in eq-eqb (length (triangles cs)) 0 (omega arith)

  some : 0 < length cs → eqb (length (triangles cs)) 0 ≡ false
  some l = let c = counted in ne_eqb (length (triangles cs)) 0 (λ z. omega arith)

  pointless : Pointless [] cs ls → original_of [] cs ls ≡ Panics
  unfolding points_of every
  pointless p = by-original [] cs ls (eq-eqb _ _ (counted ∙ sym p.2)) refl (some p.1)

  module _ (ps : List Float) (w : List ℕ) (lends : Lendable ps cs w) where
    points_in_threes : length ps ≡ 3 * (length ps / 3)
    points_in_threes = omega (arith, lends.points_in_threes)

    module _ (each : length ls ≡ length cs / 3) where
      labelled : eqb (length (triangles cs)) (length ls) ≡ true
      labelled = eq-eqb _ _ (counted ∙ sym each)

      asked_four : {d : Bool} → every is_finite ps ≡ d → ask d NotFinite (ours.Ok tt) ≡ lent_questions ps cs ls w
      asked_four e = asked_finite ps cs ls w lends.points_in_threes thirds each lends.few-points lends.few-triangles lends.enough-words e

      finite-same : {d : Bool} → every is_finite ps ≡ d → every finite? (points_of ps) ≡ d
      finite-same e = points-finite (length ps / 3) ps points_in_threes ∙ e

      not_finite : every is_finite ps ≡ false → Both ps cs ls w
      not_finite e = says (along (by-original ps cs ls labelled (finite-same e) refl) (by_first ps cs ls w (sym (asked_four e))) infinite)

      no_triangle : every is_finite ps ≡ true → length cs ≡ 0 → Both ps cs ls w
      unfolding examined
      no_triangle e z =
          says (along (by-original ps cs ls labelled (finite-same e) (none z)) (by_first ps cs ls w (sym (asked_four e)) ∙ ap (λ (b : Bool). cond b (accepted (number 0) (number 0)) (as_whole (triangles cs) (measured ps cs))) (eq-eqb (length cs) 0 z)) accepts)

      some_triangle : every is_finite ps ≡ true → 0 < length cs → Both ps cs ls w
      some_triangle e l = go ps refl
        where
          reached : validated ps cs ls w ≡ as_whole (triangles cs) (measured ps cs)
          reached = by_first ps cs ls w (sym (asked_four e)) ∙ sym (some-triangles ps cs (λ z. omega arith))

          text : original_of ps cs ls ≡ from_origin (points_of ps) (triangles cs)
          text = by-original ps cs ls labelled (finite-same e) (some l)

          go : (l' : List Float) → ps ≡ l' → Both ps cs ls w
          go [] f =
              stops (ap length f, l, each) (ap (λ (k : List Float). original_of k cs ls) f ∙ pointless (refl, l, each))
              (reached ∙ ap (λ (k : List Float). as_whole (triangles cs) (measured k cs)) f ∙ ap (as_whole (triangles cs)) (unmeasured cs (omega (arith, counted))))
          go (x ∷ []) f = absurd (omega (arith, ap length f, lends.points_in_threes))
          go (x ∷ y ∷ []) f = absurd (omega (arith, ap length f, lends.points_in_threes))
          go (x ∷ y ∷ z ∷ k) f =
              says
              (along (text ∙ ap (λ (k : List Float). from_origin (points_of k) (triangles cs)) f) (reached ∙ ap (λ (k : List Float). as_whole (triangles cs) (measured k cs)) f) (some_pairs x y z k cs (subst (λ (k : List Float). length k % 3 ≡ 0) f lends.points_in_threes) thirds))

    said : Both ps cs ls w
    said = go (ℕ_discrete (length ls) (length cs / 3)) (every is_finite ps) refl (ℕ_discrete (length cs) 0)
      where
        go : Dec (length ls ≡ length cs / 3) → (d : Bool) → every is_finite ps ≡ d → Dec (length cs ≡ 0) → Both ps cs ls w
        go (no n) d e c =
            says
            (along (by-original ps cs ls (ne_eqb _ _ (λ z. n (sym z ∙ counted))) refl refl) (by_first ps cs ls w (sym (no_labels ps cs ls w lends.points_in_threes thirds n))) unlabelled)
        go (yes each) false e c = not_finite each e
        go (yes each) true e (yes z) = no_triangle each e z
        go (yes each) true e (no n) = some_triangle each e (omega (arith, n))

-- ---- row by row

-- what the Rust says, but for the numbers of `Ok`
tag : Result → ℕ
tag Panics = 0
tag (Ok q v) = 1
tag (Err InvalidArrays) = 2
tag (Err InvalidIndex) = 3
tag (Err DegenerateTriangle) = 4
tag (Err NotClosed) = 5
tag (Err NonpositiveVolume) = 6

-- that much tells which message it is
untag : ℕ → Result
untag zero = Panics
untag (suc zero) = Panics
untag (suc (suc zero)) = Err InvalidArrays
untag (suc (suc (suc zero))) = Err InvalidIndex
untag (suc (suc (suc (suc zero)))) = Err DegenerateTriangle
untag (suc (suc (suc (suc (suc zero))))) = Err NotClosed
untag (suc (suc (suc (suc (suc (suc n)))))) = Err NonpositiveVolume

tagged : (r : Result) → (tag r ≡ 1 → ⊥) → untag (tag r) ≡ r
unfolding tag untag
tagged Panics n = refl
tagged (Ok q v) n = absurd (n refl)
tagged (Err InvalidArrays) n = refl
tagged (Err InvalidIndex) n = refl
tagged (Err DegenerateTriangle) n = refl
tagged (Err NotClosed) n = refl
tagged (Err NonpositiveVolume) n = refl

other : (t : ℕ) → tag (untag t) ≡ t → t ≡ 1 → ⊥
unfolding tag untag
other t h o = let z : ◌≡◌ {A = ℕ} 0 1 = sym (ap (λ (k : ℕ). tag (untag k)) o) ∙ h ∙ o in omega arith

is : (r : Result) (t : ℕ) → tag (untag t) ≡ t → (eqb (tag r) t ≡ true) ↔ (r ≡ untag t)
is r t h = ((λ e. let f = eqb-true (tag r) t e in sym (tagged r (λ o. other t h (sym f ∙ o))) ∙ ap untag f), λ e. eq-eqb (tag r) t (ap tag e ∙ h))

-- the rows, as tests of two numbers
record Rows (t n : ℕ) : Type 0 where
  ok : eqb t 1 ≡ eqb n 0
  arrays : eqb t 2 ≡ (eqb n 1 || eqb n 4)
  index : (eqb t 3 || eqb t 0) ≡ eqb n 5
  degenerate : eqb t 4 ≡ eqb n 6
  manifold : eqb t 5 ≡ (eqb n 31 || (eqb n 32 || eqb n 33))
  volume : eqb t 6 ≡ eqb n 8

rows : {r : Result} {x : Verdict} → Pairs r x → Rows (tag r) (number_of x)
unfolding tag
rows accepts = record { ok = refl; arrays = refl; index = refl; degenerate = refl; manifold = refl; volume = refl }
rows unlabelled = record { ok = refl; arrays = refl; index = refl; degenerate = refl; manifold = refl; volume = refl }
rows infinite = record { ok = refl; arrays = refl; index = refl; degenerate = refl; manifold = refl; volume = refl }
rows beyond = record { ok = refl; arrays = refl; index = refl; degenerate = refl; manifold = refl; volume = refl }
rows flat = record { ok = refl; arrays = refl; index = refl; degenerate = refl; manifold = refl; volume = refl }
rows repeated = record { ok = refl; arrays = refl; index = refl; degenerate = refl; manifold = refl; volume = refl }
rows lone = record { ok = refl; arrays = refl; index = refl; degenerate = refl; manifold = refl; volume = refl }
rows split = record { ok = refl; arrays = refl; index = refl; degenerate = refl; manifold = refl; volume = refl }
rows hollow = record { ok = refl; arrays = refl; index = refl; degenerate = refl; manifold = refl; volume = refl }

panic_rows : Rows 0 5
panic_rows = record { ok = refl; arrays = refl; index = refl; degenerate = refl; manifold = refl; volume = refl }

-- tests that mean something
equals : (n k : ℕ) → (eqb n k ≡ true) ↔ (n ≡ k)
equals n k = (eqb-true n k, eq-eqb n k)

either : {p q : Bool} {A B : Type 0} → ((p ≡ true) ↔ A) → ((q ≡ true) ↔ B) → ((p || q) ≡ true) ↔ (A ⊎ B)
either {p} {q} {A} {B} f g = ((λ e. to p refl e), from)
  where
    to : (b : Bool) → p ≡ b → (p || q) ≡ true → A ⊎ B
    to true e h = inl (f.0 e)
    to false e h = inr (g.0 (or_second p q h e))

    from : A ⊎ B → (p || q) ≡ true
    from (inl a) = rw (f.1 a)
    from (inr b) = later p (g.1 b)
      where
        later : (p : Bool) → q ≡ true → (p || q) ≡ true
        later true e = refl
        later false e = e

row : {p q : Bool} {A B : Type 0} → p ≡ q → ((p ≡ true) ↔ A) → ((q ≡ true) ↔ B) → A ↔ B
row e f g = ((λ a. g.0 (sym e ∙ f.1 a)), λ b. f.0 (e ∙ g.1 b))

-- accepted alike
not_ok : (r : Result) (why : Refusal) (q v : Float) → (tag r ≡ 1 → ⊥) → (r ≡ Ok q v) ↔ (ours.Err why ≡ accepted q v)
unfolding tag
not_ok r why q v n = ((λ e. absurd (n (ap tag e))), λ e. absurd (never e))

ok-both : {r : Result} {x : Verdict} → Pairs r x → (q v : Float) → (r ≡ Ok q v) ↔ (x ≡ accepted q v)
unfolding tag
ok-both (accepts {q = q'} {v = v'}) q v = (
  (λ e. let a : q' ≡ q = cc in let b : v' ≡ v = cc in ap₂ accepted a b),
  λ e. let a : q' ≡ q = ap quality_of e in let b : v' ≡ v = ap volume_of e in ap₂ Ok a b,
)
ok-both unlabelled q v = not_ok _ _ q v (λ e. omega arith)
ok-both infinite q v = not_ok _ _ q v (λ e. omega arith)
ok-both beyond q v = not_ok _ _ q v (λ e. omega arith)
ok-both flat q v = not_ok _ _ q v (λ e. omega arith)
ok-both repeated q v = not_ok _ _ q v (λ e. omega arith)
ok-both lone q v = not_ok _ _ q v (λ e. omega arith)
ok-both split q v = not_ok _ _ q v (λ e. omega arith)
ok-both hollow q v = not_ok _ _ q v (λ e. omega arith)

-- a message is no panic
no_panic : {r : Result} {x : Verdict} → Pairs r x → r ≡ Panics → ⊥
unfolding tag
no_panic accepts e = let z = ap tag e in omega arith
no_panic unlabelled e = let z = ap tag e in omega arith
no_panic infinite e = let z = ap tag e in omega arith
no_panic beyond e = let z = ap tag e in omega arith
no_panic flat e = let z = ap tag e in omega arith
no_panic repeated e = let z = ap tag e in omega arith
no_panic lone e = let z = ap tag e in omega arith
no_panic split e = let z = ap tag e in omega arith
no_panic hollow e = let z = ap tag e in omega arith

-- ---- the theorem

module _ (ps : List Float) (cs ls w : List ℕ) (lends : Lendable ps cs w) where
  lines : Both ps cs ls w → Rows (tag (original_of ps cs ls)) (number_of (validated ps cs ls w))
  unfolding tag
  lines (says p) = rows p
  lines (stops n e f) = subst (λ (t : ℕ). Rows t (number_of (validated ps cs ls w))) (sym (ap tag e)) (subst (Rows 0) (sym (ap number_of f)) panic_rows)

  as_accepted : Both ps cs ls w → (q v : Float) → (original_of ps cs ls ≡ Ok q v) ↔ (validated ps cs ls w ≡ accepted q v)
  unfolding tag
  as_accepted (says p) q v = ok-both p q v
  as_accepted (stops n e f) q v = ((λ g. let z = ap tag (sym e ∙ g) in absurd (omega arith)), λ g. absurd (never (sym f ∙ g)))

  panicking : Both ps cs ls w → (original_of ps cs ls ≡ Panics) ↔ Pointless ps cs ls
  panicking (says p) = ((λ e. absurd (no_panic p e)), λ k. there ps refl k)
    where
      there : (l : List Float) → ps ≡ l → Pointless ps cs ls → original_of ps cs ls ≡ Panics
      there [] e k = ap (λ (l : List Float). original_of l cs ls) e ∙ pointless cs ls lends.corners_in_threes (refl, k.1, k.2)
      there (x ∷ l) e k = absurd (omega (arith, ap length e, k.0))
  panicking (stops n e f) = ((λ g. n), λ k. e)

  pub validate_original : EqualsOriginal ps cs ls (λ q v. validated ps cs ls w ≡ accepted q v) (number_of (validated ps cs ls w))
  unfolding tag untag
  validate_original =
      let both = said cs ls lends.corners_in_threes ps w lends in
      let r = original_of ps cs ls in
      let n = number_of (validated ps cs ls w) in
      let l = lines both in
      record {
        ok = as_accepted both;
        arrays = row l.arrays (is r 2 refl) (either (equals n 1) (equals n 4));
        index = row l.index (either (is r 3 refl) (is r 0 refl)) (equals n 5);
        degenerate = row l.degenerate (is r 4 refl) (equals n 6);
        manifold = row l.manifold (is r 5 refl) (either (equals n 31) (either (equals n 32) (equals n 33)));
        volume = row l.volume (is r 6 refl) (equals n 8);
        panics = panicking both;
      }

-- ---- small meshes

-- a triangle and no point (DIFFERENCES), one without its label, and no triangle
no_points : original [] (tri 0 0 0 ∷ []) (0 ∷ []) ≡ Panics
unfolding original
no_points = refl

no_label : original [] (tri 0 0 0 ∷ []) [] ≡ Err InvalidArrays
unfolding original
no_label = refl

nothing : original [] [] [] ≡ Ok (number 0) (number 0)
unfolding original
nothing = refl
