-- Page twelve for the verdict: of lists that are reordered with their labels, what is found in question 7's turn is the same. With turns begun elsewhere it is the same where neither verdict is 6.
use Prim.Native.Nat.{ℕ, ◌/◌, ◌%◌, ◌<◌}
use native.Mathlib.Decide.{ℕ_discrete}
use native.Mathlib.Omega.{arith}
use mathlib.Core.Path.{◌≡◌, refl, sym, ap, ◌∙◌, subst}
use mathlib.Core.Bool.{Bool, true, false, not, ◌&&◌, cond}
use mathlib.Core.List.{List, [], ◌∷◌, foldl}
use lib.Dec.{leb}
use lib.ListN.{length}
use lib.Ieee.{Float}
use Rattle.float.specs.Order.{lesser}
use Rattle.float.specs.Point.{plus}
use Rattle.surface.specs.Triangle.{Tri, triangles}
use Rattle.surface.specs.Check.{every}
use Rattle.surface.specs.Finding.{finding}
use Rattle.surface.specs.PageTwelve.{Reordered, RelistedLists}
use Rattle.surface.proofs.Bools.{or_turn, true_false}
use Rattle.surface.proofs.Relisting.{every_perm, triangles-reordered, reordered-relisted, corners-relisted, every_triangle}
use Rattle.questions.specs.Questions.{lent_questions}
use Rattle.questions.specs.Refusal.{on_finding, Asked}
use Rattle.questions.proofs.Counted.{lent-passed}
use Rattle.questions.proofs.Relisting.{found-same, lent-relisted}
use Rattle.quality.specs.Quality.{number, degenerate}
use Rattle.checking.specs.Verdict.{Verdict, accepted, number_of}
use Rattle.checking.specs.Validate.{outside, quality_at, wedge_at, next, measured, as_whole, validated}
use Rattle.checking.proofs.Turns.{by_tests, refused}
use Rattle.checking.proofs.Cases.{by_whole, no_triangles, some-triangles, by_first}
use Rattle.questions.specs.declared.Refusal.TheVariants.{CornerMissing, Degenerate, Volume}
use Rattle.std.specs.Prelude.{Ok, Err}

-- ---- questions 5 and 6, triangle by triangle

module _ (ps : List Float) where
  inside? : Tri → Bool
  inside? t = not (outside (length ps / 3) t)

  fine? : Tri → Bool
  fine? t = not (outside (length ps / 3) t) && not (degenerate (quality_at ps t))

  -- what the triangles come to, and whether each of them passes
  data Walk (m v : Float) (ts : List Tri) : Type 0 where
    passes : (q w : Float) → foldl (next ps) (accepted m v) ts ≡ accepted q w → every fine? ts ≡ true → every inside? ts ≡ true → Walk m v ts
    five : foldl (next ps) (accepted m v) ts ≡ Err CornerMissing → every fine? ts ≡ false → every inside? ts ≡ false → Walk m v ts
    six : foldl (next ps) (accepted m v) ts ≡ Err Degenerate → every fine? ts ≡ false → Walk m v ts

  walk : (m v : Float) (ts : List Tri) → Walk m v ts
  unfolding every fine? inside?
  walk m v [] = passes m v refl refl refl
  walk m v (t ∷ ts) = go (outside (length ps / 3) t) refl (degenerate (quality_at ps t)) refl (walk (lesser m (quality_at ps t)) (plus v (wedge_at ps t)) ts)
    where
      onto : {x : Verdict} → next ps (accepted m v) t ≡ x → foldl (next ps) (accepted m v) (t ∷ ts) ≡ foldl (next ps) x ts
      onto e = ap (λ (x : Verdict). foldl (next ps) x ts) e

      go : (o : Bool) → outside (length ps / 3) t ≡ o → (d : Bool) → degenerate (quality_at ps t) ≡ d → Walk (lesser m (quality_at ps t)) (plus v (wedge_at ps t)) ts → Walk m v (t ∷ ts)
      go true p d q w = five (onto (by_tests ps m v t p q) ∙ refused ps CornerMissing ts) (rw p refl) (rw p refl)
      go false p true q w = six (onto (by_tests ps m v t p q) ∙ refused ps Degenerate ts) (rw (p, q) refl)
      go false p false q (passes x y e f g) = passes x y (onto (by_tests ps m v t p q) ∙ e) (rw (p, q) f) (rw p g)
      go false p false q (five e f g) = five (onto (by_tests ps m v t p q) ∙ e) (rw (p, q) f) (rw p g)
      go false p false q (six e f) = six (onto (by_tests ps m v t p q) ∙ e) (rw (p, q) f)

-- ---- the verdict

-- the same verdict, or neither is of question 7's turn
pub data Alike (x y : Verdict) : Type 0 where
  equal : x ≡ y → Alike x y
  neither : number_of x < 31 → number_of y < 31 → Alike x y

below : {x y x' y' : Verdict} → x ≡ x' → y ≡ y' → number_of x' < 31 → number_of y' < 31 → Alike x y
below e f k l = neither (subst (λ (n : ℕ). n < 31) (sym (ap number_of e)) k) (subst (λ (n : ℕ). n < 31) (sym (ap number_of f)) l)

along : {x y x' y' : Verdict} → x ≡ x' → y ≡ y' → Alike x' y' → Alike x y
along {x} {y} {x'} {y'} e f a = subst (λ (z : Verdict). Alike z y) (sym e) (subst (λ (z : Verdict). Alike x' z) (sym f) a)

closed-low : (d : Bool) (q v : Float) → number_of (cond d (Err Volume) (accepted q v)) < 31
closed-low true q v = omega arith
closed-low false q v = omega arith

whole-alike : (ts us : List Tri) → on_finding (finding ts) ≡ on_finding (finding us) → (q v q' v' : Float) → Alike (as_whole ts (accepted q v)) (as_whole us (accepted q' v'))
whole-alike ts us e q v q' v' = go (on_finding (finding us)) refl
  where
    go : (a : Asked) → on_finding (finding us) ≡ a → Alike (as_whole ts (accepted q v)) (as_whole us (accepted q' v'))
    go (Err why) p = equal (by_whole ts q v (e ∙ p) refl ∙ sym (by_whole us q' v' p refl))
    go (Ok tt) p = below (by_whole ts q v (e ∙ p) refl) (by_whole us q' v' p refl) (closed-low (degenerate v) q v) (closed-low (degenerate v') q' v')

module _ (ps : List Float) (c ls c' ls' w w' : List ℕ) (r : RelistedLists c ls c' ls') (e : length w ≡ length w') where
  lent' : lent_questions ps c ls w ≡ lent_questions ps c' ls' w'
  lent' = lent-relisted r ps w w' e

  module _ (passed : lent_questions ps c ls w ≡ Ok tt) where
    threes : length c % 3 ≡ 0
    threes = (lent-passed ps c ls w passed).0.corners

    each : length ls ≡ length c / 3
    each = (lent-passed ps c ls w passed).0.labels

    empty : length c ≡ 0 → Alike (validated ps c ls w) (validated ps c' ls' w')
    empty z =
        equal
        (by_first ps c ls w passed ∙ sym (no_triangles ps c z) ∙ no_triangles ps c' (corners-relisted r ∙ z) ∙ sym (by_first ps c' ls' w' (sym lent' ∙ passed)))

    module _ (some : length c ≡ 0 → ⊥) where
      reached : validated ps c ls w ≡ as_whole (triangles c) (measured ps c)
      reached = by_first ps c ls w passed ∙ sym (some-triangles ps c some)

      reached' : validated ps c' ls' w' ≡ as_whole (triangles c') (measured ps c')
      reached' = by_first ps c' ls' w' (sym lent' ∙ passed) ∙ sym (some-triangles ps c' (λ z. some (sym (corners-relisted r) ∙ z)))

      walked : Walk ps (number 1) (number 0) (triangles c)
      walked = walk ps (number 1) (number 0) (triangles c)

      walked' : Walk ps (number 1) (number 0) (triangles c')
      walked' = walk ps (number 1) (number 0) (triangles c')

      -- whether all triangles pass is the same
      whole : every (fine? ps) (triangles c) ≡ every (fine? ps) (triangles c') → Alike (validated ps c ls w) (validated ps c' ls' w')
      unfolding measured
      whole agree = go walked walked'
        where
          to : {x : Verdict} → measured ps c ≡ x → validated ps c ls w ≡ as_whole (triangles c) x
          to f = reached ∙ ap (as_whole (triangles c)) f

          to' : {x : Verdict} → measured ps c' ≡ x → validated ps c' ls' w' ≡ as_whole (triangles c') x
          to' f = reached' ∙ ap (as_whole (triangles c')) f

          go : Walk ps (number 1) (number 0) (triangles c) → Walk ps (number 1) (number 0) (triangles c') → Alike (validated ps c ls w) (validated ps c' ls' w')
          go (passes q v f g h) (passes q' v' f' g' h') = along (to f) (to' f') (whole-alike (triangles c) (triangles c') (found-same r threes each) q v q' v')
          go (passes q v f g h) (five f' g' h') = absurd (true_false g (agree ∙ g'))
          go (passes q v f g h) (six f' g') = absurd (true_false g (agree ∙ g'))
          go (five f g h) (passes q' v' f' g' h') = absurd (true_false g' (sym agree ∙ g))
          go (six f g) (passes q' v' f' g' h') = absurd (true_false g' (sym agree ∙ g))
          go (five f g h) (five f' g' h') = below (to f) (to' f') (omega arith) (omega arith)
          go (five f g h) (six f' g') = below (to f) (to' f') (omega arith) (omega arith)
          go (six f g) (five f' g' h') = below (to f) (to' f') (omega arith) (omega arith)
          go (six f g) (six f' g') = below (to f) (to' f') (omega arith) (omega arith)

      -- it is where neither verdict is 6: whether corners are on the list is the same
      module _ (no_six : number_of (validated ps c ls w) ≡ 6 → ⊥) (no-six' : number_of (validated ps c' ls' w') ≡ 6 → ⊥) where
        inside-same : every (inside? ps) (triangles c) ≡ every (inside? ps) (triangles c')
        unfolding inside?
        inside-same = every_triangle r threes each (inside? ps) (λ t. ap not (or_turn (leb (length ps / 3) t.a) (leb (length ps / 3) t.b) (leb (length ps / 3) t.c)))

        fine-same : every (fine? ps) (triangles c) ≡ every (fine? ps) (triangles c')
        unfolding measured
        fine-same = go walked walked'
          where
            go : Walk ps (number 1) (number 0) (triangles c) → Walk ps (number 1) (number 0) (triangles c') → every (fine? ps) (triangles c) ≡ every (fine? ps) (triangles c')
            go (passes q v f g h) (passes q' v' f' g' h') = g ∙ sym g'
            go (passes q v f g h) (five f' g' h') = absurd (true_false h (inside-same ∙ h'))
            go (five f g h) (passes q' v' f' g' h') = absurd (true_false h' (sym inside-same ∙ h))
            go (five f g h) (five f' g' h') = g ∙ sym g'
            go (six f g) b = absurd (no_six (ap number_of (reached ∙ ap (as_whole (triangles c)) f)))
            go (passes q v f g h) (six f' g') = absurd (no-six' (ap number_of (reached' ∙ ap (as_whole (triangles c')) f')))
            go (five f g h) (six f' g') = absurd (no-six' (ap number_of (reached' ∙ ap (as_whole (triangles c')) f')))

  -- questions 1 to 4, or the others
  cases : (lent_questions ps c ls w ≡ Ok tt → Alike (validated ps c ls w) (validated ps c' ls' w')) → Alike (validated ps c ls w) (validated ps c' ls' w')
  cases f = go (lent_questions ps c ls w) refl
    where
      go : (a : Asked) → lent_questions ps c ls w ≡ a → Alike (validated ps c ls w) (validated ps c' ls' w')
      go (Ok tt) p = f p
      go (Err why) p = equal (by_first ps c ls w p ∙ sym (by_first ps c' ls' w' (sym lent' ∙ p)))

  pub relisted-alike : (number_of (validated ps c ls w) ≡ 6 → ⊥) → (number_of (validated ps c' ls' w') ≡ 6 → ⊥) → Alike (validated ps c ls w) (validated ps c' ls' w')
  relisted-alike n n' = cases (λ p. go p (ℕ_discrete (length c) 0))
    where
      go : lent_questions ps c ls w ≡ Ok tt → Dec (length c ≡ 0) → Alike (validated ps c ls w) (validated ps c' ls' w')
      go p (yes z) = empty p z
      go p (no some) = whole p some (fine-same p some n n')

pub reordered-alike : (ps : List Float) (c ls c' ls' w w' : List ℕ) → Reordered c ls c' ls' → length w ≡ length w' → Alike (validated ps c ls w) (validated ps c' ls' w')
reordered-alike ps c ls c' ls' w w' r e = cases ps c ls c' ls' w w' k e (λ p. go p (ℕ_discrete (length c) 0))
  where
    k : RelistedLists c ls c' ls'
    k = reordered-relisted r

    go : lent_questions ps c ls w ≡ Ok tt → Dec (length c ≡ 0) → Alike (validated ps c ls w) (validated ps c' ls' w')
    go p (yes z) = empty ps c ls c' ls' w w' k e p z
    go p (no some) = let l = (lent-passed ps c ls w p).0 in whole ps c ls c' ls' w w' k e p some (every_perm (fine? ps) (triangles-reordered r l.corners l.labels))
