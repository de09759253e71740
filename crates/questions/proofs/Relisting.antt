-- The questions answer alike of lists that are reordered with their labels, with turns begun anywhere: page twelve for the calls that ask them.
use Prim.Native.Nat.{ℕ, ◌+◌, ◌*◌, ◌/◌, ◌%◌}
use mathlib.Core.Path.{◌≡◌, refl, sym, ap, ◌∙◌}
use mathlib.Core.Bool.{◌&&◌, ◌||◌, not}
use mathlib.Core.List.{List}
use lib.Dec.{eqb, leb, ltb}
use lib.ListN.{length}
use lib.Ieee.{Float}
use Rattle.float.specs.Order.{is_finite}
use Rattle.surface.specs.Triangle.{triangles}
use Rattle.surface.specs.Check.{every, differ?}
use Rattle.surface.specs.Finding.{finding}
use Rattle.surface.specs.Label.{carries}
use Rattle.surface.specs.PageTwelve.{RelistedLists}
use Rattle.surface.proofs.Bools.{same_answer}
use Rattle.surface.proofs.PageTwelve.{page_twelve}
use Rattle.surface.proofs.Findings.{finding-order}
use Rattle.surface.proofs.Relisting.{and_turn, corners-relisted, carries-relisted, relisted, every_triangle, every-number, every-label}
use Rattle.questions.specs.Rules.{distinct?}
use Rattle.questions.specs.Labels.{opposed}
use Rattle.questions.specs.Refusal.{Asked, on_finding}
use Rattle.questions.specs.Questions.{ask, lent_questions, unopposed?, further_questions, surface_questions}
use Rattle.questions.specs.declared.Refusal.TheVariants.{Lengths, TooMany, WorkTooShort, NotFinite}
use Rattle.std.specs.Prelude.{Ok, Err}
use Rattle.questions.proofs.Counted.{lent-passed}
use Rattle.questions.proofs.Rules.{distinct?_iff}
use Rattle.questions.proofs.Chain.{by-further, by_first}

-- questions 1 to 4 ask for the lengths alone
lent_same : (ps : List Float) (c ls w c' ls' w' : List ℕ) → length c ≡ length c' → length ls ≡ length ls' → length w ≡ length w' → lent_questions ps c ls w ≡ lent_questions ps c' ls' w'
unfolding lent_questions
lent_same ps c ls w c' ls' w' e f g =
    λ i. ask (eqb (length ps % 3) 0 && (eqb (e i % 3) 0 && eqb (f i) (e i / 3))) Lengths (ask (leb (length ps / 3) 32768 && leb (e i / 3) 32768) TooMany (ask (leb (32 * (e i / 3) + 16 * (length ps / 3)) (g i)) WorkTooShort (ask (every is_finite ps) NotFinite (Ok tt))))

module _ {c ls c' ls' : List ℕ} (r : RelistedLists c ls c' ls') where
  opposed-same : (v : ℕ) → opposed (triangles c) ls v ≡ opposed (triangles c') ls' v
  opposed-same v = λ i. (k 0 i && k 1 i) || ((k 2 i && k 3 i) || ((k 4 i && k 5 i) || (k 6 i && k 7 i)))
    where
      k : (l : ℕ) → carries (triangles c) ls v l ≡ carries (triangles c') ls' v l
      k l = carries-relisted r v l

  module _ (threes : length c % 3 ≡ 0) (each : length ls ≡ length c / 3) where
    differ_same : every differ? (triangles c) ≡ every differ? (triangles c')
    differ_same = every_triangle r threes each differ? (λ t. and_turn (not (eqb t.a t.b)) (not (eqb t.b t.c)) (not (eqb t.c t.a)))

    unopposed-same : unopposed? c ls ≡ unopposed? c' ls'
    unopposed-same = every-number r threes each (λ (v : ℕ). not (opposed (triangles c) ls v)) ∙ (λ i. every (λ (v : ℕ). not (opposed-same v i)) c')

    distinct-same : distinct? (triangles c) ≡ distinct? (triangles c')
    distinct-same =
        let k = (page_twelve (relisted r threes each)).distinct in
        let f = distinct?_iff (triangles c) in
        let g = distinct?_iff (triangles c') in
        same_answer (distinct? (triangles c)) (distinct? (triangles c')) ((λ e. g.1 (k.0 (f.0 e))), λ e. f.1 (k.1 (g.0 e)))

    pub found-same : on_finding (finding (triangles c)) ≡ on_finding (finding (triangles c'))
    found-same = ap on_finding (finding-order (relisted r threes each))

    further_same : (p : ℕ) → further_questions p c ls ≡ further_questions p c' ls'
    further_same p =
        by-further p c ls (every-label r threes each (λ (l : ℕ). leb l 7)) (every-number r threes each (λ (v : ℕ). ltb v p)) differ_same unopposed-same found-same distinct-same
        ∙ sym (by-further p c' ls' refl refl refl refl refl refl)

  pub lent-relisted : (ps : List Float) (w w' : List ℕ) → length w ≡ length w' → lent_questions ps c ls w ≡ lent_questions ps c' ls' w'
  lent-relisted ps w w' e = lent_same ps c ls w c' ls' w' (sym (corners-relisted r)) (sym r.reordered.as_many-labels) e

  -- all questions that improving and editing share
  pub surface_relisted : (ps : List Float) (w w' : List ℕ) → length w ≡ length w' → surface_questions ps c ls w ≡ surface_questions ps c' ls' w'
  surface_relisted ps w w' e = go (lent_questions ps c ls w) refl
    where
      go : (a : Asked) → lent_questions ps c ls w ≡ a → surface_questions ps c ls w ≡ surface_questions ps c' ls' w'
      go (Err why) f = by_first ps c ls w f ∙ sym (by_first ps c' ls' w' (sym (lent-relisted ps w w' e) ∙ f))
      go (Ok x) f =
          let k = (lent-passed ps c ls w f).0 in
          by_first ps c ls w f ∙ further_same k.corners k.labels (length ps / 3) ∙ sym (by_first ps c' ls' w' (sym (lent-relisted ps w w' e) ∙ f))
