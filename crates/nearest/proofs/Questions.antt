-- Question 42 by its tests, all questions in turn, and the whole: each way out of the code. Assumes nothing.
use Prim.Native.Nat.{ℕ, ◌*◌, ◌/◌, ◌%◌, ◌≤◌, ◌<◌}
use mathlib.Core.Path.{◌≡◌, refl, sym, ap, ◌∙◌}
use mathlib.Core.Logic.{◌↔◌}
use mathlib.Core.Bool.{Bool, true, false, ◌&&◌}
use mathlib.Core.List.{List, ◌++◌}
use native.Mathlib.Omega.{arith}
use lib.Dec.{eqb, leb, ltb}
use lib.ListN.{length, drop, replicate, length-replicate}
use lib.Ieee.{Float}
use borrow.Author.Tests.{eqb-true, leb-true, ltb-true, eq-eqb, ne_eqb, le-leb, lt-leb}
use Rattle.surface.proofs.Bools.{both}
use Rattle.surface.proofs.All.{all-at}
use Rattle.closing.specs.Closing.{Lent}
use Rattle.closing.proofs.Whole.{lent_again, drop-zeros}
use Rattle.questions.specs.Questions.{ask, and_then, lent_questions, listed?, needed, cleared, work_after, lent_words, Lends}
use Rattle.questions.specs.Refusal.{refusal_number, asked_number, Asked}
use Rattle.questions.specs.declared.Refusal.{Refusal}
use Rattle.questions.proofs.Telling.{telling}
use Rattle.questions.proofs.Counted.{Counted, FirstFour, early, infinite, passes, first-four, not_both, words_late}
use Rattle.units.specs.Units.{all_on_units?}
use Rattle.units.proofs.Tests.{all-on-units_iff}
use Rattle.nearest.specs.Nearest.{answered}
use Rattle.nearest.specs.Call.{Askable, askable?, later_questions, nearest_questions, Replies}
use Rattle.nearest.specs.Stages.{Asks, AllAnswered}
use Rattle.questions.specs.declared.Refusal.TheVariants.{NotFinite, CornerMissing, Probes}
use Rattle.std.specs.Prelude.{Ok, Err}

-- ---- question 42

module _ (points probes : List Float) (words : ℕ) where
  abbrev threes : Bool
  threes = eqb (length probes % 3) 0

  abbrev few : Bool
  few = leb (length probes / 3) 64

  abbrev enough : Bool
  enough = leb (length probes / 3) (words / 2)

  by_tests : {a b c d e : Bool} → threes ≡ a → few ≡ b → enough ≡ c → all_on_units? probes ≡ d → all_on_units? points ≡ e → askable? points probes words ≡ (a && (b && (c && (d && e))))
  unfolding askable?
  by_tests p q r s t = λ i. p i && (q i && (r i && (s i && t i)))

  pub not_threes : (length probes % 3 ≡ 0 → ⊥) → false ≡ askable? points probes words
  not_threes n = sym (by_tests (ne_eqb (length probes % 3) 0 n) refl refl refl refl)

  module _ (t : length probes % 3 ≡ 0) where
    pub too_many : 64 < length probes / 3 → false ≡ askable? points probes words
    too_many l = sym (by_tests (eq-eqb (length probes % 3) 0 t) (lt-leb (length probes / 3) 64 l) refl refl refl)

    module _ (f : length probes / 3 ≤ 64) where
      pub no_places : words / 2 < length probes / 3 → false ≡ askable? points probes words
      no_places l = sym (by_tests (eq-eqb (length probes % 3) 0 t) (le-leb (length probes / 3) 64 f) (lt-leb (length probes / 3) (words / 2) l) refl refl)

      pub asked_units : length probes / 3 ≤ words / 2 → {d e : Bool} → all_on_units? probes ≡ d → all_on_units? points ≡ e → (d && e) ≡ askable? points probes words
      asked_units l p q = sym (by_tests (eq-eqb (length probes % 3) 0 t) (le-leb (length probes / 3) 64 f) (le-leb (length probes / 3) (words / 2) l) p q)

  passed_askable : askable? points probes words ≡ true → Askable points probes words
  passed_askable e =
      let a = both threes (few && (enough && (all_on_units? probes && all_on_units? points))) (sym (by_tests refl refl refl refl refl) ∙ e) in
      let b = both few (enough && (all_on_units? probes && all_on_units? points)) a.1 in
      let c = both enough (all_on_units? probes && all_on_units? points) b.1 in
      let d = both (all_on_units? probes) (all_on_units? points) c.1 in
      record {
        threes = eqb-true (length probes % 3) 0 a.0;
        few = leb-true (length probes / 3) 64 b.0;
        places = leb-true (length probes / 3) (words / 2) c.0;
        whole_probes = (all-on-units_iff probes).0 d.0;
        whole-points = (all-on-units_iff points).0 d.1;
      }

  pub askable_iff : (askable? points probes words ≡ true) ↔ Askable points probes words
  askable_iff = (
    passed_askable,
    λ h.
        by_tests (eq-eqb (length probes % 3) 0 h.threes) (le-leb (length probes / 3) 64 h.few) (le-leb (length probes / 3) (words / 2) h.places) ((all-on-units_iff probes).1 h.whole_probes) ((all-on-units_iff points).1 h.whole-points),
  )

-- ---- questions 5 and 42

module _ (points : List Float) (corners : List ℕ) (probes : List Float) (room : ℕ) where
  by_tests_later : {a b : Bool} → listed? (length points / 3) corners ≡ a → askable? points probes room ≡ b → later_questions points corners probes room ≡ ask a CornerMissing (ask b Probes (Ok tt))
  unfolding later_questions
  by_tests_later p q = λ i. ask (p i) CornerMissing (ask (q i) Probes (Ok tt))

  pub at_five : listed? (length points / 3) corners ≡ false → Err CornerMissing ≡ later_questions points corners probes room
  at_five a = sym (by_tests_later a refl)

  pub at_last : listed? (length points / 3) corners ≡ true → askable? points probes room ≡ false → Err Probes ≡ later_questions points corners probes room
  at_last a b = sym (by_tests_later a b)

  pub at_end : listed? (length points / 3) corners ≡ true → askable? points probes room ≡ true → Ok tt ≡ later_questions points corners probes room
  at_end a b = sym (by_tests_later a b)

  -- they come after question 3, so that the words are cleared where one of them refuses
  pub later-words : (work : List ℕ) {why : Refusal} → later_questions points corners probes room ≡ Err why → cleared (needed points corners) work ≡ work_after (refusal_number why) points corners work
  later-words work {why} e = words_late points corners work (refusal_number why) (go (listed? (length points / 3) corners) refl (askable? points probes room) refl)
    where
      late : (y : Refusal) → ◌≡◌ {A = Asked} (Err why) (Err y) → (leb 1 (refusal_number y) && leb (refusal_number y) 3) ≡ false → (leb 1 (refusal_number why) && leb (refusal_number why) 3) ≡ false
      late y f g = ap (λ (a : Asked). leb 1 (asked_number a) && leb (asked_number a) 3) f ∙ g

      go : (a : Bool) → listed? (length points / 3) corners ≡ a → (b : Bool) → askable? points probes room ≡ b → (leb 1 (refusal_number why) && leb (refusal_number why) 3) ≡ false
      go false p b q = late CornerMissing (sym e ∙ by_tests_later p q) refl
      go true p false q = late Probes (sym e ∙ by_tests_later p q) refl
      go true p true q = absurd (not_both (by_tests_later p q) e)

-- the words after questions 1 to 4, by what they come to
pub left_by : {points : List Float} {corners labels work work' : List ℕ} {a b : Asked} → Lends points corners labels work work' a → a ≡ b → work' ≡ lent_words b points corners work
left_by {points = points} {corners = corners} {work = work} l e = l.words ∙ ap (λ (a : Asked). lent_words a points corners work) e

-- ---- all questions

module _ (points : List Float) (corners labels work : List ℕ) (probes : List Float) (room : ℕ) where
  by-answers : {q r : Asked} → lent_questions points corners labels work ≡ q → later_questions points corners probes room ≡ r → nearest_questions points corners labels work probes room ≡ and_then q r
  unfolding nearest_questions
  by-answers q r = λ i. and_then (q i) (r i)

  pub at_first : {why : Refusal} → lent_questions points corners labels work ≡ Err why → Err why ≡ nearest_questions points corners labels work probes room
  at_first q = sym (by-answers q refl)

  pub at-later : {r : Asked} → lent_questions points corners labels work ≡ Ok tt → later_questions points corners probes room ≡ r → r ≡ nearest_questions points corners labels work probes room
  at-later q r = sym (by-answers q r)

  -- what is known where all are passed
  pub record Admitted : Type 0 where
    pub first : lent_questions points corners labels work ≡ Ok tt
    pub listed : listed? (length points / 3) corners ≡ true
    pub lent : Lent corners (length points / 3) work
    pub askable : Askable points probes room

  -- a question refuses, or all are passed
  pub data Ending : Type 0 where
    stopped : (why : Refusal) → nearest_questions points corners labels work probes room ≡ Err why → Ending
    passed : Admitted → nearest_questions points corners labels work probes room ≡ Ok tt → Ending

  ending : Ending
  ending = go (first-four points corners labels work) (listed? (length points / 3) corners) refl (askable? points probes room) refl
    where
      known : lent_questions points corners labels work ≡ Ok tt → Counted points corners labels work → listed? (length points / 3) corners ≡ true → askable? points probes room ≡ true → Admitted
      known e c a b = record {
        first = e;
        listed = a;
        lent = record {
          thirds = c.corners;
          few = omega (arith, c.corners, c.few-triangles);
          points = c.few-points;
          below = λ k l. ltb-true _ (length points / 3) (all-at (λ (v : ℕ). ltb v (length points / 3)) 0 corners a k l);
          room = omega (arith, c.room);
        };
        askable = passed_askable points probes room b;
      }

      go : FirstFour points corners labels work → (a : Bool) → listed? (length points / 3) corners ≡ a → (b : Bool) → askable? points probes room ≡ b → Ending
      go (early why p q e) a r b s = stopped why (by-answers e refl)
      go (infinite c f e) a r b s = stopped NotFinite (by-answers e refl)
      go (passes c f e) false r b s = stopped CornerMissing (by-answers e (by_tests_later points corners probes room r s))
      go (passes c f e) true r false s = stopped Probes (by-answers e (by_tests_later points corners probes room r s))
      go (passes c f e) true r true s = passed (known e c r s) (by-answers e (by_tests_later points corners probes room r s))

  pub admitted : nearest_questions points corners labels work probes room ≡ Ok tt → Admitted
  admitted e = go ending
    where
      go : Ending → Admitted
      go (stopped why f) = absurd (not_both e f)
      go (passed a f) = a

  pub zero-passed : asked_number (nearest_questions points corners labels work probes room) ≡ 0 → nearest_questions points corners labels work probes room ≡ Ok tt
  zero-passed = telling (nearest_questions points corners labels work probes room)

-- ---- the whole: the answers are wiped first

module _ (points : List Float) (corners labels work : List ℕ) (probes : List Float) (answers wiped : List ℕ) (w : wiped ≡ replicate (length answers) 0) (work' : List ℕ) (asked : Asked) (h : Asks points corners labels work work' probes (length wiped) asked) where
  same-room : length wiped ≡ length answers
  same-room = ap length w ∙ length-replicate (length answers) 0

  answer-is : asked ≡ nearest_questions points corners labels work probes (length answers)
  answer-is = h.answer ∙ ap (nearest_questions points corners labels work probes) same-room

  words_are : {a : Asked} → asked ≡ a → work' ≡ lent_words a points corners work
  words_are e = h.words ∙ ap (λ (a : Asked). lent_words a points corners work) e

  pub refused : {why : Refusal} → asked ≡ Err why → Replies points corners labels work work' probes answers wiped (Err why)
  refused e = record { answer = sym e ∙ answer-is; places = w; words = words_are e }

  module _ (e : asked ≡ Ok tt) where
    known : Admitted points corners labels work probes (length wiped)
    known = admitted points corners labels work probes (length wiped) (sym h.answer ∙ e)

    pub ready : (Lent corners (length points / 3) work') × (Askable points probes (length wiped))
    ready = (lent_again (ap length (words_are e)) known.lent, known.askable)

    pub replied : (work'' answers' : List ℕ) → AllAnswered points corners work' work'' probes wiped answers' → Replies points corners labels work work'' probes answers answers' (Ok tt)
    replied work'' answers' m = record {
      answer = sym e ∙ answer-is;
      places =
          m.places
          ∙ ap (λ (l : List ℕ). answered points corners probes ++ l)
          (ap (drop (2 * (length probes / 3))) w ∙ drop-zeros (length answers) (2 * (length probes / 3)) (let a = known.askable in let s = same-room in omega (arith, a.places)));
      words = m.words ∙ ap (cleared (needed points corners)) (words_are e);
    }
