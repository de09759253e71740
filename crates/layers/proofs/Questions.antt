-- Question 40 by its tests, all questions in turn, and the whole: each way out of the code. Assumes nothing.
use Prim.Native.Nat.{ℕ, ◌*◌, ◌/◌, ◌≤◌}
use mathlib.Core.Path.{◌≡◌, refl, sym, ap, ◌∙◌, subst}
use mathlib.Core.Logic.{◌↔◌}
use mathlib.Core.Bool.{Bool, true, false, not, ◌&&◌, cond}
use mathlib.Core.List.{List, ◌++◌}
use native.Mathlib.Omega.{arith}
use lib.Dec.{T, leb, ltb, leb→le}
use lib.IntN.{ℤ, pos, negsuc, nat_abs}
use lib.Signed.{lt_z, le_z, le_z_yes}
use lib.ListN.{length, drop, replicate, length-replicate}
use lib.Ieee.{Float}
use borrow.Author.Tests.{leb-true, leb-false, le-ltb, lt-ltb}
use Rattle.surface.proofs.Bools.{both}
use Rattle.closing.specs.Closing.{Zeroed}
use Rattle.closing.proofs.Whole.{drop-zeros, far_clear}
use Rattle.questions.specs.Admitted.{Admitted}
use Rattle.questions.specs.Questions.{ask, and_then, surface_questions, needed, cleared, work_after, Admits}
use Rattle.std.specs.Prelude.{Result, Ok, Err}
use Rattle.questions.specs.Refusal.{Asked, asked_number}
use Rattle.questions.specs.declared.Refusal.{Refusal}
use Rattle.questions.specs.declared.Refusal.TheVariants.{Height, OutlineRoom}
use Rattle.questions.proofs.Counted.{not_both}
use Rattle.questions.proofs.Laws.{first-passed, then-passed, passed_admitted}
use Rattle.questions.proofs.Telling.{telling}
use Rattle.units.specs.Units.{all_on_units?}
use Rattle.units.proofs.Tests.{all-on-units_iff}
use Rattle.outlines.specs.Outline.{place_words}
use Rattle.layers.specs.Layer.{Layered, layered?, layer_crossings, layer_outlines}
use Rattle.layers.specs.Call.{places_question, layer_questions, outline_questions, after_questions, layer_of, layer_number, list_after, LayerCall}
use Rattle.layers.specs.Stages.{Crossable, LayerTraced}
use Rattle.layers.specs.declared.Layer.{Layer}

-- ---- question 40

turned_round : (a b : ℕ) → leb a b ≡ not (ltb b a)
turned_round a b = go (leb a b) refl
  where
    go : (t : Bool) → leb a b ≡ t → leb a b ≡ not (ltb b a)
    go true e = e ∙ ap not (sym (le-ltb b a (leb-true a b e)))
    go false e = e ∙ ap not (sym (lt-ltb b a (leb-false a b e)))

-- one is at most the other, or above it
at-most_or_above : (a b : ℤ) → le_z a b ≡ not (lt_z b a)
at-most_or_above (pos a) (pos b) = turned_round a b
at-most_or_above (pos a) (negsuc b) = refl
at-most_or_above (negsuc a) (pos b) = refl
at-most_or_above (negsuc a) (negsuc b) = turned_round b a

module _ (points : List Float) (height : ℤ) where
  by_tests : {a b d : Bool} → lt_z height (negsuc 32767) ≡ a → lt_z (pos 32767) height ≡ b → all_on_units? points ≡ d → layered? points height ≡ (not a && (not b && d))
  by_tests p q r =
      let low = at-most_or_above (negsuc 32767) height ∙ ap not p in
      let high = at-most_or_above height (pos 32767) ∙ ap not q in
      λ i. low i && (high i && r i)

  pub in_range : lt_z height (negsuc 32767) ≡ false → lt_z (pos 32767) height ≡ false → {d : Bool} → all_on_units? points ≡ d → d ≡ layered? points height
  in_range p q r = sym (by_tests p q r)

  passed-layered : layered? points height ≡ true → Layered points height
  passed-layered e =
      let a = both (le_z (negsuc 32767) height) (le_z height (pos 32767) && all_on_units? points) e in
      let b = both (le_z height (pos 32767)) (all_on_units? points) a.1 in
      record { lowest = le_z_yes (subst T (sym a.0) tt); highest = le_z_yes (subst T (sym b.0) tt); whole = (all-on-units_iff points).0 b.1 }

  layered-passes : Layered points height → layered? points height ≡ true
  layered-passes h =
      let low = T_true (le_z (negsuc 32767) height) h.lowest.le in
      let high = T_true (le_z height (pos 32767)) h.highest.le in
      let whole = (all-on-units_iff points).1 h.whole in
      λ i. low i && (high i && whole i)
    where
      T_true : (b : Bool) → T b → b ≡ true
      T_true true t = refl
      T_true false t = absurd t

  pub layered_iff : (layered? points height ≡ true) ↔ Layered points height
  layered_iff = (passed-layered, layered-passes)

-- of a height that is read back from its bits
pub answered : (points : List Float) {h h' : ℤ} → h' ≡ h → {b d : Bool} → b ≡ layered? points h' → b ≡ d → layered? points h ≡ d
answered points e f g = ap (layered? points) (sym e) ∙ sym f ∙ g

-- a height in range is at most 32,768 either way
pub height_small : (points : List Float) (height : ℤ) → Layered points height → nat_abs height ≤ 32768
height_small points (pos n) h = let l = leb→le n 32767 h.highest.le in omega arith
height_small points (negsuc n) h = let l = leb→le n 32767 h.lowest.le in omega arith

-- ---- all questions

module _ (points : List Float) (corners labels work : List ℕ) (height : ℤ) (room : ℕ) where
  pub by-answers : {q : Asked} {b : Bool} → surface_questions points corners labels work ≡ q → layered? points height ≡ b
      → outline_questions points corners labels work height room ≡ and_then q (ask b Height (places_question points corners height room))
  unfolding outline_questions layer_questions
  by-answers q b = λ i. and_then (q i) (ask (b i) Height (places_question points corners height room))

  abbrev first : Asked
  first = surface_questions points corners labels work

  abbrev later : Asked
  later = ask (layered? points height) Height (places_question points corners height room)

  -- 0 is the number of questions that are passed, and of no refusal
  pub zero-passed : asked_number (outline_questions points corners labels work height room) ≡ 0 → outline_questions points corners labels work height room ≡ Ok tt
  zero-passed z = telling (outline_questions points corners labels work height room) z

  -- what is known where all are passed
  pub record Outlinable : Type 0 where
    pub surface : Admitted points corners labels work
    pub layered : Layered points height
    pub places : length (layer_crossings points corners height) ≤ room / 3

  pub outlinable : outline_questions points corners labels work height room ≡ Ok tt → Outlinable
  outlinable e =
      let both-passed : and_then first later ≡ Ok tt = sym (by-answers refl refl) ∙ e in
      let l = asked_yes (layered? points height) Height (places_question points corners height room) (then-passed first later both-passed) in
      let p = asked_yes (leb (length (layer_crossings points corners height)) (room / 3)) OutlineRoom (Ok tt) l.1 in
      record {
        surface = passed_admitted points corners labels work (first-passed first later both-passed);
        layered = (layered_iff points height).0 l.0;
        places = leb-true (length (layer_crossings points corners height)) (room / 3) p.0;
      }
    where
      asked_yes : (b : Bool) (n : Refusal) (rest : Asked) → ask b n rest ≡ Ok tt → (b ≡ true) × (rest ≡ Ok tt)
      asked_yes true n rest e = (refl, e)
      asked_yes false n rest e = absurd (not_both e refl)

-- ---- the whole

module _ (points : List Float) (corners labels work : List ℕ) (height : ℤ) (work₁ : List ℕ) (asked₁ : Asked) (admits : Admits points corners labels work work₁ asked₁) where
  module _ (e : asked₁ ≡ Ok tt) where
    passed : surface_questions points corners labels work ≡ Ok tt
    passed = sym admits.answer ∙ e

    words_are : work₁ ≡ cleared (needed points corners) work
    words_are = admits.words ∙ ap (λ (a : Asked). work_after (asked_number a) points corners work) e

    pub crossable : layered? points height ≡ true → length work₁ ≡ length work → Crossable points corners work₁ height
    crossable b long =
        let a = passed_admitted points corners labels work passed in
        record {
          lent = record { thirds = a.corners_in_threes; few = omega (arith, a.few-triangles, a.corners_in_threes); points = a.few-points; below = a.listed; room = omega (arith, a.enough-words) };
          closed = a.closed;
          layered = (layered_iff points height).0 b;
        }

  -- the list is cleared first
  module _ (list blank : List ℕ) (blank-is : blank ≡ replicate (length list) 0) where
    same-room : length blank ≡ length list
    same-room = ap length blank-is ∙ length-replicate (length list) 0

    abbrev layer_is : {q : Asked} {b : Bool} → surface_questions points corners labels work ≡ q → layered? points height ≡ b
        → layer_of points corners labels work height (length list) ≡ after_questions points corners height (and_then q (ask b Height (places_question points corners height (length list))))
    layer_is q b = ap (after_questions points corners height) (by-answers points corners labels work height (length list) q b)

    pub at_first : {why : Refusal} → asked₁ ≡ Err why → LayerCall points corners labels work work₁ height list blank (Err why)
    at_first e = record {
      answer = sym (layer_is (sym admits.answer ∙ e) refl);
      places = blank-is;
      words = admits.words ∙ ap (λ (a : Asked). work_after (asked_number a) points corners work) e;
    }

    module _ (e : asked₁ ≡ Ok tt) where
      pub at_forty : layered? points height ≡ false → LayerCall points corners labels work work₁ height list blank (Err Height)
      at_forty b = record { answer = sym (layer_is (passed e) b); places = blank-is; words = words_are e }

      module _ (b : layered? points height ≡ true) (work₂ list' : List ℕ) (layer : Result Layer Refusal) (t : LayerTraced points corners work₁ work₂ height blank list' layer) where
        answer-is : layer ≡ layer_of points corners labels work height (length list)
        answer-is = t.answer ∙ ap (λ (n : ℕ). after_questions points corners height (places_question points corners height n)) same-room ∙ sym (layer_is (passed e) b)

        abbrev count : ℕ
        count = length (layer_crossings points corners height)

        listed : (d : Bool) → leb count (length list / 3) ≡ d → list' ≡ list_after (after_questions points corners height (ask d OutlineRoom (Ok tt))) points corners height list
        listed d f =
            let test : leb count (length blank / 3) ≡ d = ap (λ (n : ℕ). leb count (n / 3)) same-room ∙ f in
            t.places ∙ ap (λ (x : Bool). cond x (place_words (layer_outlines points corners height) ++ drop (3 * count) blank) blank) test ∙ go d f
          where
            go : (d : Bool) → leb count (length list / 3) ≡ d
                → cond d (place_words (layer_outlines points corners height) ++ drop (3 * count) blank) blank ≡ list_after (after_questions points corners height (ask d OutlineRoom (Ok tt))) points corners height list
            go true f =
                let l = leb-true count (length list / 3) f in
                ap (λ (x : List ℕ). place_words (layer_outlines points corners height) ++ x) (ap (drop (3 * count)) blank-is ∙ drop-zeros (length list) (3 * count) (omega arith))
            go false f = blank-is

        late : (d : Bool) → work_after (layer_number (after_questions points corners height (ask d OutlineRoom (Ok tt)))) points corners work ≡ cleared (needed points corners) work
        late true = refl
        late false = refl

        pub at_end : (work₃ : List ℕ) → Zeroed corners (length points / 3) work₂ work₃ → LayerCall points corners labels work work₃ height list list' layer
        at_end work₃ z =
            let d = leb count (length list / 3) in
            let same : layer ≡ after_questions points corners height (ask d OutlineRoom (Ok tt)) = answer-is ∙ layer_is (passed e) b in
            record {
              answer = answer-is;
              places = listed d refl ∙ ap (λ (x : Result Layer Refusal). list_after x points corners height list) (sym same);
              words =
                  z
                  ∙ ap (λ (r : List ℕ). replicate (needed points corners) 0 ++ r) (t.far ∙ far_clear (needed points corners) work₁ work (words_are e))
                  ∙ sym (late d)
                  ∙ ap (λ (x : Result Layer Refusal). work_after (layer_number x) points corners work) (sym same);
            }
