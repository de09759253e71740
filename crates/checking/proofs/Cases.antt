-- The cases of the whole verdict. Assumes nothing.
use Prim.Native.Nat.{ℕ, ◌<◌}
use native.Mathlib.Omega.{arith}
use mathlib.Core.Path.{◌≡◌, refl, sym, ap, ap₂, ◌∙◌}
use mathlib.Core.Bool.{Bool, true, false, ◌&&◌, not, ◌||◌, cond}
use mathlib.Core.List.{List}
use lib.Dec.{eqb, leb}
use lib.ListN.{length}
use lib.Ieee.{Float, binary64, of_bits, le}
use borrow.Author.Tests.{eq-eqb, ne_eqb, lt-leb}
use Rattle.float.specs.Order.{is_finite}
use Rattle.surface.specs.Triangle.{Tri, triangles}
use Rattle.surface.specs.Finding.{finding}
use Rattle.surface.specs.declared.Finding.{Finding}
use Rattle.surface.specs.declared.Finding.TheVariants as finds
use Rattle.questions.specs.Questions.{lent_questions, needed, cleared, lent_words, Lends}
use Rattle.questions.specs.Refusal.{refusal_number, on_finding, Asked}
use Rattle.questions.specs.declared.Refusal.{Refusal}
use Rattle.questions.proofs.Counted.{words_late}
use Rattle.quality.specs.Quality.{number, degenerate}
use Rattle.quality.proofs.Numbers.{zero_is}
use Rattle.checking.specs.Verdict.{Verdict, accepted, number_of}
use Rattle.checking.specs.Validate.{measured, verdict_after, as_whole, examined, validated, Validated}
use Rattle.checking.specs.Stages.{Examined}
use Rattle.checking.proofs.Sound.{never, measured_late}
use Rattle.questions.specs.declared.Refusal.TheVariants.{Volume}
use Rattle.std.specs.Prelude.{Ok, Err}

-- ---- questions 7 and 8

module _ (ts : List Tri) (q v : Float) where
  pub by_whole : {a : Asked} {d : Bool} → on_finding (finding ts) ≡ a → degenerate v ≡ d → as_whole ts (accepted q v) ≡ verdict_after a (cond d (Err Volume) (accepted q v))
  by_whole p e = λ i. verdict_after (p i) (cond (e i) (Err Volume) (accepted q v))

  pub not_closed : {why : Refusal} → on_finding (finding ts) ≡ Err why → Err why ≡ as_whole ts (accepted q v)
  not_closed p = sym (by_whole p refl)

  module _ (closed : on_finding (finding ts) ≡ Ok tt) where
    pub volume_infinite : is_finite v ≡ false → Err Volume ≡ as_whole ts (accepted q v)
    volume_infinite e = let d : degenerate v ≡ true = rw e in sym (by_whole closed d)

    pub volume-low : le v (of_bits binary64 0) ≡ true → Err Volume ≡ as_whole ts (accepted q v)
    volume-low e = sym (by_whole closed (go (is_finite v) (ap (le v) (sym zero_is) ∙ e)))
      where
        go : (f : Bool) → le v (number 0) ≡ true → (not f || le v (number 0)) ≡ true
        go true h = h
        go false h = refl

    pub volume-kept : is_finite v ≡ true → le v (of_bits binary64 0) ≡ false → accepted q v ≡ as_whole ts (accepted q v)
    volume-kept e h = let h' : le v (number 0) ≡ false = ap (le v) (sym zero_is) ∙ h in let d : degenerate v ≡ false = rw (e, h') in sym (by_whole closed d)

-- ---- questions 5 to 8

module _ (ps : List Float) (cs : List ℕ) where
  pub no_triangles : length cs ≡ 0 → accepted (of_bits binary64 0) (of_bits binary64 0) ≡ examined ps cs
  unfolding examined
  no_triangles e = ap₂ accepted zero_is zero_is ∙ sym (ap (λ (b : Bool). cond b (accepted (number 0) (number 0)) (as_whole (triangles cs) (measured ps cs))) (eq-eqb (length cs) 0 e))

  pub some-triangles : (length cs ≡ 0 → ⊥) → as_whole (triangles cs) (measured ps cs) ≡ examined ps cs
  unfolding examined
  some-triangles n = sym (ap (λ (b : Bool). cond b (accepted (number 0) (number 0)) (as_whole (triangles cs) (measured ps cs))) (ne_eqb (length cs) 0 n))

  -- a refusal by them has a number above 4
  pub examined-some : (why : Refusal) → examined ps cs ≡ Err why → 4 < refusal_number why
  unfolding examined
  examined-some why e = go (eqb (length cs) 0) (measured ps cs) refl e
    where
      whole : (q v : Float) (f : Finding) (d : Bool) → verdict_after (on_finding f) (cond d (Err Volume) (accepted q v)) ≡ Err why → 4 < refusal_number why
      whole q v finds.Closed true e = let n = ap number_of e in omega arith
      whole q v finds.Closed false e = absurd (never (sym e))
      whole q v (finds.Repeated x y) d e = let n = ap number_of e in omega arith
      whole q v (finds.Lone x y) d e = let n = ap number_of e in omega arith
      whole q v (finds.Split x) d e = let n = ap number_of e in omega arith

      go : (b : Bool) (x : Verdict) → measured ps cs ≡ x → cond b (accepted (number 0) (number 0)) (as_whole (triangles cs) x) ≡ Err why → 4 < refusal_number why
      go true x m e = absurd (never (sym e))
      go false (Err w) m e = omega (arith, measured_late ps cs w m, ap number_of e)
      go false (Ok k) m e = whole k.quality k.volume (finding (triangles cs)) (degenerate k.volume) e

  abbrev lent? : Verdict → Bool
  lent? x = leb 1 (number_of x) && leb (number_of x) 3

  pub examined_late : lent? (examined ps cs) ≡ false
  examined_late = go (examined ps cs) refl
    where
      go : (x : Verdict) → examined ps cs ≡ x → lent? x ≡ false
      go (Ok m) e = refl
      go (Err why) e = late (leb 1 (refusal_number why))
        where
          late : (b : Bool) → (b && leb (refusal_number why) 3) ≡ false
          late true = lt-leb (refusal_number why) 3 (omega (arith, examined-some why e))
          late false = refl

-- ---- the whole

module _ (ps : List Float) (cs ls work : List ℕ) where
  pub by_first : {a : Asked} → lent_questions ps cs ls work ≡ a → validated ps cs ls work ≡ verdict_after a (examined ps cs)
  unfolding validated
  by_first e = ap (λ (a : Asked). verdict_after a (examined ps cs)) e

  pub after-four : {work' work'' : List ℕ} {a : Asked} {r : Verdict} → Lends ps cs ls work work' a → a ≡ Ok tt → Examined ps cs work' work'' r → Validated ps cs ls work work'' r
  after-four {r = r} l e h = record {
    answer = h.answer ∙ sym (by_first (sym l.answer ∙ e));
    words = h.words ∙ ap (cleared (needed ps cs)) (l.words ∙ ap (λ (c : Asked). lent_words c ps cs work) e) ∙ words_late ps cs work (number_of r) (ap (lent? ps cs) h.answer ∙ examined_late ps cs);
  }

  pub at_first : {work' : List ℕ} {a : Asked} {why : Refusal} → Lends ps cs ls work work' a → a ≡ Err why → Validated ps cs ls work work' (Err why)
  at_first h e = record { answer = sym (by_first (sym h.answer ∙ e)); words = h.words ∙ ap (λ (c : Asked). lent_words c ps cs work) e }
