-- Page twelve of the exported calls: the verdicts on the surface are alike (`Relisting` of `checking` and of `questions`), and a call hands on its verdict's number and place.
use Prim.Native.Nat.{ℕ, ◌/◌, ◌%◌}
use native.Mathlib.Omega.{arith}
use mathlib.Core.Path.{◌≡◌, refl, sym, ap, ◌∙◌, subst}
use mathlib.Core.Logic.{inl, inr}
use mathlib.Core.Bool.{Bool, true, false, ◌&&◌}
use mathlib.Core.List.{List}
use lib.Dec.{eqb, leb}
use lib.ListN.{length}
use lib.Ieee.{Float}
use Rattle.surface.specs.PageTwelve.{Reordered, RelistedLists}
use Rattle.questions.specs.Questions.{ask, and_then, surface_questions}
use Rattle.questions.specs.Refusal.{Asked}
use Rattle.questions.specs.declared.Refusal.TheVariants.{Entries, FieldSheet, Rounds}
use Rattle.std.specs.Prelude.{Ok, Err}
use Rattle.questions.proofs.Relisting.{surface_relisted}
use Rattle.checking.specs.Verdict.{number_of, place_of}
use Rattle.checking.specs.Validate.{validated}
use Rattle.checking.proofs.Relisting.{Alike, equal, neither, reordered-alike, relisted-alike}
use Rattle.history.specs.History.{History}
use Rattle.history.specs.Lists.{history_of}
use Rattle.editing.specs.Edit as edit
use Rattle.field.specs.Valid.{sheet_ok}
use Rattle.oracle.specs.Round.{Result}
use Rattle.improving.specs.Improve as improve
use Rattle.lanovishel.specs.PageTwelve.{CheckAnswers, EditAnswers, ImproveAnswers, NotClosed, ForTheSurface, SameRefusal, PageTwelveCalls}

-- ---- refused alike, or not at all

refused-same : {Such : ℕ → Type 0} {n n' : ℕ} {p p' : List ℕ} → n ≡ n' → p ≡ p' → SameRefusal Such n p n' p'
refused-same {Such} e f = record { both = ((λ s. subst Such e s), λ s. subst Such (sym e) s); same_number = λ s. sym e; same_place = λ s. sym f }

none-refused : {Such : ℕ → Type 0} {n n' : ℕ} {p p' : List ℕ} → (Such n → ⊥) → (Such n' → ⊥) → SameRefusal Such n p n' p'
none-refused f g = record { both = ((λ s. absurd (f s)), λ s. absurd (g s)); same_number = λ s. absurd (f s); same_place = λ s. absurd (f s) }

-- ---- checking

module _ (points : List Float) (corners labels corners' labels' : List ℕ) (words number number' : ℕ) (place place' : List ℕ) (a : CheckAnswers points corners labels words number place) (b : CheckAnswers points corners' labels' words number' place') where
  checked : Alike (validated points corners labels a.work) (validated points corners' labels' b.work) → SameRefusal NotClosed number place number' place'
  checked (equal e) = refused-same (a.call.answer ∙ ap number_of e ∙ sym b.call.answer) (a.call.place ∙ ap place_of e ∙ sym b.call.place)
  checked (neither k l) = none-refused (λ s. let i = s.0 in omega (arith, a.call.answer)) (λ s. let i = s.0 in omega (arith, b.call.answer))

  as_long : length a.work ≡ length b.work
  as_long = a.lent ∙ sym b.lent

check-ordered : (points : List Float) (corners labels corners' labels' : List ℕ) (words number number' : ℕ) (place place' : List ℕ) → Reordered corners labels corners' labels'
    → CheckAnswers points corners labels words number place → CheckAnswers points corners' labels' words number' place' → SameRefusal NotClosed number place number' place'
check-ordered points corners labels corners' labels' words number number' place place' r a b =
    checked points corners labels corners' labels' words number number' place place' a b (reordered-alike points corners labels corners' labels' a.work b.work r (a.lent ∙ sym b.lent))

check-turned : (points : List Float) (corners labels corners' labels' : List ℕ) (words number number' : ℕ) (place place' : List ℕ) → RelistedLists corners labels corners' labels'
    → CheckAnswers points corners labels words number place → CheckAnswers points corners' labels' words number' place' → (number ≡ 6 → ⊥) → (number' ≡ 6 → ⊥) → SameRefusal NotClosed number place number' place'
check-turned points corners labels corners' labels' words number number' place place' r a b n n' =
    checked points corners labels corners' labels' words number number' place place' a b
    (relisted-alike points corners labels corners' labels' a.work b.work r (a.lent ∙ sym b.lent) (λ e. n (a.call.answer ∙ e)) (λ e. n' (b.call.answer ∙ e)))

-- ---- editing

-- after the questions about the surface: 0 or 15
edited : (q : Bool) (h : History) → ForTheSurface (edit.number_of (edit.answer_of (ask q Entries (Ok tt)) h)) → ⊥
edited true h (inl s) = let i = s.0 in omega arith
edited true h (inr s) = let i = s.0 in omega arith
edited false h (inl s) = let i = s.1 in omega arith
edited false h (inr s) = let i = s.0 in omega arith

edit-ordered : (points : List Float) (corners labels corners' labels' : List ℕ) (words number number' : ℕ) (place place' : List ℕ) → RelistedLists corners labels corners' labels'
    → EditAnswers points corners labels words number place → EditAnswers points corners' labels' words number' place' → SameRefusal ForTheSurface number place number' place'
unfolding edit.edit_questions
edit-ordered points corners labels corners' labels' words number number' place place' r a b = go (surface_questions points corners labels a.work) refl
  where
    test : Bool
    test = eqb (length a.entries % 3) 0 && eqb (length a.verdicts) (length a.entries / 3)

    test' : Bool
    test' = eqb (length b.entries % 3) 0 && eqb (length b.verdicts) (length b.entries / 3)

    later : Asked
    later = ask test Entries (Ok tt)

    later' : Asked
    later' = ask test' Entries (Ok tt)

    h : History
    h = history_of corners labels a.entries a.journal

    h' : History
    h' = history_of corners' labels' b.entries b.journal

    same : surface_questions points corners labels a.work ≡ surface_questions points corners' labels' b.work
    same = surface_relisted r points a.work b.work (a.lent ∙ sym b.lent)

    -- what each call comes to by the questions about the surface
    out : {q : Asked} → surface_questions points corners labels a.work ≡ q → a.call.outcome ≡ edit.answer_of (and_then q later) h
    out e = a.call.run.answer ∙ ap (λ (q : Asked). edit.answer_of (and_then q later) h) e

    out' : {q : Asked} → surface_questions points corners labels a.work ≡ q → b.call.outcome ≡ edit.answer_of (and_then q later') h'
    out' e = b.call.run.answer ∙ ap (λ (q : Asked). edit.answer_of (and_then q later') h') (sym same ∙ e)

    go : (q : Asked) → surface_questions points corners labels a.work ≡ q → SameRefusal ForTheSurface number place number' place'
    go (Err why) e =
        refused-same (a.call.is ∙ ap edit.number_of (out e ∙ sym (out' e)) ∙ sym b.call.is) (a.call.place ∙ ap edit.place_of (out e ∙ sym (out' e)) ∙ sym b.call.place)
    go (Ok x) e =
        none-refused
        (λ s. edited test h (subst ForTheSurface (a.call.is ∙ ap edit.number_of (out e)) s))
        (λ s. edited test' h' (subst ForTheSurface (b.call.is ∙ ap edit.number_of (out' e)) s))

-- ---- improving

-- after the questions about the surface: 0, 13 or 14
improved : (p q : Bool) (m : Result) → ForTheSurface (improve.number_of (improve.answer_of (ask p FieldSheet (ask q Rounds (Ok tt))) m)) → ⊥
improved true true m (inl s) = let i = s.0 in omega arith
improved true true m (inr s) = let i = s.0 in omega arith
improved true false m (inl s) = let i = s.1 in omega arith
improved true false m (inr s) = let i = s.0 in omega arith
improved false q m (inl s) = let i = s.1 in omega arith
improved false q m (inr s) = let i = s.0 in omega arith

improve-ordered : (points : List Float) (corners labels corners' labels' : List ℕ) (words number number' : ℕ) (place place' : List ℕ) → RelistedLists corners labels corners' labels'
    → ImproveAnswers points corners labels words number place → ImproveAnswers points corners' labels' words number' place' → SameRefusal ForTheSurface number place number' place'
unfolding improve.improve_questions
improve-ordered points corners labels corners' labels' words number number' place place' r a b = go (surface_questions points corners labels a.work) refl
  where
    later : Asked
    later = ask (sheet_ok a.coefficients a.powers a.levels a.bounds) FieldSheet (ask (leb a.rounds 1000) Rounds (Ok tt))

    later' : Asked
    later' = ask (sheet_ok b.coefficients b.powers b.levels b.bounds) FieldSheet (ask (leb b.rounds 1000) Rounds (Ok tt))

    m : Result
    m = improve.improved points corners labels a.coefficients a.powers a.rounds

    m' : Result
    m' = improve.improved points corners' labels' b.coefficients b.powers b.rounds

    same : surface_questions points corners labels a.work ≡ surface_questions points corners' labels' b.work
    same = surface_relisted r points a.work b.work (a.lent ∙ sym b.lent)

    out : {q : Asked} → surface_questions points corners labels a.work ≡ q → a.call.outcome ≡ improve.answer_of (and_then q later) m
    out e = a.call.run.answer ∙ ap (λ (q : Asked). improve.answer_of (and_then q later) m) e

    out' : {q : Asked} → surface_questions points corners labels a.work ≡ q → b.call.outcome ≡ improve.answer_of (and_then q later') m'
    out' e = b.call.run.answer ∙ ap (λ (q : Asked). improve.answer_of (and_then q later') m') (sym same ∙ e)

    go : (q : Asked) → surface_questions points corners labels a.work ≡ q → SameRefusal ForTheSurface number place number' place'
    go (Err why) e =
        refused-same (a.call.is ∙ ap improve.number_of (out e ∙ sym (out' e)) ∙ sym b.call.is) (a.call.place ∙ ap improve.place_of (out e ∙ sym (out' e)) ∙ sym b.call.place)
    go (Ok x) e =
        none-refused
        (λ s. improved (sheet_ok a.coefficients a.powers a.levels a.bounds) (leb a.rounds 1000) m (subst ForTheSurface (a.call.is ∙ ap improve.number_of (out e)) s))
        (λ s. improved (sheet_ok b.coefficients b.powers b.levels b.bounds) (leb b.rounds 1000) m' (subst ForTheSurface (b.call.is ∙ ap improve.number_of (out' e)) s))

-- ---- page twelve

pub page_twelve_calls : PageTwelveCalls
page_twelve_calls = record { check = check-ordered; check-turned = check-turned; edit = edit-ordered; improve = improve-ordered }
