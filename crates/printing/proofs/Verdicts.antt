-- Verdicts: work words beyond those that are needed change nothing, an accepted surface's values are no NaN, and every number is below 100. Assumes nothing.
use Prim.Native.Nat.{ℕ, ◌/◌, ◌%◌, ◌≤◌, ◌<◌}
use native.Mathlib.Nat.{eq-zero-or-pos}
use native.Mathlib.Omega.{arith}
use mathlib.Core.Path.{◌≡◌, refl, sym, ap, ◌∙◌, subst}
use mathlib.Core.Logic.{inl, inr}
use mathlib.Core.Bool.{Bool, not, ◌&&◌}
use mathlib.Core.List.{List}
use lib.Dec.{T, eqb, leb, lit<}
use lib.ListN.{length, replicate, length-replicate}
use lib.Ieee.{Float, nan, inf, fin, binary64, of_int, of_bits, lt, is_nan}
use borrow.Author.Tests.{le-leb}
use Rattle.std.specs.Prelude.{Ok, Err}
use Rattle.float.specs.Order.{is_finite}
use Rattle.surface.specs.Check.{every}
use Rattle.questions.specs.Questions.{ask, needed, lent_questions}
use Rattle.questions.specs.Refusal.{refusal_number}
use Rattle.questions.specs.declared.Refusal.{Refusal}
use Rattle.questions.specs.declared.Refusal.TheVariants.{Lengths, TooMany, WorkTooShort, NotFinite, CornerMissing, Degenerate, Repeated, Lone, Split, Volume, Label, SameCorner, OpposedLabels, SameTriangle, FieldSheet, Rounds, Entries, Height, OutlineRoom, Probes, Tariff}
use Rattle.questions.specs.declared.Refusal.TheVariants as refusal
use Rattle.quality.specs.Quality.{number}
use Rattle.checking.specs.Verdict.{Verdict, number_of}
use Rattle.checking.specs.Validate.{validated}
use Rattle.checking.proofs.Cases.{by_first, no_triangles}
use Rattle.checking.proofs.Laws.{accepted-lent, sound}
use Rattle.sheet.specs.Contents.{Contents}
use Rattle.printing.specs.Printed.{verdict_of, verdict_on}

-- ---- work words

module _ (ps : List Float) (cs ls : List ℕ) where
  same_questions : (v w : List ℕ) → leb (needed ps cs) (length v) ≡ leb (needed ps cs) (length w) → lent_questions ps cs ls v ≡ lent_questions ps cs ls w
  unfolding lent_questions
  same_questions v w e =
      ap (λ (b : Bool).
      ask (eqb (length ps % 3) 0 && (eqb (length cs % 3) 0 && eqb (length ls) (length cs / 3))) Lengths
      (ask (leb (length ps / 3) 32768 && leb (length cs / 3) 32768) TooMany
      (ask b WorkTooShort
      (ask (every is_finite ps) NotFinite (Ok tt))))) e

  pub enough : (work : List ℕ) → needed ps cs ≤ length work → validated ps cs ls work ≡ verdict_of ps cs ls
  enough work h =
      let just : List ℕ = replicate (needed ps cs) 0 in
      let long : length just ≡ needed ps cs = length-replicate (needed ps cs) 0 in
      let e = le-leb (needed ps cs) (length work) h ∙ sym (le-leb (needed ps cs) (length just) (omega arith)) in
      by_first ps cs ls work (same_questions work just e) ∙ sym (by_first ps cs ls just refl)

-- ---- no NaN

above-zero-is : (x : Float) → T (lt (number 0) x) → T (not (is_nan x))
unfolding lt is_nan of_int
above-zero-is nan h = absurd h
above-zero-is (inf s) h = tt
above-zero-is (fin s m e) h = tt

zero_is : T (not (is_nan (of_bits binary64 0)))
unfolding of_bits is_nan
zero_is = tt

-- the values of a verdict, if it has any
abbrev pub Values : Verdict → Type 0
Values (Ok m) = T (not (is_nan m.quality)) × T (not (is_nan m.volume))
Values (Err why) = Unit {0}

module _ (ps : List Float) (cs ls work : List ℕ) where
  pub values : Values (validated ps cs ls work)
  values = go (validated ps cs ls work) refl
    where
      go : (x : Verdict) → validated ps cs ls work ≡ x → Values x
      go (Err why) e = tt
      go (Ok m) e = elim (eq-zero-or-pos (length cs)) [
        | inl z ↦ subst Values (no_triangles ps cs z ∙ sym (by_first ps cs ls work (accepted-lent ps cs ls work m.quality m.volume e)) ∙ e) (zero_is, zero_is)
        | inr p ↦ let s = sound ps cs ls work m.quality m.volume e p in (above-zero-is m.quality s.above, above-zero-is m.volume s.encloses)
      ]

-- ---- two digits at most

refusal-few : (why : Refusal) → refusal_number why < 100
refusal-few Lengths = lit< tt
refusal-few TooMany = lit< tt
refusal-few WorkTooShort = lit< tt
refusal-few NotFinite = lit< tt
refusal-few CornerMissing = lit< tt
refusal-few Degenerate = lit< tt
refusal-few (Repeated u v) = lit< tt
refusal-few (Lone u v) = lit< tt
refusal-few (Split v) = lit< tt
refusal-few Volume = lit< tt
refusal-few Label = lit< tt
refusal-few SameCorner = lit< tt
refusal-few OpposedLabels = lit< tt
refusal-few SameTriangle = lit< tt
refusal-few FieldSheet = lit< tt
refusal-few Rounds = lit< tt
refusal-few Entries = lit< tt
refusal-few refusal.Sheet = lit< tt
refusal-few Height = lit< tt
refusal-few OutlineRoom = lit< tt
refusal-few Probes = lit< tt
refusal-few Tariff = lit< tt

pub few : (v : Verdict) → number_of v < 100
few (Ok measures) = lit< tt
few (Err why) = refusal-few why

-- ---- of a text

pub text-values : (c : Contents) → Values (verdict_on c)
text-values Contents.nothing = tt
text-values (Contents.sheet number s) = values _ _ _ _
