-- What is proved of conversions. Assumes nothing.
use mathlib.Core.Path.{◌≡◌, refl, sym, ap, ◌∙◌}
use mathlib.Core.Bool.{Bool, true, false, cond}
use mathlib.Core.List.{List, ◌++◌}
use Prim.Native.Nat.{ℕ, ◌-◌, ◌*◌}
use native.Mathlib.Omega.{arith}
use lib.ListN.{length, replicate, length-map}
use Rattle.sheet.specs.Edition.{edition, IsEdition, is_edition?}
use Rattle.sheet.specs.Sheet.{Sheet, text}
use Rattle.sheet.specs.Contents.{Contents, Says, contents}
use Rattle.sheet.specs.Conversion.{Converted, point_in_unit, convertible?, sheet_in_unit}
use Rattle.sheet.specs.Laws.{Exact}
use Rattle.sheet.proofs.Contents.{contents-laws}
use Rattle.sheet.proofs.Conversion.{converted_sym, conversion-laws}
use Rattle.sheet.proofs.InUnit.{in_range, same_ends, unit-some, unit-small, most-small}
use Rattle.sheet.proofs.Tests.{both-mean, le_means, fails}
use Rattle.reading.specs.Given.{read, zero_float, holds?, reading_of}
use Rattle.reading.specs.Given as Given
use Rattle.std.specs.Prelude.{Ok}
use Rattle.sheet.specs.declared.Refusal.TheVariants.{NoSheet, NoRoom, Inexact}
use Rattle.writing.specs.Written.{written, refused}
use Rattle.writing.proofs.Laws.{only-passed}
use Rattle.converting.specs.Converting.{unit_of, sheet_conversion, conversion}
use Rattle.converting.specs.Laws.{SameReading, ConvertingLaws}
use Rattle.converting.proofs.Units.{converted_self, finer-convertible, coarser-convertible}

-- units and coordinates are whole floats
exact : (number : ℕ) → IsEdition number → Exact (edition number)
exact number known =
    let u = unit-small number known in
    let m = most-small number known in
    record { some = unit-some number known; unit = omega arith; most = omega arith }

-- ---- what comes of a sheet

module _ (input : List ℕ) (number asked : ℕ) (s : Sheet) (said : contents input ≡ Contents.sheet number s) where
  abbrev u : ℕ
  u = unit_of number

  abbrev v : ℕ
  v = unit_of asked

  module _ (known : IsEdition asked) where
    of_sheet : (b : Bool) → convertible? u v s ≡ b → conversion (contents input) asked ≡ cond b (written (text (edition asked) (sheet_in_unit u v s))) (refused Inexact)
    of_sheet b e =
        ap (λ (c : Contents). conversion c asked) said
        ∙ ap (λ (t : Bool). cond t (sheet_conversion number asked s) (refused NoSheet)) ((both-mean (le_means 1 asked) (le_means asked 2)).1 known)
        ∙ ap (λ (t : Bool). cond t (written (text (edition asked) (sheet_in_unit u v s))) (refused Inexact)) e

    -- the text of the sheet that it converts to
    converts_to : (t : Sheet) → Converted u v s t → conversion (contents input) asked ≡ written (text (edition asked) t)
    converts_to t c =
        let some = unit-some number (contents-laws.says input number s said).known in
        let some' = unit-some asked known in
        let passes = conversion-laws.convertible u v some some' s t c in
        of_sheet true passes ∙ ap (λ (r : Sheet). written (text (edition asked) r)) (conversion-laws.one u v some s t (sheet_in_unit u v s) c (conversion-laws.computed u v some some' s passes))

-- ---- a conversion that came

-- a text comes only of a sheet
only_of_sheet : (P : Contents → Type 0) (c : Contents) (asked : ℕ) (bytes : List ℕ) → conversion c asked ≡ written bytes → ((number : ℕ) (s : Sheet) → c ≡ Contents.sheet number s → P c) → P c
only_of_sheet P Contents.nothing asked bytes e f = let bad : ◌≡◌ {A = ℕ} 0 1 = cc in absurd (omega arith)
only_of_sheet P (Contents.sheet number s) asked bytes e f = f number s refl

-- the input says s, the converted text says t, and they are the same sheet
record Came (input converted : List ℕ) (number asked : ℕ) (s t : Sheet) : Type 0 where
  from : Says input number s
  to : Says converted asked t
  same : Converted (unit_of number) (unit_of asked) s t

module _ (input converted : List ℕ) (number asked : ℕ) (s : Sheet) (said : contents input ≡ Contents.sheet number s) (e : conversion (contents input) asked ≡ written converted) where
  abbrev t : Sheet
  t = sheet_in_unit (unit_of number) (unit_of asked) s

  came : Came input converted number asked s t
  came =
      let h = contents-laws.says input number s said in
      let outer = only-passed (is_edition? asked) (sheet_conversion number asked s) NoSheet converted (ap (λ (c : Contents). conversion c asked) (sym said) ∙ e) in
      let inner = only-passed (convertible? (unit_of number) (unit_of asked) s) (written (text (edition asked) t)) Inexact converted outer.1 in
      let same_text = inner.1 in
      let known = (both-mean (le_means 1 asked) (le_means asked 2)).0 outer.0 in
      let some = unit-some number h.known in
      record {
        from = h;
        to = record {
          known = known;
          in_range = in_range (unit_of number) (unit_of asked) (edition number).most (edition asked).most some (same_ends number asked h.known known) s h.in_range;
          is-text = cc;
        };
        same = conversion-laws.computed (unit_of number) (unit_of asked) some (unit-some asked known) s inner.0;
      }

  back : conversion (contents converted) number ≡ written input
  back =
      let c = came in
      converts_to converted asked number t (contents-laws.said converted asked t c.to) c.from.known s (converted_sym (unit_of number) (unit_of asked) s t c.same)
      ∙ ap written (sym c.from.is-text)

  long : length t.points ≡ length s.points
  long = length-map s.points (point_in_unit (unit_of number) (unit_of asked))

  module _ (values corners labels : ℕ) where
    -- the same is left, where the lists hold it and where they do not
    alike : (holds : Bool) → SameReading values corners labels (cond holds (read asked t) (Given.refused NoRoom)) (cond holds (read number s) (Given.refused NoRoom))
    alike true =
        let same = conversion-laws.keeps (edition number) (edition asked) (exact number came.from.known) (exact asked came.to.known) s t came.from.in_range came.to.in_range came.same in
        let places = sym same.points in
        record {
          answers = λ i. Ok (record { points = long i; triangles = length s.triangles });
          points = λ i. places i ++ replicate (values - long i * 3) zero_float;
          corner-list = refl;
          label-list = refl;
        }
    alike false = record { answers = refl; points = refl; corner-list = refl; label-list = refl }

    same_reading : SameReading values corners labels (reading_of (contents converted) values corners labels) (reading_of (contents input) values corners labels)
    same_reading = rw (contents-laws.said converted asked t came.to, said, long) (alike (holds? s values corners labels))

pub converting_laws : ConvertingLaws
converting_laws = record {
  same_surface = λ input converted asked e values corners labels.
      only_of_sheet (λ (c : Contents). SameReading values corners labels (reading_of (contents converted) values corners labels) (reading_of c values corners labels)) (contents input) asked converted e (λ number s said. same_reading input converted number asked s said e values corners labels);
  there_and_back = back;
  as_it_is = λ input number s said.
      let h = contents-laws.says input number s said in
      converts_to input number number s said h.known s (converted_self (unit_of number) s) ∙ ap written (sym h.is-text);
  finer = λ input s said. (_, of_sheet input 1 2 s said (omega arith) true (finer-convertible s));
  coarser = λ input s said multiples. (_, of_sheet input 2 1 s said (omega arith) true ((coarser-convertible s).1 multiples));
  between = λ input s said n. of_sheet input 2 1 s said (omega arith) false (fails (coarser-convertible s) n);
}
