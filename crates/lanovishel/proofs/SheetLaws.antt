-- What is proved of calls on sheets: the laws of `writing` and `converting` hold of those that answer 0. Assumes nothing.
use mathlib.Core.Path.{◌≡◌, refl, sym, ap, ◌∙◌}
use mathlib.Core.Bool.{Bool, true, false, cond}
use mathlib.Core.List.{List, [], ◌∷◌, ◌++◌}
use Prim.Native.Nat.{ℕ, ◌-◌}
use native.Mathlib.Omega.{arith}
use lib.Dec.{leb}
use lib.IntN.{ℤ}
use lib.ListN.{length, get_or, take, replicate}
use lib.Ieee.{Float}
use lib.Seq.{take_at}
use Rattle.sheet.specs.Refusals.{refusal_number}
use Rattle.sheet.specs.declared.Refusal.{Refusal}
use Rattle.sheet.specs.declared.Refusal.TheVariants.{NoSheet, NoRoom, Inexact}
use Rattle.sheet.specs.Sheet.{Sheet}
use Rattle.sheet.specs.Contents.{Contents, contents}
use Rattle.reading.specs.Given.{reading_in, sheet_answer, answer_number, answer_counts}
use Rattle.writing.specs.Written.{Writing, written, refused, list_text, written_of, written_number, written_length, bytes_after}
use Rattle.writing.proofs.Laws.{writing_laws}
use Rattle.converting.specs.Converting.{conversion}
use Rattle.converting.proofs.Laws.{converting_laws}
use Rattle.lanovishel.specs.Sheets.{WritingCall, WriteSheetCall, ConvertSheetCall, given, SheetLaws}

-- ---- a text that a call gives

given-bytes : (bytes zeros written' count' : List ℕ) → written' ≡ bytes ++ zeros → count' ≡ length bytes ∷ [] → given written' count' ≡ bytes
given-bytes bytes zeros written' count' e f = (λ i. take (get_or (f i) 0 0) (e i)) ∙ take_at bytes zeros (length bytes) refl

some_number : (why : Refusal) → 0 ≡ refusal_number why → ⊥
some_number NoSheet e = omega arith
some_number NoRoom e = omega arith
some_number Inexact e = omega arith

zero-given : (w : Writing) (list list' count' : List ℕ) → WritingCall w list list' count' 0 → w ≡ written (given list' count')
zero-given (refused why) list list' count' c = absurd (some_number why c.answer)
zero-given (written bytes) list list' count' c = go (leb (length bytes) (length list)) c.answer c.bytes c.count
  where
    go : (b : Bool) → 0 ≡ written_number (written_of (cond b (written bytes) (refused NoRoom))) → list' ≡ bytes_after (length list) (cond b (written bytes) (refused NoRoom)) → count' ≡ written_length (written_of (cond b (written bytes) (refused NoRoom))) ∷ [] → written bytes ≡ written (given list' count')
    go true a e f = ap written (sym (given-bytes bytes (replicate (length list - length bytes) 0) list' count' e f))
    go false a e f = absurd (omega arith)

-- ---- the laws

zero-written : (number : ℕ) (coordinates : List ℤ) (corners labels list list' count' : List ℕ) → WriteSheetCall number coordinates corners labels list list' count' 0 → list_text number coordinates corners labels ≡ written (given list' count')
zero-written number coordinates corners labels list list' count' c = zero-given (list_text number coordinates corners labels) list list' count' c

zero-converted : (sheet : List ℕ) (asked : ℕ) (list list' count' : List ℕ) → ConvertSheetCall sheet asked list list' count' 0 → conversion (contents sheet) asked ≡ written (given list' count')
zero-converted sheet asked list list' count' c = zero-given (conversion (contents sheet) asked) list list' count' c

zero-read : (c : Contents) (p : List Float) (k l : List ℕ) → 0 ≡ answer_number (sheet_answer (reading_in c p k l)) → (number : ℕ) × (s : Sheet) × (c ≡ Contents.sheet number s)
zero-read Contents.nothing p k l e = absurd (omega arith)
zero-read (Contents.sheet number s) p k l e = (number, s, refl)

same_text : (a b : List ℕ) → written a ≡ written b → a ≡ b
same_text a b e = cc

pub sheet-laws : SheetLaws
sheet-laws = record {
  zero-written = zero-written;
  zero-converted = zero-converted;
  zero-read = λ sheet points corners labels points' corners' labels' counts' c. zero-read (contents sheet) points corners labels c.answer;
  same_surface = λ sheet asked list list' count' c points corners labels points' points'' corners' corners'' labels' labels'' counts' counts'' number number' a b.
      let s = converting_laws.same_surface sheet (given list' count') asked (zero-converted sheet asked list list' count' c) (length points) (length corners) (length labels) in
      (b.answer ∙ ap answer_number s.answers ∙ sym a.answer, b.point-list ∙ s.points ∙ sym a.point-list, b.corner-list ∙ s.corner-list ∙ sym a.corner-list, b.label-list ∙ s.label-list ∙ sym a.label-list, b.counts ∙ ap answer_counts s.answers ∙ sym a.counts);
  there_and_back = λ sheet number asked s e list list' count' back back' length' c d.
      same_text (given back' length') sheet
      (sym (zero-converted (given list' count') number back back' length' d) ∙ converting_laws.there_and_back sheet (given list' count') number asked s e (zero-converted sheet asked list list' count' c));
  read_back = λ number coordinates corners labels list list' count' f g c.
      writing_laws.read_back number coordinates corners labels (given list' count') f g (zero-written number coordinates corners labels list list' count' c);
}
