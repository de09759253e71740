-- Reading what was written, and writing what was read. Assumes nothing.
use mathlib.Core.Path.{◌≡◌, refl, sym, ap, ◌∙◌}
use mathlib.Core.Bool.{Bool, true, false, cond}
use mathlib.Core.List.{List}
use Prim.Native.Nat.{ℕ}
use native.Mathlib.Omega.{arith}
use Rattle.sheet.specs.Edition.{edition}
use Rattle.sheet.specs.Sheet.{Sheet, text, coordinates_of, corners_of, labels_of}
use Rattle.sheet.specs.Contents.{Says}
use Rattle.sheet.proofs.Contents.{contents-laws}
use Rattle.writing.specs.Lists.{Sayable, sayable?, list_sheet}
use Rattle.writing.specs.Written.{Writing, written, refused}
use Rattle.writing.specs.Laws.{WritingLaws}
use Rattle.sheet.specs.declared.Refusal.{Refusal}
use Rattle.sheet.specs.declared.Refusal.TheVariants.{NoSheet}
use Rattle.writing.proofs.Verdicts.{list-laws}

-- a text comes only where the test passes
pub only-passed : (t : Bool) (w : Writing) (why : Refusal) (bytes : List ℕ) → cond t w (refused why) ≡ written bytes → (t ≡ true) × (w ≡ written bytes)
only-passed true w why bytes e = (refl, e)
only-passed false w why bytes e = let bad : ◌≡◌ {A = ℕ} 0 1 = cc in absurd (omega arith)

-- a sheet that a text says, by its lists
pub lists_say : (input : List ℕ) (number : ℕ) (s : Sheet) → Says input number s → Sayable number (coordinates_of s.points) (corners_of s.triangles) (labels_of s.triangles) s
lists_say input number s h = record { known = h.known; in_range = h.in_range; coordinate-list = refl; corner-list = refl; label-list = refl }

pub writing_laws : WritingLaws
writing_laws = record {
  read_back = λ number coordinates corners labels bytes a b e.
      let s = list_sheet coordinates corners labels in
      let p = only-passed (sayable? number coordinates corners labels) (written (text (edition number) s)) NoSheet bytes e in
      let q = p.1 in
      let h = list-laws.sayable number coordinates corners labels a b p.0 in
      (s, contents-laws.said bytes number s (record { known = h.known; in_range = h.in_range; is-text = cc }), h);
  written_back = λ input number s e.
      let h = contents-laws.says input number s e in
      let l = lists_say input number s h in
      ap (λ (t : Bool). cond t (written (text (edition number) (list_sheet (coordinates_of s.points) (corners_of s.triangles) (labels_of s.triangles)))) (refused NoSheet)) (list-laws.passes number (coordinates_of s.points) (corners_of s.triangles) (labels_of s.triangles) s l)
      ∙ ap (λ (t : Sheet). written (text (edition number) t)) (list-laws.same number (coordinates_of s.points) (corners_of s.triangles) (labels_of s.triangles) s l)
      ∙ ap written (sym h.is-text);
}
