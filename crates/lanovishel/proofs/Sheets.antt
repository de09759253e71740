-- What the calls on sheets hand on of what was read and written. Assumes nothing.
use mathlib.Core.Path.{◌≡◌, refl, sym, ap, ap₂, ◌∙◌}
use mathlib.Core.List.{List, [], ◌∷◌}
use Prim.Native.Nat.{ℕ, ◌%◌, ◌^◌}
use native.Mathlib.Omega.{arith}
use lib.Ieee.{Float}
use Rattle.sheet.specs.Contents.{contents}
use Rattle.reading.specs.Given.{reading_in, answer_number, answer_counts, Gives}
use Rattle.sheet.specs.declared.Counts.{Counts}
use Rattle.sheet.specs.declared.Refusal.{Refusal}
use Rattle.std.specs.Prelude.{Result, Ok}
use Rattle.reading.proofs.Giving.{is_read}
use Rattle.lanovishel.specs.Sheets.{ReadSheetCall}

module _ (input : List ℕ) (p p' : List Float) (c c' l l' : List ℕ) (r : Result Counts Refusal) (h : Gives (reading_in (contents input) p c l) p p' c c' l l' r) where
  reading_call : (q : Result Counts Refusal) → r ≡ q → (number : ℕ) (counts' : List ℕ) → number ≡ answer_number q → counts' ≡ answer_counts q → ReadSheetCall input p c l p' c' l' counts' number
  reading_call q e number counts' a b = record { answer = a ∙ ap answer_number (sym e ∙ h.answered); point-list = h.point-list; corner-list = h.corner-list; label-list = h.label-list; counts = b ∙ ap answer_counts (sym e ∙ h.answered) }

  -- the counts are as words what they are
  pub sheet-call : (counts : Counts) (a b : ℕ) → r ≡ Ok counts → a ≡ counts.points % 2 ^ 32 → b ≡ counts.triangles % 2 ^ 32 → ReadSheetCall input p c l p' c' l' (a ∷ b ∷ []) 0
  sheet-call counts a b e f g =
      let s = is_read input counts p p' c c' l l' r h e in
      let en = s.n-points in
      let em = s.m-triangles in
      let few = s.said.in_range.points in
      let few' = s.said.in_range.triangles in
      reading_call (Ok counts) e 0 (a ∷ b ∷ []) refl (ap₂ (λ (x y : ℕ). x ∷ y ∷ []) {x = a} {y = counts.points} (omega arith) (omega arith))
