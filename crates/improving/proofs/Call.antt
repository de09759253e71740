-- A whole call: what each end leaves is what `Improving` says.
use Prim.Native.Nat.{ℕ, ◌+◌, ◌*◌, ◌/◌, ◌≤◌, ◌<◌}
use native.Mathlib.Omega.{arith}
use mathlib.Core.Path.{◌≡◌, refl, sym, ap, ap₂, ◌∙◌}
use mathlib.Core.Bool.{Bool, true, false}
use mathlib.Core.List.{List, ◌++◌}
use lib.Dec.{leb}
use lib.Ieee.{Float}
use lib.ListN.{length, take, drop, replicate, length-replicate}
use lib.Seq.{drop_at, length-take-le}
use borrow.Author.Tests.{le-leb, lt-leb}
use Rattle.field.specs.Valid.{sheet_ok}
use Rattle.questions.specs.Questions.{needed, ask, and_then, cleared, work_after, Admits}
use Rattle.questions.specs.Refusal.{Asked, refusal_number, asked_number}
use Rattle.questions.specs.Admitted.{Admitted}
use Rattle.questions.specs.declared.Refusal.{Refusal}
use Rattle.questions.specs.declared.Refusal.TheVariants.{FieldSheet, Rounds}
use Rattle.std.specs.Prelude.{Ok, Err}
use Rattle.questions.proofs.Laws.{passed_admitted}
use Rattle.oracle.specs.Round.{Result, count}
use Rattle.oracle.proofs.Safe.{safe-after}
use Rattle.flips.specs.Whole.{mesh_of, sheet_of}
use Rattle.improving.specs.Rounded.{Improvable, Rounded}
use Rattle.improving.specs.Improve.{improve_questions, improved, left_of, answer_of, Improving}
use Rattle.improving.specs.declared.Left.{Left}
use Rattle.improving.proofs.Running.{fine-first}

-- a surface that passes the questions may be improved, with the needed words
pub improvable_in : {ps : List Float} {c ls w : List ℕ} → Admitted ps c ls w → (v : List ℕ) → needed ps c ≤ length v → Improvable ps c ls v
improvable_in {ps} {c} {ls} a v r =
    let t = a.corners_in_threes in
    let e = a.a-label-each in
    let n = a.few-triangles in
    record {
      lists = record { thirds = t; few = omega arith; points = a.few-points; below = a.listed };
      coords = a.points_in_threes;
      labelled = record { size = omega arith; small = λ i l. let k = a.known i l in omega arith };
      closed = a.closed;
      room = omega arith;
    }

pub improvable_of : {ps : List Float} {c ls w : List ℕ} → Admitted ps c ls w → Improvable ps c ls w
improvable_of {w = w} a = improvable_in a w a.enough-words

module _ {ps : List Float} {c ls w w' : List ℕ} {a : Asked} (d : Admits ps c ls w w' a) (z : a ≡ Ok tt) (same : length w' ≡ length w) where
  admits : Admitted ps c ls w
  admits = passed_admitted ps c ls w (sym d.answer ∙ z)

  pub room : length c / 3 * 32 + length ps / 3 * 16 ≤ length w'
  room = let x = admits.enough-words in omega arith

  pub handed : Improvable ps c ls (take (length c / 3 * 32 + length ps / 3 * 16) w')
  handed = improvable_in admits _ (let x = length-take-le (length c / 3 * 32 + length ps / 3 * 16) w' room in omega arith)

module _ (ps : List Float) (c ls w : List ℕ) (qs : List Float) (ns : List ℕ) (levels bounds : List Float) (n : ℕ) where
  abbrev r : Result
  r = improved ps c ls qs ns n

  abbrev last-two : Bool → Bool → Asked
  last-two s t = ask s FieldSheet (ask t Rounds (Ok tt))

  -- a call is refused
  refused : (why : Refusal) → improve_questions ps c ls w qs ns levels bounds n ≡ Err why → {w' : List ℕ} → w' ≡ work_after (refusal_number why) ps c w
      → Improving ps c ls w qs ns levels bounds n ps c ls w' (Err why)
  refused why e f = record { answer = sym (ap (λ (q : Asked). answer_of q r) e); points = refl; corners = refl; labels = refl; work = f }

  module _ {a : Asked} {w' : List ℕ} (d : Admits ps c ls w w' a) where
    answer-is : {b : Asked} → a ≡ b → improve_questions ps c ls w qs ns levels bounds n ≡ and_then b (last-two (sheet_ok qs ns levels bounds) (leb n 1000))
    unfolding improve_questions
    answer-is e = ap (λ (q : Asked). and_then q (last-two (sheet_ok qs ns levels bounds) (leb n 1000))) (sym d.answer ∙ e)

    words_are : {b : Asked} → a ≡ b → w' ≡ work_after (asked_number b) ps c w
    words_are e = d.words ∙ ap (λ (q : Asked). work_after (asked_number q) ps c w) e

    -- by a question about the surface
    pub refused_surface : {why : Refusal} → a ≡ Err why → Improving ps c ls w qs ns levels bounds n ps c ls w' (Err why)
    refused_surface {why} e = refused why (answer-is e) (words_are e)

  module _ {a : Asked} {w' : List ℕ} (d : Admits ps c ls w w' a) (z : a ≡ Ok tt) where
    cleared-words : w' ≡ cleared (needed ps c) w
    cleared-words = words_are d z

    -- by question 13
    pub no_sheet : sheet_ok qs ns levels bounds ≡ false → Improving ps c ls w qs ns levels bounds n ps c ls w' (Err FieldSheet)
    no_sheet s = refused FieldSheet (answer-is d z ∙ ap (λ (t : Bool). last-two t (leb n 1000)) s) cleared-words

    module _ (s : sheet_ok qs ns levels bounds ≡ true) where
      -- by question 14
      pub too_many : 1000 < n → Improving ps c ls w qs ns levels bounds n ps c ls w' (Err Rounds)
      too_many l = refused Rounds (answer-is d z ∙ ap₂ last-two s (lt-leb n 1000 l)) cleared-words

      -- or the rounds have come to their end, and the needed words are cleared
      module _ (l : n ≤ 1000) (same : length w' ≡ length w) where
        abbrev need : ℕ
        need = length c / 3 * 32 + length ps / 3 * 16

        need_is : length c / 3 * 32 + length ps / 3 * 16 ≡ needed ps c
        need_is = omega arith

        all-passed : improve_questions ps c ls w qs ns levels bounds n ≡ Ok tt
        all-passed = answer-is d z ∙ ap₂ last-two s (le-leb n 1000 l)

        further : (v : List ℕ) → length v ≡ length (take need w') → drop need (v ++ drop need w') ≡ drop need w
        further v e =
            drop_at v (drop need w') need (e ∙ length-take-le need w' (room d z same))
            ∙ ap (drop need) cleared-words
            ∙ drop_at (replicate (needed ps c) 0) (drop (needed ps c) w) need (length-replicate (needed ps c) 0 ∙ sym need_is)
            ∙ ap (λ (k : ℕ). drop k w) (sym need_is)

        pub improves : {ps' : List Float} {c' ls' w₃ : List ℕ} (left : Left) → Rounded (improved ps c ls qs ns n) (49152 * n) ps c ls ps' c' ls' left.points left.triangles left.flips
            → (v : List ℕ) → length v ≡ length (take (length c / 3 * 32 + length ps / 3 * 16) w')
            → w₃ ≡ replicate (length c / 3 * 32 + length ps / 3 * 16) 0 ++ drop (length c / 3 * 32 + length ps / 3 * 16) (v ++ drop (length c / 3 * 32 + length ps / 3 * 16) w')
            → Improving ps c ls w qs ns levels bounds n ps' c' ls' w₃ (Ok left)
        improves left x v e g =
            let h = handed d z same in
            let y = safe-after (sheet_of qs ns) n (mesh_of ps c ls) h.closed (fine-first h).labelled in
            let ep : left.points ≡ count r.mesh = let q = x.points in omega arith in
            let et : left.triangles ≡ length r.mesh.pair.tris = sym x.triangles ∙ y.labelled in
            let el : left ≡ left_of r = λ i. record { points = ep i; triangles = et i; flips = x.flips i } in
            record {
              answer = ap Ok el ∙ sym (ap (λ (q : Asked). answer_of q r) all-passed);
              points = x.holds.points;
              corners = x.holds.corners;
              labels = x.holds.labels;
              work = g ∙ ap (λ (y : List ℕ). replicate need 0 ++ y) (further v e) ∙ ap (λ (q : ℕ). cleared q w) need_is;
            }
