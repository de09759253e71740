-- A sheet that was read: it fits the lists, what they start with is what it says, and the verdict on that is the one on the text. Assumes nothing.
use Prim.Native.Nat.{ℕ, ◌*◌, ◌≤◌}
use native.Mathlib.Omega.{arith}
use mathlib.Core.Path.{◌≡◌, refl, sym, ap, ◌∙◌}
use mathlib.Core.Bool.{Bool, true, cond}
use mathlib.Core.List.{List, [], ◌∷◌, ◌++◌}
use lib.ListN.{length, take, length-append}
use lib.Seq.{take_at}
use lib.Ieee.{Float}
use Rattle.questions.specs.Questions.{needed}
use Rattle.std.specs.Prelude.{Result, Ok, Err}
use Rattle.questions.specs.declared.Refusal.TheVariants as question
use Rattle.checking.specs.Validate.{validated}
use Rattle.checking.specs.Verdict.{Verdict}
use Rattle.sheet.specs.Sheet.{Point, Sheet, places_of, corners_of, labels_of}
use Rattle.sheet.specs.Edition.{edition}
use Rattle.sheet.specs.Contents.{Contents, contents}
use Rattle.sheet.proofs.Stores.{length-corners, length-labels}
use Rattle.sheet.proofs.Contents.{contents-laws}
use Rattle.reading.specs.Given.{read, refused, holds?, reading_in, sheet_answer, Gives}
use Rattle.sheet.specs.declared.Counts.{Counts}
use Rattle.sheet.specs.declared.Refusal.{Refusal}
use Rattle.sheet.specs.declared.Refusal.TheVariants.{NoRoom}
use Rattle.reading.proofs.Giving.{IsRead, is_read, holds_means}
use Rattle.printing.specs.Printed.{verdict_on}
use Rattle.printing.proofs.Verdicts.{enough}

places-long : (unit : ℕ) (ps : List Point) → length (places_of unit ps) ≡ length ps * 3
places-long unit [] = refl
places-long unit (p ∷ ps) = omega (arith, places-long unit ps)

starts : {A : Type 0} (l m r : List A) → r ≡ l ++ m → length l ≤ length r
starts l m r e = omega (arith, ap length e ∙ length-append l m)

pub record Fits (n m : ℕ) (ps : List Float) (cs ls : List ℕ) : Type 0 where
  pub few-points : n ≤ 128
  pub few-triangles : m ≤ 256
  pub points : n * 3 ≤ length ps
  pub corners : m * 3 ≤ length cs
  pub labels : m ≤ length ls

module _ (input : List ℕ) (p p' : List Float) (c c' l l' : List ℕ) (r : Result Counts Refusal) (h : Gives (reading_in (contents input) p c l) p p' c c' l l' r) where
  module _ (counts : Counts) (e : r ≡ Ok counts) where
    abbrev n : ℕ
    n = counts.points

    abbrev m : ℕ
    m = counts.triangles

    s : IsRead input n m p p' c c' l l'
    s = is_read input counts p p' c c' l l' r h e

    unit : ℕ
    unfolding s
    unit = (edition s.number).unit

    points-long : length (places_of unit s.sheet.points) ≡ n * 3
    unfolding s unit
    points-long = places-long unit s.sheet.points ∙ ap (λ (k : ℕ). k * 3) (sym s.n-points)

    corners-long : length (corners_of s.sheet.triangles) ≡ m * 3
    unfolding s
    corners-long = length-corners s.sheet.triangles ∙ ap (λ (k : ℕ). k * 3) (sym s.m-triangles)

    labels-long : length (labels_of s.sheet.triangles) ≡ m
    unfolding s
    labels-long = length-labels s.sheet.triangles ∙ sym s.m-triangles

    pub fits : Fits counts.points counts.triangles p' c' l'
    unfolding s unit
    fits =
        let a = s.said.in_range in
        let en = s.n-points in
        let em = s.m-triangles in
        let x = starts (places_of unit s.sheet.points) _ p' s.point-list in
        let y = starts (corners_of s.sheet.triangles) _ c' s.corner-list in
        let z = starts (labels_of s.sheet.triangles) _ l' s.label-list in
        record {
          few-points = omega (arith, a.points);
          few-triangles = omega (arith, a.triangles);
          points = omega (arith, points-long);
          corners = omega (arith, corners-long);
          labels = omega (arith, labels-long);
        }

    pub sheet-verdict : (work : List ℕ) → 10240 ≤ length work → validated (take (counts.points * 3) p') (take (counts.triangles * 3) c') (take counts.triangles l') work ≡ verdict_on (contents input)
    unfolding s unit
    sheet-verdict work room =
        let P = places_of unit s.sheet.points in
        let C = corners_of s.sheet.triangles in
        let L = labels_of s.sheet.triangles in
        let points : take (n * 3) p' ≡ P = ap (take (n * 3)) s.point-list ∙ take_at P _ (n * 3) points-long in
        let corners : take (m * 3) c' ≡ C = ap (take (m * 3)) s.corner-list ∙ take_at C _ (m * 3) corners-long in
        let labels : take m l' ≡ L = ap (take m) s.label-list ∙ take_at L _ m labels-long in
        let a = s.said.in_range in
        let en = s.n-points in
        let em = s.m-triangles in
        let few : needed P C ≤ length work = omega (arith, a.points, a.triangles, points-long, corners-long) in
        (λ i. validated (points i) (corners i) (labels i) work) ∙ enough P C L work few ∙ sym (ap verdict_on (contents-laws.said input s.number s.sheet s.said))

  -- the lists are long enough for every sheet, and so only what is no sheet is refused
  module _ (hp : 384 ≤ length p) (hc : 768 ≤ length c) (hl : 256 ≤ length l) where
    holds : (number : ℕ) (s : Sheet) → contents input ≡ Contents.sheet number s → holds? s (length p) (length c) (length l) ≡ true
    holds number s e =
        let a = (contents-laws.says input number s e).in_range in
        (holds_means s (length p) (length c) (length l)).1 (omega (arith, a.points), (omega (arith, a.triangles), omega (arith, a.triangles)))

    pub no_sheet : (why : Refusal) → r ≡ Err why → ◌≡◌ {A = Verdict} (Err question.Sheet) (verdict_on (contents input))
    no_sheet why e = go (contents input) refl
      where
        go : (x : Contents) → contents input ≡ x → ◌≡◌ {A = Verdict} (Err question.Sheet) (verdict_on x)
        go Contents.nothing g = refl
        go (Contents.sheet number s) g =
            let f : ◌≡◌ {A = Result Counts Refusal} (Err why) (sheet_answer (cond true (read number s) (refused NoRoom))) =
            sym e ∙ h.answered ∙ ap (λ (x : Contents). sheet_answer (reading_in x p c l)) g ∙ ap (λ (b : Bool). sheet_answer (cond b (read number s) (refused NoRoom))) (holds number s g) in
            let bad : ◌≡◌ {A = ℕ} 0 1 = cc in
            absurd (omega arith)
