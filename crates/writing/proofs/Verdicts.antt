-- What `write` asks of the lists; and that lists say a sheet just where they pass. Assumes nothing.
use mathlib.Core.Path.{◌≡◌, refl, sym, ap, ◌∙◌, subst}
use mathlib.Core.Logic.{◌↔◌}
use mathlib.Core.Bool.{Bool, true, false, cond}
use mathlib.Core.List.{List, [], append-nil}
use Prim.Native.Nat.{ℕ, ◌+◌, ◌*◌, ◌/◌, ◌%◌, ◌≤◌, ◌<◌, ◌^◌}
use native.Mathlib.Nat.{mul-div_cancel}
use native.Mathlib.Omega.{arith}
use lib.IntN.{ℤ, pos, nat_abs}
use lib.ListN.{length, get_or, replicate}
use Rattle.surface.specs.Check.{every}
use Rattle.surface.proofs.Bools.{true_false}
use Rattle.sheet.specs.Edition.{edition, IsEdition, edition_number, rules_of}
use Rattle.sheet.specs.declared.Edition as declared
use Rattle.sheet.specs.Sheet.{Sheet, Every, Near, Small, text, coordinates_of, corners_of, labels_of}
use Rattle.sheet.proofs.Stores.{length_coordinates, length-corners, length-labels}
use Rattle.sheet.proofs.Tests.{both-mean, le_means, eq_means, every_means, fails}
use Rattle.writing.specs.Lists.{Sayable, coordinate_in_range?, sayable?, list_point, list_triangle, list_sheet}
use Rattle.writing.specs.Written.{written, refused, list_text, Leaves}
use Rattle.writing.specs.Laws.{ListLaws}
use Rattle.std.specs.Prelude.{Result, Err}
use Rattle.sheet.specs.declared.Refusal.{Refusal}
use Rattle.sheet.specs.declared.Refusal.TheVariants.{NoSheet}
use Rattle.writing.proofs.Settling.{refused-leaves}
use Rattle.writing.proofs.Threes.{length-each, every-each, every-at, coordinates_back, coordinates_near, list-points, corners-back, labels-back, list-triangles}

-- in the range of the edition with that number
pub in_its_range : (number : ℕ) (coordinates : List ℤ) (e : declared.Edition) {most : ℕ} → edition_number e ≡ number → most ≡ (rules_of e).most → every (coordinate_in_range? (edition number).most) coordinates ≡ every (coordinate_in_range? most) coordinates
in_its_range number coordinates e p q =
    ap (λ (n : ℕ). every (coordinate_in_range? (edition n).most) coordinates) (sym p)
    ∙ ap (λ (m : ℕ). every (coordinate_in_range? m) coordinates) (sym q)

module _ (number : ℕ) (coordinates : List ℤ) (corners labels : List ℕ) where
  -- what the tests ask
  pub record Passes : Type 0 where
    pub known : IsEdition number
    pub threes : length coordinates % 3 ≡ 0
    pub few-points : length coordinates / 3 ≤ 128
    pub few-triangles : length labels ≤ 256
    pub together : length corners ≡ length labels * 3
    pub near : Every (λ (z : ℤ). nat_abs z ≤ (edition number).most) coordinates

  near_means : (every (coordinate_in_range? (edition number).most) coordinates ≡ true) ↔ Every (λ (z : ℤ). nat_abs z ≤ (edition number).most) coordinates
  near_means = every_means (λ z. le_means (nat_abs z) (edition number).most) coordinates

  tests : (sayable? number coordinates corners labels ≡ true) ↔ Passes
  unfolding sayable?
  tests =
      let all = both-mean (both-mean (le_means 1 number) (le_means number 2)) (both-mean (eq_means (length coordinates % 3) 0) (both-mean (le_means (length coordinates / 3) 128) (both-mean (le_means (length labels) 256) (both-mean (eq_means (length corners) (length labels * 3)) near_means)))) in
      (λ e. let h = all.0 e in record { known = h.0; threes = h.1.0; few-points = h.1.1.0; few-triangles = h.1.1.1.0; together = h.1.1.1.1.0; near = h.1.1.1.1.1 }, λ h. all.1 (h.known, (h.threes, (h.few-points, (h.few-triangles, (h.together, h.near))))))

  pub passed : IsEdition number → length coordinates ≤ length coordinates / 3 * 3 → length coordinates / 3 ≤ 128 → length labels ≤ 256 → length corners ≡ length labels * 3 → every (coordinate_in_range? (edition number).most) coordinates ≡ true → sayable? number coordinates corners labels ≡ true
  passed known threes few few' together near = tests.1 (record { known = known; threes = omega arith; few-points = few; few-triangles = few'; together = together; near = near_means.0 near })

  -- ---- what `write` leaves

  pub leaves_16 : (list list' : List ℕ) → (Passes → ⊥) → list' ≡ replicate (length list) 0 → Leaves (list_text number coordinates corners labels) list list' (Err NoSheet)
  leaves_16 list list' n z = refused-leaves (list_text number coordinates corners labels) NoSheet list list' (ap (λ (b : Bool). cond b (written (text (edition number) (list_sheet coordinates corners labels))) (refused NoSheet)) (fails tests n)) z

  -- a test of the range that fails
  pub not_near : every (coordinate_in_range? (edition number).most) coordinates ≡ false → Passes → ⊥
  not_near e h = true_false (near_means.1 h.near) e

  pub leaves-text : (list list' : List ℕ) (r : Result ℕ Refusal) → sayable? number coordinates corners labels ≡ true → Leaves (written (text (edition number) (list_sheet coordinates corners labels))) list list' r → Leaves (list_text number coordinates corners labels) list list' r
  leaves-text list list' r e h = subst (λ (b : Bool). Leaves (cond b (written (text (edition number) (list_sheet coordinates corners labels))) (refused NoSheet)) list list' r) (sym e) h

  -- ---- the sheet

  says : ((k : ℕ) → get_or corners k 0 < 2 ^ 32) → ((k : ℕ) → get_or labels k 0 < 2 ^ 8) → sayable? number coordinates corners labels ≡ true → Sayable number coordinates corners labels (list_sheet coordinates corners labels)
  says small-corner small-label pass =
      let h = tests.0 pass in
      let n = length coordinates / 3 in
      let m = length labels in
      let few = h.few-points in
      let few' = h.few-triangles in
      let near : (k : ℕ) → k < length coordinates → nat_abs (get_or coordinates k (pos 0)) ≤ (edition number).most = every-at (λ (z : ℤ). nat_abs z ≤ (edition number).most) coordinates (pos 0) h.near in
      let long : length coordinates ≡ n * 3 = omega (arith, h.threes) in
      record {
        known = h.known;
        in_range = record {
          points = let e = length-each (list_point coordinates) n in omega arith;
          triangles = let e = length-each (list_triangle corners labels) m in omega arith;
          near = every-each (Near (edition number).most) (list_point coordinates) n (λ k g. record { x = near (k * 3) (omega arith); y = near (k * 3 + 1) (omega arith); z = near (k * 3 + 2) (omega arith) });
          small = every-each Small (list_triangle corners labels) m (λ k g. record { a = small-corner (k * 3); b = small-corner (k * 3 + 1); c = small-corner (k * 3 + 2); label = small-label k });
        };
        coordinate-list = coordinates_back coordinates n long;
        corner-list = corners-back corners labels m h.together;
        label-list = labels-back corners labels m refl;
      }

  module _ (s : Sheet) (h : Sayable number coordinates corners labels s) where
    n-is : length coordinates ≡ length s.points * 3
    n-is = ap length h.coordinate-list ∙ length_coordinates s.points

    n-third : length coordinates / 3 ≡ length s.points
    n-third = ap (λ (k : ℕ). k / 3) n-is ∙ mul-div_cancel (length s.points) (omega arith)

    m-is : length labels ≡ length s.triangles
    m-is = ap length h.label-list ∙ length-labels s.triangles

    k-is : length corners ≡ length s.triangles * 3
    k-is = ap length h.corner-list ∙ length-corners s.triangles

    passes : sayable? number coordinates corners labels ≡ true
    passes =
        let n = n-is in
        let t = n-third in
        let m = m-is in
        let k = k-is in
        let few = h.in_range.points in
        let few' = h.in_range.triangles in
        tests.1 (record {
          known = h.known;
          threes = omega arith;
          few-points = omega arith;
          few-triangles = omega arith;
          together = omega arith;
          near = subst (Every (λ (z : ℤ). nat_abs z ≤ (edition number).most)) (sym h.coordinate-list) (coordinates_near (edition number).most s.points h.in_range.near);
        })

    same-sheet : list_sheet coordinates corners labels ≡ s
    same-sheet =
        let e = list-points coordinates (length coordinates / 3) s.points [] (h.coordinate-list ∙ sym (append-nil (coordinates_of s.points))) (sym n-third) in
        let f = list-triangles corners labels (length labels) s.triangles [] [] (h.corner-list ∙ sym (append-nil (corners_of s.triangles))) (h.label-list ∙ sym (append-nil (labels_of s.triangles))) (sym m-is) in
        λ i. record { points = e i; triangles = f i }

pub list-laws : ListLaws
list-laws = record { sayable = says; passes = passes; same = same-sheet }
