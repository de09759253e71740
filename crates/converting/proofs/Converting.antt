-- What `convert` leaves, by what was found. Assumes nothing.
use mathlib.Core.Path.{◌≡◌, refl, sym, ap, ◌∙◌, subst}
use mathlib.Core.Bool.{Bool, false, ◌&&◌, cond, and_assoc}
use mathlib.Core.List.{List, [], ◌∷◌, ◌++◌, map}
use Prim.Native.Nat.{ℕ, ◌*◌, ◌≤◌, ◌<◌}
use native.Mathlib.Omega.{arith}
use lib.IntN.{ℤ, pos, nat_abs}
use lib.ListN.{length, get_or, take, drop, replicate, length-map, get_or-append}
use lib.Seq.{take_at}
use Rattle.surface.specs.Check.{every}
use Rattle.sheet.specs.Edition.{edition, IsEdition, is_edition?}
use Rattle.sheet.specs.Sheet.{Point, Sheet, text, coordinates_of}
use Rattle.sheet.specs.Contents.{Contents, Says, contents}
use Rattle.sheet.specs.Conversion.{fits?, in_unit, point_fits?, point_in_unit, convertible?, sheet_in_unit}
use Rattle.sheet.specs.Stages.{IsFound}
use Rattle.sheet.proofs.Contents.{contents-laws}
use Rattle.sheet.proofs.Stores.{length_coordinates}
use Rattle.sheet.proofs.Tests.{both-mean, le_means, fails}
use Rattle.writing.specs.Lists.{sheet_front}
use Rattle.writing.specs.Written.{Writing, written, refused, Leaves}
use Rattle.std.specs.Prelude.{Result, Err}
use Rattle.sheet.specs.declared.Refusal.{Refusal}
use Rattle.sheet.specs.declared.Refusal.TheVariants.{NoSheet, Inexact}
use Rattle.writing.proofs.Settling.{refused-leaves}
use Rattle.writing.proofs.Threes.{every-at, coordinates_near, list-points, list-triangles}
use Rattle.converting.specs.Converting.{unit_of, sheet_conversion, conversion}
use Rattle.converting.specs.Stages.{TurnedFirst}

-- ---- refusals

module _ (asked : ℕ) (list list' : List ℕ) (cleared : list' ≡ replicate (length list) 0) where
  pub leaves_no_edition : (c : Contents) → (IsEdition asked → ⊥) → Leaves (conversion c asked) list list' (Err NoSheet)
  leaves_no_edition c n = refused-leaves (conversion c asked) NoSheet list list' (says c (fails (both-mean (le_means 1 asked) (le_means asked 2)) n)) cleared
    where
      says : (c : Contents) → is_edition? asked ≡ false → conversion c asked ≡ refused NoSheet
      says Contents.nothing e = refl
      says (Contents.sheet number s) e = ap (λ (t : Bool). cond t (sheet_conversion number asked s) (refused NoSheet)) e

  pub leaves_nothing : (c : Contents) → c ≡ Contents.nothing → Leaves (conversion c asked) list list' (Err NoSheet)
  leaves_nothing c e = refused-leaves (conversion c asked) NoSheet list list' (ap (λ (d : Contents). conversion d asked) e) cleared

-- ---- point by point, and coordinate by coordinate

module _ (u v : ℕ) where
  coordinates_turned : (ps : List Point) → map (in_unit u v) (coordinates_of ps) ≡ coordinates_of (map (point_in_unit u v) ps)
  coordinates_turned [] = refl
  coordinates_turned (p ∷ ps) = ap (λ (t : List ℤ). in_unit u v p.x ∷ in_unit u v p.y ∷ in_unit u v p.z ∷ t) (coordinates_turned ps)

  coordinates_fit : (ps : List Point) → every (fits? u v) (coordinates_of ps) ≡ every (point_fits? u v) ps
  unfolding every
  coordinates_fit [] = refl
  coordinates_fit (p ∷ ps) =
      let x = fits? u v p.x in
      let y = fits? u v p.y in
      let z = fits? u v p.z in
      let rest = every (point_fits? u v) ps in
      ap (λ (t : Bool). x && (y && (z && t))) (coordinates_fit ps) ∙ sym (and_assoc x (y && z) rest ∙ ap (λ (t : Bool). x && t) (and_assoc y z rest))

-- ---- a sheet that was found, and turned

module _ (input : List ℕ) (from asked n m : ℕ) (z z' : List ℤ) (c c' l l' : List ℕ) (f : IsFound input from n m z z' c c' l l') where
  s : Sheet
  s = f.sheet

  found-said : Says input from s
  unfolding s
  found-said = contents-laws.says input from f.sheet f.said

  long : length (coordinates_of s.points) ≡ n * 3
  unfolding s
  long = length_coordinates s.points ∙ ap (λ (k : ℕ). k * 3) f.n-points

  -- each coordinate is in range
  pub near : (k : ℕ) → k < n * 3 → nat_abs (get_or z' k (pos 0)) ≤ (edition from).most
  unfolding s
  near k h =
      let e : get_or z' k (pos 0) ≡ get_or (coordinates_of s.points) k (pos 0) = ap (λ (t : List ℤ). get_or t k (pos 0)) f.coordinate-list ∙ get_or-append (coordinates_of s.points) (drop (n * 3) z) (pos 0) k (omega (arith, long)) in
      subst (λ (x : ℤ). nat_abs x ≤ (edition from).most) (sym e) (every-at (λ (x : ℤ). nat_abs x ≤ (edition from).most) (coordinates_of s.points) (pos 0) (coordinates_near (edition from).most s.points found-said.in_range.near) k (omega (arith, long)))

  module _ (w : List ℤ) (r : Bool) (t : TurnedFirst from asked (n * 3) z' w r) where
    taken : take (n * 3) z' ≡ coordinates_of s.points
    unfolding s
    taken = ap (take (n * 3)) f.coordinate-list ∙ take_at (coordinates_of s.points) (drop (n * 3) z) (n * 3) long

    turned : w ≡ coordinates_of (map (point_in_unit (unit_of from) (unit_of asked)) s.points) ++ drop (n * 3) z'
    turned = t.stored ∙ ap (λ (k : List ℤ). k ++ drop (n * 3) z') (ap (map (in_unit (unit_of from) (unit_of asked))) taken ∙ coordinates_turned (unit_of from) (unit_of asked) s.points)

    front : sheet_front n m w c' l' ≡ sheet_in_unit (unit_of from) (unit_of asked) s
    unfolding s
    front =
        let p = list-points w n (map (point_in_unit (unit_of from) (unit_of asked)) s.points) (drop (n * 3) z') turned (length-map s.points (point_in_unit (unit_of from) (unit_of asked)) ∙ f.n-points) in
        let q = list-triangles c' l' m s.triangles (drop (m * 3) c) (drop m l) f.corner-list f.label-list f.m-triangles in
        λ i. record { points = p i; triangles = q i }

    exact : r ≡ convertible? (unit_of from) (unit_of asked) s
    unfolding convertible?
    exact = t.same ∙ ap (every (fits? (unit_of from) (unit_of asked))) taken ∙ coordinates_fit (unit_of from) (unit_of asked) s.points

    converts : IsEdition asked → cond r (written (text (edition asked) (sheet_front n m w c' l'))) (refused Inexact) ≡ conversion (contents input) asked
    unfolding s
    converts k =
        (λ i. cond (exact i) (written (text (edition asked) (front i))) (refused Inexact))
        ∙ sym (ap (λ (b : Bool). cond b (sheet_conversion from asked s) (refused NoSheet)) ((both-mean (le_means 1 asked) (le_means asked 2)).1 k))
        ∙ sym (ap (λ (d : Contents). conversion d asked) f.said)

    pub leaves-conversion : IsEdition asked → (list list' : List ℕ) (answer : Result ℕ Refusal) → Leaves (cond r (written (text (edition asked) (sheet_front n m w c' l'))) (refused Inexact)) list list' answer → Leaves (conversion (contents input) asked) list list' answer
    leaves-conversion k list list' answer h = subst (λ (x : Writing). Leaves x list list' answer) (converts k) h
