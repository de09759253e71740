-- What `read_whole` finds, from what was found in the edition told; and what its answer says. Assumes nothing.
use mathlib.Core.Path.{◌≡◌, subst}
use mathlib.Core.List.{List}
use Prim.Native.Nat.{ℕ, ◌≤◌}
use lib.IntN.{ℤ}
use Rattle.sheet.specs.Edition.{edition, edition_number}
use Rattle.sheet.specs.Contents.{contents, Says}
use Rattle.sheet.specs.Contents as Contents
use Rattle.sheet.specs.Stages.{IsSheet, NoSheet, TellsEdition, IsFound, found_is}
use Rattle.sheet.specs.declared.Found.{Found}
use Rattle.std.specs.Prelude.{Option, Some, None}
use Rattle.sheet.proofs.Contents.{contents-laws}

module _ (input : List ℕ) (number : ℕ) (told : TellsEdition input number) where
  pub none_found : NoSheet (edition number).opening (edition number).most input → contents input ≡ Contents.nothing
  none_found none = contents-laws.nothing input (λ n s says. let h = subst (λ (k : ℕ). Says input k s) (told.only n says.known s says.is-text) says in none s h.in_range h.is-text)

  pub sheet-found : (n m : ℕ) (z z' : List ℤ) (c c' l l' : List ℕ) → IsSheet (edition number).opening (edition number).most input n m z z' c c' l l' → IsFound input number n m z z' c c' l l'
  sheet-found n m z z' c c' l l' is = record {
    sheet = is.sheet;
    said = contents-laws.said input number is.sheet (record { known = told.known; in_range = is.in_range; is-text = is.is-text });
    n-points = is.n-points;
    m-triangles = is.m-triangles;
    coordinate-list = is.coordinate-list;
    corner-list = is.corner-list;
    label-list = is.label-list;
  }

module _ (input : List ℕ) (z z' : List ℤ) (c c' l l' : List ℕ) (r : Option Found) (h : found_is input z z' c c' l l' r) where
  pub nothing_said : r ≡ None → contents input ≡ Contents.nothing
  nothing_said e = subst (found_is input z z' c c' l l') e h

  module _ (found : Found) (e : r ≡ Some found) where
    pub is_found : IsFound input (edition_number found.edition) found.counts.points found.counts.triangles z z' c c' l l'
    is_found = subst (found_is input z z' c c' l l') e h

    pub sheet-said : Says input (edition_number found.edition) is_found.sheet
    sheet-said = contents-laws.says input (edition_number found.edition) is_found.sheet is_found.said

    pub few-points : found.counts.points ≤ 128
    few-points = subst (λ (k : ℕ). k ≤ 128) is_found.n-points sheet-said.in_range.points

    pub few-triangles : found.counts.triangles ≤ 256
    few-triangles = subst (λ (k : ℕ). k ≤ 256) is_found.m-triangles sheet-said.in_range.triangles
