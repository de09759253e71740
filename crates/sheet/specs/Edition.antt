-- The two editions of the sheet (document 01, document 02's F-8): the unit of the coordinates, their range, and what stands before the counts. Definitions only.
use Rattle.std.specs.Prelude.{ℕ, ◌≡◌, ◌≤◌, Bool, true, false, ◌&&◌, List, [], ◌∷◌, ◌++◌, eqb, leb, Result, MatchResult}
use Rattle.sheet.specs.Text.{bytes, line}
use Rattle.sheet.specs.declared.Edition as declared
use Rattle.sheet.specs.declared.Edition.TheVariants.{First, Second}
use Rattle.sheet.specs.declared.Refusal.{Refusal}
use Rattle.sheet.specs.declared.Refusal.TheVariants.{NoSheet}

-- coordinates are whole numbers of 1/unit, within ±most; a sheet begins with `opening`, and its counts follow
pub record Edition : Type 0 where
  pub unit : ℕ
  pub most : ℕ
  pub opening : List ℕ

-- a line of names
abbrev pub first_edition : Edition
first_edition = record { unit = 1024; most = 32768; opening = line (bytes "points" ∷ bytes "triangles" ∷ []) }

-- a line of names, one of them for the edition, whose value is 2
abbrev pub second_edition : Edition
second_edition = record { unit = 65536; most = 2097152; opening = line (bytes "edition" ∷ bytes "points" ∷ bytes "triangles" ∷ []) ++ bytes "2 " }

-- the numbers of the editions
abbrev pub IsEdition : ℕ → Type 0
IsEdition number = (1 ≤ number) × (number ≤ 2)

abbrev pub is_edition? : ℕ → Bool
is_edition? number = leb 1 number && leb number 2

-- the edition with that number (no other number's is asked for)
abbrev pub edition : ℕ → Edition
edition number = elim (eqb number 2) [ true ↦ second_edition | false ↦ first_edition ]

-- ---- the editions as the functions of `src/` have them

abbrev pub edition_number : declared.Edition → ℕ
edition_number First = 1
edition_number Second = 2

abbrev pub rules_of : declared.Edition → Edition
rules_of e = edition (edition_number e)

-- the edition with that number, or a refusal where no edition has it
abbrev pub NamesEdition : ℕ → Result declared.Edition Refusal → Type 0
NamesEdition number r = MatchResult r (λ e. edition_number e ≡ number) (λ why. (why ≡ NoSheet) × (IsEdition number → ⊥))
