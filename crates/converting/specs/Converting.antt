-- What comes of converting (document 02, F-8): the sheet in the edition asked for, or a refusal: no sheet for what is none and for an edition that there is not, then inexact for a coordinate that its unit does not have; no room, for too short a list, is last (`Leaves` of `writing`). Definitions only.
use Rattle.std.specs.Prelude.{ℕ, cond}
use Rattle.sheet.specs.Edition.{edition, is_edition?}
use Rattle.sheet.specs.Sheet.{Sheet, text}
use Rattle.sheet.specs.Contents.{Contents}
use Rattle.sheet.specs.Conversion.{convertible?, sheet_in_unit}
use Rattle.sheet.specs.declared.Refusal.TheVariants.{NoSheet, Inexact}
use Rattle.writing.specs.Written.{Writing, written, refused}

abbrev pub unit_of : ℕ → ℕ
unit_of number = (edition number).unit

-- a sheet of one edition, in another
abbrev pub sheet_conversion : (number asked : ℕ) → Sheet → Writing
sheet_conversion number asked s = cond (convertible? (unit_of number) (unit_of asked) s) (written (text (edition asked) (sheet_in_unit (unit_of number) (unit_of asked) s))) (refused Inexact)

abbrev pub conversion : Contents → (asked : ℕ) → Writing
conversion Contents.nothing asked = refused NoSheet
conversion (Contents.sheet number s) asked = cond (is_edition? asked) (sheet_conversion number asked s) (refused NoSheet)
