-- The refusals of calls on sheets, by their numbers. Definitions only.
use Rattle.std.specs.Prelude.{ℕ}
use Rattle.sheet.specs.declared.Refusal.{Refusal}
use Rattle.sheet.specs.declared.Refusal.TheVariants.{NoSheet, NoRoom, Inexact}

-- 16 for what is no sheet of an edition that there is, 35 for too short a list, 38 for a coordinate that the unit asked for does not have
abbrev pub refusal_number : Refusal → ℕ
refusal_number NoSheet = 16
refusal_number NoRoom = 35
refusal_number Inexact = 38
