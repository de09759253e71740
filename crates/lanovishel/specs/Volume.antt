-- Page twelve's next printing, of calls of `lanovishel_check`: the laws of `volume` hold of `Answered`. Definition only; `call-laws` of `proofs/Volume` proves `ReportLaws Answered`.
use Rattle.std.specs.Prelude.{ℕ, ◌<◌, List, [], ◌∷◌, length, Float}
use Rattle.units.specs.Units.{AllOnUnits}
use Rattle.lanovishel.specs.Check.{Checked}

-- a call that answers 0, on at least one triangle, with all coordinates whole units in range; its second number is the reported volume
pub record Answered (points : List Float) (corners : List ℕ) (volume : Float) : Type 0 where
  pub labels : List ℕ
  pub work : List ℕ
  pub work' : List ℕ
  pub place' : List ℕ
  pub quality : Float
  pub call : Checked points corners labels work work' (quality ∷ volume ∷ []) place' 0
  pub some : 0 < length corners
  pub units : AllOnUnits points
