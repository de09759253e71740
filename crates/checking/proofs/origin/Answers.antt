-- `checking::origin` meets its contract: with fewer than three values there is no point. Assumes nothing.
use native.Mathlib.Omega.{arith}
use Rattle.checking.proofs.origin.Goals as goal

pub returns-then-points-lt3 : goal.returns-then-points-lt3
returns-then-points-lt3 c h = absurd (omega arith)
