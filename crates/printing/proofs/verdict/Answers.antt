-- `printing::verdict` meets its contract. Assumes nothing.
use native.Mathlib.Omega.{arith}
use mathlib.Core.Path.{◌∙◌}
use Rattle.printing.proofs.Reading.{fits, sheet-verdict, no_sheet}
use Rattle.printing.proofs.verdict.Goals as goal

pub returns-in_default : goal.returns-in_default
returns-in_default c = no_sheet _ _ _ _ _ _ _ _ c.read.ensures (omega arith) (omega arith) (omega arith) _ c.in_default.is

pub overflow_mul-points : goal.overflow_mul-points
overflow_mul-points c = let f = fits _ _ _ _ _ _ _ _ c.read.ensures _ c.in-Ok.is in omega arith

pub slice_bounds-points-end : goal.slice_bounds-points-end
slice_bounds-points-end c = (fits _ _ _ _ _ _ _ _ c.read.ensures _ c.in-Ok.is).points

pub overflow_mul-corners : goal.overflow_mul-corners
overflow_mul-corners c = let f = fits _ _ _ _ _ _ _ _ c.read.ensures _ c.in-Ok.is in omega arith

pub slice_bounds-corners-end : goal.slice_bounds-corners-end
slice_bounds-corners-end c = (fits _ _ _ _ _ _ _ _ c.read.ensures _ c.in-Ok.is).corners

pub slice_bounds-labels-end : goal.slice_bounds-labels-end
slice_bounds-labels-end c = (fits _ _ _ _ _ _ _ _ c.read.ensures _ c.in-Ok.is).labels

pub returns : goal.returns
returns c =
    c.validate.ensures.answer ∙ sheet-verdict _ _ _ _ _ _ _ _ c.read.ensures _ c.in-Ok.is _ (omega arith)
