-- `renumber::load_point` meets its contract. Assumes nothing.
use native.Mathlib.Omega.{arith}
use lib.ListN.{length-set}
use Rattle.renumber.proofs.Numbering.{loaded-is}
use Rattle.renumber.proofs.load_point.Goals as goal

pub bounds-points-q-2 : goal.bounds-points-q-2
bounds-points-q-2 c = simp length-set (omega arith)

pub returns : goal.returns
returns c =
    loaded-is c.args.points.now c.args.work.now c.args.saved c.args.v c.args.q _ _ _ c.get_float.ensures c.get_float-2.ensures c.get_float-3.ensures
