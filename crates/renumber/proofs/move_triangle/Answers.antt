-- `renumber::move_triangle` meets its contract. Assumes nothing.
use mathlib.Core.Path.{refl}
use native.Mathlib.Omega.{arith}
use lib.ListN.{length-set}
use Rattle.renumber.proofs.Dropping.{moved-is}
use Rattle.renumber.proofs.move_triangle.Goals as goal

pub bounds-corners-q-2 : goal.bounds-corners-q-2
bounds-corners-q-2 c = simp length-set (omega arith)

pub bounds-corners-q-3 : goal.bounds-corners-q-3
bounds-corners-q-3 c = simp length-set (omega arith)

pub returns : goal.returns
returns c =
    record {
      corners = moved-is c.args.corners.now c.args.work.now c.args.into c.args.i c.args.q _ _ _ c.wide.ensures c.wide-2.ensures c.wide-3.ensures;
      labels = refl;
    }
