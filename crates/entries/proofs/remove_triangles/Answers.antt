-- `entries::remove_triangles` meets its contract: two shifts of lent parts are the two pieces taken out.
use Rattle.entries.proofs.TakenOut.{taken_out}
use native.Mathlib.Omega.{arith}
use Prim.Native.Nat.{◌*◌}
use Rattle.entries.proofs.remove_triangles.Goals as goal

pub returns : goal.returns
returns c =
    taken_out (3 * c.args.p) (3 * c.args.q) 3 c.args.corners.now c.shift_forward.new.part (omega arith) (omega arith) c.shift_forward.ensures c.shift_forward-2.new.part c.shift_forward-2.ensures
