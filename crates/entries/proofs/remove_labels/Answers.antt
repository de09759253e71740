-- `entries::remove_labels` meets its contract, as `remove_triangles` does.
use Rattle.entries.proofs.TakenOut.{taken_out}
use native.Mathlib.Omega.{arith}
use Rattle.entries.proofs.remove_labels.Goals as goal

pub returns : goal.returns
returns c =
    taken_out c.args.p c.args.q 1 c.args.labels.now c.shift_forward.new.part (omega arith) (omega arith) c.shift_forward.ensures c.shift_forward-2.new.part c.shift_forward-2.ensures
