use Rattle.entries.proofs.Moved.{label-put}
use Rattle.entries.proofs.Moved.{backward_lent}
use native.Mathlib.Omega.{arith}
use Rattle.entries.proofs.insert_label.Goals as goal

pub returns : goal.returns
returns c = label-put c.args.x (backward_lent c.args.p c.args.labels.now c.shift_back.new.part (omega (arith, c.requires)) (c.shift_back.ensures 0)) c.requires
