-- `editing::read_record` meets its contract.
use Prim.Native.Nat.{◌*◌}
use native.Mathlib.Omega.{arith}
use Rattle.editing.proofs.Journal.{twelve}
use Rattle.editing.proofs.read_record.Goals as goal

pub returns : goal.returns
returns c = twelve c.args.journal.now (12 * c.args.k) (omega arith)
