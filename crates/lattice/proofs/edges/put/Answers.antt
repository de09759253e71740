-- `lattice::edges::put` meets its contract. A store past the end changes nothing. Assumes nothing.
use mathlib.Core.Path.{sym}
use lib.Seq.{set_out}
use Rattle.lattice.proofs.edges.put.Goals as goal

pub returns-else-i-list : goal.returns-else-i-list
returns-else-i-list c = sym (set_out c.args.list.now c.args.i c.args.x c.if-i-list.false)
