-- `surface::put_triangle` meets its contract.
use lib.ListN.{length-set}
use borrow.Author.Rules.{rules}
use Rattle.surface.proofs.put_triangle.Goals as goal

pub bounds-corners-k-2 : goal.bounds-corners-k-2
bounds-corners-k-2 c = simp length-set (search rules)
