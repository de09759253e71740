use Rattle.entries.proofs.Edits.{two_puts}
use Rattle.entries.proofs.unflip.Goals as goal

pub returns : goal.returns
returns c = two_puts c.args.corners.now c.wide-i.ensures c.wide-j.ensures c.first_of.ensures c.second_of.ensures c.put_triangle.ensures c.put_triangle-2.ensures
