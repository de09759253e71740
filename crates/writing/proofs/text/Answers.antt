-- `writing::text` meets its contract.
use Rattle.std.proofs.Common.{arith, rules}
use Rattle.sheet.specs.Edition.{edition}
use Rattle.writing.proofs.Parts.{sheet-put}
use Rattle.writing.proofs.text.Goals as goal

pub returns : goal.returns
returns c =
    let head = rw c.of.ensures at c.head.ensures.put in
    search (rules, sheet-put (edition c.args.number).opening c.args.n c.args.m c.args.coordinates.now c.args.corners.now c.args.labels.now (omega arith) (omega arith) head c.all_points.ensures.put c.word.ensures.put c.all_triangles.ensures.put)
