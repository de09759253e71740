use Rattle.verdicts.proofs.Scan.{none_found}
use Rattle.verdicts.proofs.Triangles.absent.Goals as goal

pub returns : goal.returns
returns c = none_found c.args.x c.args.y c.first_on.result c.requires c.first_on.ensures c.is_none.result c.is_none.ensures
