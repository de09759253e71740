-- `marks::chain_at` meets its contract: the words from `chains` on are lent to `chain_places`, and come back.
use mathlib.Core.Path.{refl}
use Rattle.chains.proofs.Clear.{chained-at}
use Rattle.marks.proofs.chain_at.Goals as goal

pub returns : goal.returns
returns c =
    chained-at c.args.corners.now c.args.points c.args.chains c.args.work.now _ _ c.requires.corners_in_bounds c.chain_places.ensures refl
