-- `collapsing::mark_labels_at` meets its contract: the words from `carried` on are lent to `mark_labels`, and come back.
use mathlib.Core.Path.{refl}
use Rattle.collapsing.proofs.Lists.{carried_at}
use Rattle.collapsing.proofs.mark_labels_at.Goals as goal

pub returns : goal.returns
returns c =
    carried_at c.args.corners.now c.args.labels.now c.args.heads c.args.carried c.args.work.now _ _ c.requires.heads_in_bounds c.mark_labels.ensures refl
