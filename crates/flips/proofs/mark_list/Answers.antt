-- `flips::mark_list` meets its contract, by those of the functions that it calls. Assumes nothing.
use Rattle.flips.proofs.Stages.{list-marking, list-made}
use Rattle.flips.proofs.mark_list.Goals as goal

pub mark_across-requires : goal.mark_across-requires
mark_across-requires c =
    list-marking c.args.corners.now c.args.heads c.args.work.now c.requires.lists c.requires.closed c.requires.corners_in_bounds _ _ c.list_sides-count.auto.work c.list_sides-count.ensures _ c.count_valences.auto.work c.count_valences.ensures _ c.chain_at.auto.work c.chain_at.ensures

pub returns : goal.returns
returns c =
    list-made c.args.corners.now c.args.heads c.args.work.now c.requires.lists c.requires.closed c.requires.corners_in_bounds _ _ c.list_sides-count.auto.work c.list_sides-count.ensures _ c.count_valences.auto.work c.count_valences.ensures _ c.chain_at.auto.work c.chain_at.ensures _ c.mark_across.ensures
