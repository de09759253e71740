-- `collapsing::note_lists` meets its contract, by those of the functions that it calls.
use Rattle.collapsing.proofs.Lists.{note-marking, lists-made}
use Rattle.collapsing.proofs.note_lists.Goals as goal

pub mark_sides-requires : goal.mark_sides-requires
mark_sides-requires c =
    let chained = rw c.of-at.ensures at c.chain_at.ensures in
    let carried = rw c.of-at.ensures at c.mark_labels_at.ensures in
    rw c.of-at.ensures (note-marking c.args.corners.now c.args.labels.now c.args.heads c.args.work.now c.requires.lists c.requires.closed c.requires.heads_in_bounds _ _ c.list_sides-count.auto.work c.list_sides-count.ensures _ c.count_valences.auto.work c.count_valences.ensures _ c.chain_at.auto.work chained _ c.mark_labels_at.auto.work carried)

pub returns : goal.returns
returns c =
    let chained = rw c.of-at.ensures at c.chain_at.ensures in
    let carried = rw c.of-at.ensures at c.mark_labels_at.ensures in
    let lones = rw c.of-at.ensures at c.mark_sides.ensures in
    lists-made c.args.corners.now c.args.labels.now c.args.heads c.args.work.now c.requires.lists c.requires.closed c.requires.heads_in_bounds _ _ c.list_sides-count.auto.work c.list_sides-count.ensures _ c.count_valences.auto.work c.count_valences.ensures _ c.chain_at.auto.work chained _ c.mark_labels_at.auto.work carried _ lones
