-- `collapsing::note_collapses` meets its contract: the stages in their order.
use Rattle.oracle.specs.Scene.{scene}
use Rattle.collapsing.proofs.Whole.{pass-ready, pass_items, pass-collapsed}
use Rattle.collapsing.proofs.note_collapses.Goals as goal

pub collapse_candidates-requires-clause-ready : goal.collapse_candidates-requires-clause-ready
collapse_candidates-requires-clause-ready c =
    let clean = rw c.of-at.ensures at c.begin_collapses.ensures in
    rw c.of-at.ensures (pass-ready c.args.points.now c.args.corners.now c.args.labels.now c.args.heads c.args.work.now c.requires (scene c.args.points.now c.args.terms.now.coefficients.now c.args.terms.now.powers.now) _ _ _ _ _ c.note_lists-count.auto.work c.note_candidates-n.auto.work c.begin_collapses.auto.work c.note_lists-count.ensures.noted c.note_candidates-n.ensures clean)

pub collapse_candidates-requires-clause-items : goal.collapse_candidates-requires-clause-items
collapse_candidates-requires-clause-items c =
    let clean = rw c.of-at.ensures at c.begin_collapses.ensures in
    rw c.of-at.ensures (pass_items c.args.points.now c.args.corners.now c.args.labels.now c.args.heads c.args.work.now c.requires (scene c.args.points.now c.args.terms.now.coefficients.now c.args.terms.now.powers.now) _ _ _ _ _ c.note_lists-count.auto.work c.note_candidates-n.auto.work c.begin_collapses.auto.work c.note_lists-count.ensures.noted c.note_candidates-n.ensures clean)

pub returns : goal.returns
returns c =
    let clean = rw c.of-at.ensures at c.begin_collapses.ensures in
    let passed = rw c.of-at.ensures at c.collapse_candidates.ensures in
    pass-collapsed c.args.points.now c.args.corners.now c.args.labels.now c.args.heads c.args.work.now c.requires (scene c.args.points.now c.args.terms.now.coefficients.now c.args.terms.now.powers.now) _ _ _ _ _ c.note_lists-count.auto.work c.note_candidates-n.auto.work c.begin_collapses.auto.work c.note_lists-count.ensures.noted c.note_candidates-n.ensures clean _ passed c.note_lists-count.ensures.rest
