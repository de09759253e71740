-- `collapsing::note_candidates` meets its contract, by those of the functions that it calls. Assumes nothing.
use Rattle.collapsing.proofs.Choosing.{choose_measurable, choose_pickable, chosen_is}
use Rattle.collapsing.proofs.note_candidates.Goals as goal

pub measure_sides-sum-requires : goal.measure_sides-sum-requires
measure_sides-sum-requires c =
    let weak = rw c.of-at.ensures at c.mark_weak.ensures in
    rw c.of-at.ensures (choose_measurable c.args.pass.now.points.now c.args.pass.now.terms.coefficients.now c.args.pass.now.terms.powers.now c.args.pass.now.corners.now c.args.pass.now.labels.now c.args.pass.now.heads c.args.count c.args.work.now c.requires.collapsible c.requires.noted _ c.mark_weak.auto.work weak)

pub pick_candidates-n-requires-clause-measurable : goal.pick_candidates-n-requires-clause-measurable
pick_candidates-n-requires-clause-measurable c =
    let weak = rw c.of-at.ensures at c.mark_weak.ensures in
    let lengths = rw c.of-at.ensures at c.measure_sides-sum.ensures in
    rw c.of-at.ensures (choose_pickable c.args.pass.now.points.now c.args.pass.now.terms.coefficients.now c.args.pass.now.terms.powers.now c.args.pass.now.corners.now c.args.pass.now.labels.now c.args.pass.now.heads c.args.count c.args.work.now c.requires.collapsible c.requires.noted _ c.mark_weak.auto.work weak _ _ c.measure_sides-sum.auto.work lengths)

pub returns : goal.returns
returns c =
    let weak = rw c.of-at.ensures at c.mark_weak.ensures in
    let lengths = rw c.of-at.ensures at c.measure_sides-sum.ensures in
    let picked = rw c.of-at.ensures at c.pick_candidates-n.ensures in
    let sorted = rw c.of-at.ensures at c.sort.ensures in
    chosen_is c.args.pass.now.points.now c.args.pass.now.terms.coefficients.now c.args.pass.now.terms.powers.now c.args.pass.now.corners.now c.args.pass.now.labels.now c.args.pass.now.heads c.args.count c.args.work.now c.requires.collapsible c.requires.noted _ c.mark_weak.auto.work weak _ _ c.measure_sides-sum.auto.work lengths _ _ c.pick_candidates-n.auto.work picked _ sorted
