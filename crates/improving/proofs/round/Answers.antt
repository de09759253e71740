-- `improving::round` meets its contract.
use Rattle.improving.proofs.Parts.{part_flippable, part-rounded}
use Rattle.improving.proofs.round.Goals as goal

pub flip_sides-flips-requires : goal.flip_sides-flips-requires
flip_sides-flips-requires c =
    part_flippable c.args.points.now c.args.terms.now.coefficients.now c.args.terms.now.powers.now c.args.corners.now c.args.labels.now c.args.work.now c.requires _ _ c.collapse_slivers-n.new.work _ c.collapse_slivers-n.auto.corners c.collapse_slivers-n.auto.labels c.collapse_slivers-n.auto.work c.collapse_slivers-n.ensures _ _ c.number_by_use-p.new.work _ c.number_by_use-p.auto.corners c.number_by_use-p.auto.work c.number_by_use-p.ensures

pub returns : goal.returns
returns c =
    part-rounded c.args.points.now c.args.terms.now.coefficients.now c.args.terms.now.powers.now c.args.corners.now c.args.labels.now c.args.work.now c.requires _ _ c.collapse_slivers-n.new.work _ c.collapse_slivers-n.auto.corners c.collapse_slivers-n.auto.labels c.collapse_slivers-n.auto.work c.collapse_slivers-n.ensures _ _ c.number_by_use-p.new.work _ c.number_by_use-p.auto.corners c.number_by_use-p.auto.work c.number_by_use-p.ensures _ _ c.flip_sides-flips.auto.corners c.flip_sides-flips.ensures
