-- `outlines::crossed_sides` meets its contract.
use Rattle.outlines.proofs.Preparing.{arranged, prepared}
use Rattle.outlines.proofs.crossed_sides.Goals as goal

pub count_sides-requires : goal.count_sides-requires
count_sides-requires c = arranged (c.args.corners.now) (c.args.points) (c.args.work.now) (c.list_sides-count.new.work) (c.clear_marks.new.work) c.list_sides-count.result c.requires c.list_sides-count.auto.work c.list_sides-count.ensures c.clear_marks.auto.work c.clear_marks.ensures.under

pub returns : goal.returns
returns c = prepared (c.args.corners.now) (c.args.points) (c.args.work.now) (c.list_sides-count.new.work) (c.clear_marks.new.work) c.list_sides-count.result c.requires c.list_sides-count.auto.work c.list_sides-count.ensures c.clear_marks.auto.work c.clear_marks.ensures c.count_sides.result c.count_sides.ensures
