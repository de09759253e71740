use Rattle.entries.proofs.Backs.{uncollapse_by}
use Rattle.surface.specs.Flat.{tri_of}
use Rattle.entries.proofs.uncollapse.Goals as goal

pub returns : goal.returns
returns c = uncollapse_by c.requires.uncollapses c.requires.listed c.mark_walk.new.notes c.walk_of-x.result.0 c.walk_of-x.result.1 c.wide-i.result c.wide-j.result (tri_of c.first_of.result) (tri_of c.second_of.result) c.walk_of-x.ensures.0 c.walk_of-x.ensures.1 c.wide-i.ensures c.wide-j.ensures c.first_of.ensures c.second_of.ensures c.mark_walk.ensures c.restore_all.ensures c.insert_triangle.ensures c.insert_triangle-2.ensures c.insert_label.ensures c.insert_label-2.ensures
