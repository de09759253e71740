use Rattle.entries.proofs.Mapped.{mapping_start, mapping_reads, mapping_on, mapping_end}
use Rattle.entries.proofs.Backs.{listed-place}
use Rattle.entries.specs.Marks.{restored_by}
use Rattle.verdicts.specs.Notes.{On}
use Rattle.surface.specs.Triangle.{Tri}
use mathlib.Core.Path.{subst, sym}
use native.Mathlib.Omega.{arith}
use Rattle.entries.proofs.restore_all.Goals as goal

pub loop-i-init : goal.loop-i-init
loop-i-init c = mapping_start (restored_by c.args.points c.args.notes.now c.args.a c.args.b) c.args.n c.args.corners.now

pub triangle_at-t-requires : goal.triangle_at-t-requires
triangle_at-t-requires c = omega (arith, c.requires.listed.room, c.loop-i.invariant.size, c.loop-i-test.true)

pub restored_in-requires : goal.restored_in-requires
restored_in-requires c = (subst (λ (t : Tri). On c.args.points t) (sym (mapping_reads c.requires.listed.room c.loop-i.invariant c.loop-i-test.true c.triangle_at-t.result c.triangle_at-t.ensures)) (listed-place c.requires.listed c.loop-i.i c.loop-i-test.true), c.requires.notes_len)

pub put_triangle-requires : goal.put_triangle-requires
put_triangle-requires c = omega (arith, c.requires.listed.room, c.loop-i.invariant.size, c.loop-i-test.true)

pub loop-i-preserved : goal.loop-i-preserved
loop-i-preserved c = mapping_on c.requires.listed.room c.loop-i.invariant c.loop-i-test.true c.triangle_at-t.result c.triangle_at-t.ensures c.restored_in.result c.restored_in.ensures c.put_triangle.new.corners c.put_triangle.ensures

pub returns : goal.returns
returns c = mapping_end c.requires.listed.room c.loop-i.invariant c.loop-i-test.false
