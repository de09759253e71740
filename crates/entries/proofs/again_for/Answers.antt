use Rattle.entries.proofs.Marks.{again_other, again-left, again-marked}
use Rattle.entries.proofs.again_for.Goals as goal

pub returns-then-x-a : goal.returns-then-x-a
returns-then-x-a c = again_other c.args.points c.args.notes.now c.args.a c.args.b c.args.x c.args.y c.if-x-a.true

pub returns-then-notes-points-eq0 : goal.returns-then-notes-points-eq0
returns-then-notes-points-eq0 c = again-left c.args.points c.args.notes.now c.args.a c.args.b c.args.x c.args.y c.wide.result c.wide.ensures c.if-notes-points-eq0.true

pub returns-else-notes-points-eq0 : goal.returns-else-notes-points-eq0
returns-else-notes-points-eq0 c = again-marked c.args.points c.args.notes.now c.args.a c.args.b c.args.x c.args.y c.wide.result c.wide.ensures c.if-x-a.false c.if-notes-points-eq0.false
