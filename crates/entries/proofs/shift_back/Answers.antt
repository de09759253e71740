use Rattle.entries.proofs.Moved.{sinking_start, sinking_on, sinking_end}
use Rattle.entries.proofs.shift_back.Goals as goal

pub loop-i-init : goal.loop-i-init
loop-i-init g c = sinking_start c.args.by c.args.part.now c.requires.1

pub loop-i-preserved : goal.loop-i-preserved
loop-i-preserved g c = sinking_on c.loop-i.invariant c.loop-i-test.true c.requires.0 c.index-part-i.result c.index-part-i.is

pub returns : goal.returns
returns g c = sinking_end c.loop-i.invariant c.loop-i-test.false
