-- `questions::mark_labels` meets its contract: at the loop's head the places passed are marked, and none of them clash.
use mathlib.Core.Path.{refl}
use Rattle.questions.proofs.Marks.{marks-none, marking-stops, marking-on, marking-ends}
use Rattle.questions.proofs.mark_labels.Goals as goal

pub loop-k-init : goal.loop-k-init
loop-k-init c = record { as-many = refl; far = refl; marks = marks-none _ _ _ _ c.requires.by_index }

pub returns-then-other-eq1 : goal.returns-then-other-eq1
returns-then-other-eq1 c = marking-stops c.requires.listed c.loop-k.invariant c.loop-k-test.true c.wide-v.ensures c.from-l.ensures c.opposed.ensures c.if-other-eq1.true

pub loop-k-preserved : goal.loop-k-preserved
loop-k-preserved c = marking-on c.requires.listed c.loop-k.invariant c.loop-k-test.true c.wide-v.ensures c.from-l.ensures c.opposed.ensures c.if-other-eq1.false

pub returns : goal.returns
returns c = marking-ends c.requires.listed c.loop-k.invariant c.loop-k-test.false
