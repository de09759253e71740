-- `float::clamp` meets its contract. Assumes nothing.
use mathlib.Core.Bool.{true, false}
use Rattle.float.proofs.Cases.{within_low, within_test}
use Rattle.float.proofs.clamp.Goals as goal

pub returns-then-a-lo : goal.returns-then-a-lo
returns-then-a-lo c = within_low c.args.a c.args.lo c.args.hi c.if-a-lo.true

pub returns-then-hi-a : goal.returns-then-hi-a
returns-then-hi-a c = within_test c.args.a c.args.lo c.args.hi true c.if-a-lo.false c.if-hi-a.true

pub returns-else-hi-a : goal.returns-else-hi-a
returns-else-hi-a c = within_test c.args.a c.args.lo c.args.hi false c.if-a-lo.false c.if-hi-a.false
