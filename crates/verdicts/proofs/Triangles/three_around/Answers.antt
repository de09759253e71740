-- `verdicts::three_around` meets its contract: the triangles around v that were passed, at most three, and those to come.
use Rattle.verdicts.proofs.Scan.{count-on, count_stop, count_end}
use borrow.Author.Rules.{rules}
use native.Mathlib.Omega.{arith}
use Rattle.verdicts.proofs.Triangles.three_around.Goals as goal

pub loop-i-init : goal.loop-i-init
loop-i-init c = (search rules, search rules, omega arith)

pub returns-then-s-gt3 : goal.returns-then-s-gt3
returns-then-s-gt3 c =
    count_stop c.args.self.now.corners.now c.args.self.now.count c.loop-i.i c.args.v c.requires c.loop-i-test.true c.triangle_at.result c.triangle_at.ensures
    c.loop-i.s c.named_in-s.result _ c.loop-i.invariant.2 c.named_in-s.ensures.0 c.if-s-gt3.true

pub loop-i-preserved : goal.loop-i-preserved
loop-i-preserved c = (
  search rules,
  search rules,
  count-on c.args.self.now.corners.now c.args.self.now.count c.loop-i.i c.args.v c.requires c.loop-i-test.true c.triangle_at.result c.triangle_at.ensures
      c.loop-i.s c.named_in-s.result _ c.loop-i.invariant.2 c.named_in-s.ensures.0,
)

pub returns : goal.returns
returns c =
    count_end c.args.self.now.corners.now c.args.self.now.count c.loop-i.i c.args.v c.loop-i.s _ c.requires c.loop-i.invariant.0 c.loop-i-test.false c.loop-i.invariant.2
