use mathlib.Core.Path.{◌≡◌, refl, sym, ◌∙◌}
use native.Mathlib.Omega.{arith}
use borrow.Author.Rules.{rules}
use Rattle.verdicts.proofs.Find.{scan_hit, scan_miss, scan_end}
use Rattle.verdicts.proofs.Triangles.first_on.Goals as goal

pub loop-i-init : goal.loop-i-init
loop-i-init c = (search rules, refl)

pub returns-then-has_side : goal.returns-then-has_side
returns-then-has_side c = (
  scan_hit c.args.self.now.corners.now c.args.self.now.count c.args.a c.args.b c.loop-i.i _ c.requires.0 c.loop-i.invariant.1 c.loop-i-test.true
      c.triangle_at.result c.triangle_at.ensures c.has_side.result c.has_side.ensures c.if-has_side.true,
  c.loop-i-test.true,
)

pub loop-i-preserved : goal.loop-i-preserved
loop-i-preserved c = (
  search rules,
  scan_miss c.args.self.now.corners.now c.args.self.now.count c.args.a c.args.b c.loop-i.i _ c.requires.0 c.loop-i.invariant.1 c.loop-i-test.true
      c.triangle_at.result c.triangle_at.ensures c.has_side.result c.has_side.ensures c.if-has_side.false,
)

pub returns : goal.returns
returns c =
    let e : c.loop-i.i ≡ c.args.self.now.count = omega arith in
    sym (scan_end c.args.self.now.corners.now c.args.self.now.count c.args.a c.args.b c.loop-i.i _ c.requires.0 c.loop-i.invariant.1 c.loop-i.invariant.0 c.loop-i-test.false) ∙ e
