use borrow.Author.Rules.{rules}
use Rattle.verdicts.proofs.Scan.{all_stop, all-on, drop_end}
use Rattle.verdicts.proofs.Notes.{listed-on}
use Rattle.verdicts.specs.Notes.{apart_by}
use Rattle.surface.specs.Check.{every}
use Rattle.surface.specs.Closed.{Step}
use mathlib.Core.Path.{refl, sym, ◌∙◌, ap}
use Rattle.verdicts.proofs.Triangles.all_apart.Goals as goal

pub loop-i-init : goal.loop-i-init
loop-i-init c = (search rules, refl)

pub apart_in-requires : goal.apart_in-requires
apart_in-requires c = listed-on c.requires c.loop-i.i c.loop-i-test.true c.triangle_at.result c.triangle_at.ensures

pub returns-then-not-apart_in : goal.returns-then-not-apart_in
returns-then-not-apart_in c = all_stop c.args.self.now.corners.now c.args.self.now.count c.loop-i.i c.args.a c.requires.room c.loop-i-test.true c.triangle_at.result c.triangle_at.ensures
    (λ (s : Step). apart_by c.args.notes.now c.args.c c.args.d s.from) _ c.loop-i.invariant.1 c.apart_in.result c.apart_in.ensures (c.if-not-apart_in.true)

pub loop-i-preserved : goal.loop-i-preserved
loop-i-preserved c = (
  search rules,
  all-on c.args.self.now.corners.now c.args.self.now.count c.loop-i.i c.args.a c.requires.room c.loop-i-test.true c.triangle_at.result c.triangle_at.ensures
      (λ (s : Step). apart_by c.args.notes.now c.args.c c.args.d s.from) _ c.loop-i.invariant.1 c.apart_in.result c.apart_in.ensures (c.if-not-apart_in.false),
)

pub returns : goal.returns
unfolding every
returns c = sym (ap (every (λ (s : Step). apart_by c.args.notes.now c.args.c c.args.d s.from)) (drop_end c.args.self.now.corners.now c.args.self.now.count c.loop-i.i c.args.a c.requires.room c.loop-i.invariant.0 c.loop-i-test.false)) ∙ c.loop-i.invariant.1
