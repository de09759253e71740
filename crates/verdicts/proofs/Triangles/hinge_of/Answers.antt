use mathlib.Core.Path.{◌≡◌, refl}
use mathlib.Core.Bool.{cond}
use Rattle.verdicts.proofs.Triangles.hinge_of.Goals.{then-runs_to, else-runs_to}
use native.Mathlib.Omega.{arith}
use Rattle.verdicts.proofs.Find.{later_some, later_at, hinge-made}
use Rattle.verdicts.proofs.Triangles.hinge_of.Goals as goal

pub unwrap-later-requires : goal.unwrap-later-requires
unwrap-later-requires c = later_some c.first_on.result c.requires c.first_on.ensures

pub triangle_at-s-requires : goal.triangle_at-s-requires
triangle_at-s-requires c =
    let q = later_at c.args.self.now.corners.now c.args.self.now.count c.args.earlier c.args.a c.args.b c.unwrap-later.ensures c.first_on.ensures in
    omega (arith, c.requires.ready.room, q.1)

pub returns : goal.returns
returns c =
    let s = c.requires in
    let q = later_at c.args.self.now.corners.now c.args.self.now.count c.args.earlier c.args.a c.args.b c.unwrap-later.ensures c.first_on.ensures in
    let ends : (c.if-runs_to.u.0 ≡ cond c.runs_to.result c.args.a c.args.b) × (c.if-runs_to.u.1 ≡ cond c.runs_to.result c.args.b c.args.a) =
    elim c.if-runs_to.branch [
      | then-runs_to w ↦ rw (w.if-runs_to.true, w.u-is) (refl, refl)
      | else-runs_to w ↦ rw (w.if-runs_to.false, w.u-is) (refl, refl)
    ] in
    hinge-made c.args.self.now.corners.now c.args.self.now.count c.args.earlier c.unwrap-later.result c.args.a c.args.b s.ready.room s.fits q.1 s.is q.0
    c.triangle_at-t.result c.triangle_at-t.ensures c.triangle_at-s.result c.triangle_at-s.ensures
    c.runs_to.result c.runs_to.ensures c.if-runs_to.u.0 c.if-runs_to.u.1 ends c.opposite_to.result c.opposite_to-2.result c.opposite_to.ensures c.opposite_to-2.ensures
