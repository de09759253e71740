-- `layers::outlines` meets its contract: a question refuses, or the layer is traced and the words are cleared. Assumes nothing.
use mathlib.Core.Path.{sym, subst}
use native.Mathlib.Omega.{arith}
use lib.IntN.{ℤ}
use mir.Syntax.{w32}
use mir.ValLaws.{to_z-of_z}
use Rattle.questions.proofs.Telling.{handed_on}
use Rattle.layers.specs.Stages.{Crossable, LayerTraced}
use Rattle.layers.proofs.Questions.{answered, at_first, at_forty, crossable, at_end}
use Rattle.layers.proofs.outlines.Goals as goal

pub returns-in_err-admitted : goal.returns-in_err-admitted
returns-in_err-admitted c =
    rw (handed_on c.from_residual.result c.from_residual.ensures.1) (at_first _ _ _ _ _ _ _ c.admitted.ensures _ _ (c.fill.ensures.after (λ y e. e)) c.in_err-admitted.was)

pub returns-then-not-layered : goal.returns-then-not-layered
returns-then-not-layered c =
    let asked = answered c.args.mesh.now.points.now (to_z-of_z w32 c.args.height c.ranges.height) c.layered.ensures c.if-not-layered.true in
    at_forty _ _ _ _ _ _ _ c.admitted.ensures _ _ (c.fill.ensures.after (λ y e. e)) c.in_ok-admitted.was asked

pub trace-found-requires : goal.trace-found-requires
trace-found-requires c =
    let back = to_z-of_z w32 c.args.height c.ranges.height in
    let asked = answered c.args.mesh.now.points.now back c.layered.ensures c.if-not-layered.false in
    subst (Crossable c.args.mesh.now.points.now c.args.mesh.now.corners.now c.admitted.new.work) (sym back) (crossable _ _ _ _ _ _ _ c.admitted.ensures c.in_ok-admitted.was asked c.admitted.auto.work)

pub clear_needed-requires : goal.clear_needed-requires
clear_needed-requires c =
    let asked = answered c.args.mesh.now.points.now (to_z-of_z w32 c.args.height c.ranges.height) c.layered.ensures c.if-not-layered.false in
    let l = (crossable _ _ _ _ c.args.height _ _ c.admitted.ensures c.in_ok-admitted.was asked c.admitted.auto.work).lent in
    (l.few, omega (arith, l.points), omega (arith, l.room, c.trace-found.auto.work))

pub returns : goal.returns
returns c =
    let back = to_z-of_z w32 c.args.height c.ranges.height in
    let asked = answered c.args.mesh.now.points.now back c.layered.ensures c.if-not-layered.false in
    at_end _ _ _ _ _ _ _ c.admitted.ensures _ _ (c.fill.ensures.after (λ y e. e)) c.in_ok-admitted.was asked _ _ _
    (subst (λ (z : ℤ). LayerTraced c.args.mesh.now.points.now c.args.mesh.now.corners.now c.admitted.new.work c.trace-found.new.work z c.fill.new.self c.trace-found.new.outline c.trace-found.result) back c.trace-found.ensures) _ c.clear_needed.ensures
