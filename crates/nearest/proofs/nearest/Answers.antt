-- `nearest::nearest` meets its contract: a question refuses, or the places are filled.

use Rattle.questions.proofs.Telling.{handed_on}
use Rattle.nearest.proofs.Questions.{refused, ready, replied}
use Rattle.nearest.proofs.nearest.Goals as goal

pub returns-in_err-ask : goal.returns-in_err-ask
returns-in_err-ask c =
    rw (handed_on c.from_residual.result c.from_residual.ensures.1)
    (refused c.args.mesh.now.points.now c.args.mesh.now.corners.now c.args.mesh.now.labels.now c.args.work.now c.args.probes.now c.args.answers.now c.fill.new.self (c.fill.ensures.after (λ y e. e)) c.ask.new.work _ c.ask.ensures c.in_err-ask.was)

pub measure-requires : goal.measure-requires
measure-requires c =
    ready c.args.mesh.now.points.now c.args.mesh.now.corners.now c.args.mesh.now.labels.now c.args.work.now c.args.probes.now c.args.answers.now c.fill.new.self (c.fill.ensures.after (λ y e. e)) c.ask.new.work _ c.ask.ensures c.in_ok-ask.was

pub returns : goal.returns
returns c =
    replied c.args.mesh.now.points.now c.args.mesh.now.corners.now c.args.mesh.now.labels.now c.args.work.now c.args.probes.now c.args.answers.now c.fill.new.self (c.fill.ensures.after (λ y e. e)) c.ask.new.work _ c.ask.ensures c.in_ok-ask.was _ _ c.measure.ensures
