-- `slivers::Pass::collapse_candidates` meets its contract.
use Rattle.slivers.specs.Ready.{scene_of}
use Rattle.slivers.proofs.Prepared.{ready-kept}
use Rattle.slivers.proofs.Turns.{passing_first, passing_turn}
use Rattle.slivers.proofs.Pass.collapse_candidates.Goals as goal

pub loop-j-init : goal.loop-j-init
loop-j-init c = passing_first (scene_of c.args.self.now) c.args.self.now.corners.now c.args.self.now.labels.now c.args.self.now.heads c.args.sides c.args.items c.args.self.now.touched c.args.work.now

pub collapse_candidate-requires-clause-ready : goal.collapse_candidate-requires-clause-ready
collapse_candidate-requires-clause-ready c = ready-kept c.loop-j.work c.loop-j.invariant.rest.len c.loop-j.invariant.rest.under c.requires.ready

pub loop-j-preserved : goal.loop-j-preserved
loop-j-preserved c = passing_turn (scene_of c.args.self.now) c.args.self.now.corners.now c.args.self.now.labels.now c.args.self.now.heads c.args.sides c.args.items c.args.self.now.touched c.args.count c.loop-j.j _ _ c.args.work.now c.loop-j.work _ c.requires.items c.loop-j-test.true c.word-i.ensures c.word-k.ensures c.loop-j.invariant c.collapse_candidate.ensures
