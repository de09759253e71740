-- `slivers::Pass::moved_score` meets its contract.
use mathlib.Core.Path.{◌∙◌}
use native.Mathlib.Omega.{arith}
use Rattle.slivers.specs.Ready.{scene_of}
use Rattle.slivers.proofs.Turns.{moved-is}
use Rattle.slivers.proofs.Pass.moved_score.Goals as goal

pub returns : goal.returns
returns c =
    let n = c.requires.survey.labels in
    let l = c.requires.i_in_bounds.0 in
    c.score.ensures ∙ moved-is (scene_of c.args.self.now) c.args.self.now.corners.now c.args.self.now.labels.now c.args.way.keep c.args.way.remove c.args.i _ _ _ _ _ _ (omega arith) c.word.ensures c.word-2.ensures c.word-3.ensures c.put-a.ensures c.put-b.ensures c.put-c.ensures
