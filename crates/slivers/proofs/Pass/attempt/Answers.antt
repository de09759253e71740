-- `slivers::Pass::attempt` meets its contract.
use mathlib.Core.Path.{subst}
use Rattle.slivers.specs.Cover.{Covers}
use Rattle.slivers.specs.Ready.{scene_of}
use Rattle.slivers.proofs.Turns.{attempt_yes, attempt_no}
use Rattle.slivers.proofs.Pass.attempt.Goals as goal

pub returns-then-not-covers : goal.returns-then-not-covers
returns-then-not-covers c = attempt_no (scene_of c.args.self.now) c.args.self.now.points.now c.args.self.now.corners.now c.args.self.now.labels.now c.args.self.now.heads c.args.work.now c.args.self.now.chains c.args.self.now.carried c.args.self.now.marks c.args.self.now.touched c.requires.ready c.args.way.keep c.args.way.remove c.requires.keep_lt_heads.0 c.requires.keep_lt_heads.1 (subst (Covers c.args.work.now c.args.self.now.carried c.args.way.keep c.args.way.remove) c.if-not-covers.true c.covers.ensures)

pub returns : goal.returns
returns c = attempt_yes (scene_of c.args.self.now) c.args.self.now.points.now c.args.self.now.corners.now c.args.self.now.labels.now c.args.self.now.heads c.args.work.now c.args.self.now.chains c.args.self.now.carried c.args.self.now.marks c.args.self.now.touched c.requires.ready c.args.way.keep c.args.way.remove c.requires.keep_lt_heads.0 c.requires.keep_lt_heads.1 _ (subst (Covers c.args.work.now c.args.self.now.carried c.args.way.keep c.args.way.remove) c.if-not-covers.false c.covers.ensures) c.try_places.ensures
