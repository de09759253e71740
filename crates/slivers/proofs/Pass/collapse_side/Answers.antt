-- `slivers::Pass::collapse_side` meets its contract.
use Rattle.slivers.proofs.Turns.{walking_kept}
use Rattle.slivers.proofs.Pass.collapse_side.Goals as goal

pub touch_around-requires-2-clause-walking : goal.touch_around-requires-2-clause-walking
touch_around-requires-2-clause-walking c = walking_kept c.args.self.now.corners.now c.args.self.now.heads c.args.work.now c.touch_around.new.work c.args.self.now.chains c.args.self.now.touched c.args.way.keep c.requires.walking c.touch_around.ensures
