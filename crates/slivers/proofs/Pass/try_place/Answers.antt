-- `slivers::Pass::try_place` meets its contract.
use Rattle.slivers.specs.Ready.{scene_of}
use Rattle.slivers.proofs.Turns.{tried-ahead, tried-behind, tried-fine, tried-low, tried-high}
use Rattle.slivers.proofs.Pass.try_place.Goals as goal

pub returns-then-ahead-way : goal.returns-then-ahead-way
returns-then-ahead-way c = tried-ahead (scene_of c.args.self.now) c.args.self.now.corners.now c.args.self.now.labels.now c.args.way.keep c.args.way.remove c.args.k c.args.least c.requires.survey.lists.thirds c.requires.k_in_bounds.0 c.requires.k_in_bounds.1 c.requires.k_in_bounds.2 _ c.ahead.ensures c.if-ahead-way.true

pub returns-then-behind-way : goal.returns-then-behind-way
returns-then-behind-way c = tried-behind (scene_of c.args.self.now) c.args.self.now.corners.now c.args.self.now.labels.now c.args.way.keep c.args.way.remove c.args.k c.args.least c.requires.survey.lists.thirds c.requires.k_in_bounds.0 c.requires.k_in_bounds.1 c.requires.k_in_bounds.2 _ c.behind.ensures c.if-behind-way.true

pub returns-then-q : goal.returns-then-q
returns-then-q c = tried-fine (scene_of c.args.self.now) c.args.self.now.corners.now c.args.self.now.labels.now c.args.way.keep c.args.way.remove c.args.k c.args.least c.requires.survey.lists.thirds c.requires.k_in_bounds.0 c.requires.k_in_bounds.1 c.requires.k_in_bounds.2 _ _ c.ahead.ensures c.behind.ensures c.if-ahead-way.false c.if-behind-way.false _ _ c.moved_score-q.ensures c.if-q.true c.min.ensures

pub returns-then-q-clamp : goal.returns-then-q-clamp
returns-then-q-clamp c = tried-low (scene_of c.args.self.now) c.args.self.now.corners.now c.args.self.now.labels.now c.args.way.keep c.args.way.remove c.args.k c.args.least c.requires.survey.lists.thirds c.requires.k_in_bounds.0 c.requires.k_in_bounds.1 c.requires.k_in_bounds.2 _ _ c.ahead.ensures c.behind.ensures c.if-ahead-way.false c.if-behind-way.false c.moved_score-q.result c.score_at-own.result c.clamp.result c.moved_score-q.ensures c.score_at-own.ensures c.clamp.ensures c.if-q-clamp.true

pub returns : goal.returns
returns c = tried-high (scene_of c.args.self.now) c.args.self.now.corners.now c.args.self.now.labels.now c.args.way.keep c.args.way.remove c.args.k c.args.least c.requires.survey.lists.thirds c.requires.k_in_bounds.0 c.requires.k_in_bounds.1 c.requires.k_in_bounds.2 _ _ c.ahead.ensures c.behind.ensures c.if-ahead-way.false c.if-behind-way.false c.moved_score-q.result c.score_at-own.result c.clamp.result c.moved_score-q.ensures c.score_at-own.ensures c.clamp.ensures _ c.if-q-clamp.false c.min-2.ensures
