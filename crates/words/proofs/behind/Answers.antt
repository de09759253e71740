-- `words::behind` meets its contract.
use mathlib.Core.Path.{ap, ◌∙◌}
use Rattle.halfedges.specs.Place.{at}
use Rattle.words.proofs.behind.Goals as goal

pub returns : goal.returns
returns c = c.wide.ensures ∙ ap (at c.args.corners.now) c.before-2.ensures
