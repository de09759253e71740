-- `quality::share` meets its contract. Assumes nothing.
use mathlib.Core.Path.{ap, ap₂, ◌∙◌}
use Rattle.float.specs.Point.{dotted}
use Rattle.quality.specs.Quality.{over, wedge}
use Rattle.quality.proofs.Numbers.{six-is}
use Rattle.quality.proofs.share.Goals as goal

pub returns : goal.returns
unfolding wedge
returns c = ap₂ over (c.dot.ensures ∙ ap (dotted c.args.a) c.cross.ensures) six-is
