-- `checking::place` meets its contract. Assumes nothing.
use mathlib.Core.Path.{ap, ◌∙◌}
use Rattle.float.specs.Point.{difference}
use Rattle.float.specs.declared.Point.{Point}
use Rattle.checking.proofs.place.Goals as goal

pub returns : goal.returns
returns c = c.sub.ensures ∙ ap (λ (p : Point). difference p c.args.origin) c.point.ensures
