-- `quality::sides_squared` meets its contract, by those of the functions that it calls. Assumes nothing.
use mathlib.Core.Path.{ap, ap₂, ◌∙◌}
use lib.Ieee.{Float}
use Rattle.float.specs.Point.{plus, dotted}
use Rattle.float.specs.declared.Point.{Point}
use Rattle.quality.proofs.sides_squared.Goals as goal

abbrev square : Point → Float
square p = dotted p p

pub returns : goal.returns
returns c =
    ap₂ plus
    (ap₂ plus (c.dot.ensures ∙ ap square c.sub-ab.ensures) (c.dot-2.ensures ∙ ap square c.sub-bc.ensures))
    (c.dot-3.ensures ∙ ap square c.sub-ca.ensures)
