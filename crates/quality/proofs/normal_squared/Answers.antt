-- `quality::normal_squared` meets its contract, by those of the functions that it calls. Assumes nothing.
use mathlib.Core.Path.{ap, ap₂, ◌∙◌}
use lib.Ieee.{Float}
use Rattle.float.specs.Point.{dotted, crossed}
use Rattle.float.specs.declared.Point.{Point}
use Rattle.quality.proofs.normal_squared.Goals as goal

abbrev square : Point → Float
square p = dotted p p

pub returns : goal.returns
returns c =
    c.dot.ensures
    ∙ ap square (c.cross-n.ensures ∙ ap₂ crossed c.sub.ensures c.sub-2.ensures)
