-- `field::formed` meets its contract, by those of the functions that it calls. Assumes nothing.
use mathlib.Core.Path.{ap, ap₂, ◌∙◌}
use lib.Ieee.{Float, binary64, div}
use Rattle.float.specs.declared.Point.{Point}
use Rattle.float.specs.Point.{plus, times, dotted}
use Rattle.float.specs.Order.{greater}
use Rattle.field.specs.Number.{tiny}
use Rattle.field.proofs.Factor.{factor_is}
use Rattle.field.proofs.formed.Goals as goal

pub returns : goal.returns
returns c =
    let n = c.args.n in
    ap₂ (div binary64)
    (ap₂ times factor_is (c.dot.ensures ∙ ap (λ (v : Point). dotted v n) c.cross.ensures))
    (c.max.ensures ∙ ap (λ (v : Float). greater v tiny) (ap₂ plus (ap₂ plus c.dot-2.ensures c.dot-3.ensures) c.dot-4.ensures))
