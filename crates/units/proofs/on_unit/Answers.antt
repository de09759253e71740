-- `units::on_unit` meets its contract (`proofs/Coordinate`). Assumes nothing.
use mathlib.Core.Path.{sym, ◌∙◌, subst}
use mathlib.Core.Bool.{false≢true}
use lib.Dec.{T}
use Rattle.units.proofs.Coordinate.{passes-low, passes-high, passes-whole, on-units}
use Rattle.units.proofs.on_unit.Goals as goal

pub returns-then-x-2 : goal.returns-then-x-2
returns-then-x-2 c =
    ((λ e. on-units c.args.x (subst T (sym c.well_formed.0.1) tt) c.if-x.true c.if-x-2.true e), passes-whole c.args.x)

pub returns-else-x-2 : goal.returns-else-x-2
returns-else-x-2 c = ((λ e. absurd (false≢true e)), λ h. sym c.if-x-2.false ∙ passes-high c.args.x h)

pub returns-else-x : goal.returns-else-x
returns-else-x c = ((λ e. absurd (false≢true e)), λ h. sym c.if-x.false ∙ passes-low c.args.x h)
