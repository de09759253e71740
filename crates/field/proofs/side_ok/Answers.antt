-- `field::side_ok` meets its contract: in each of its three cases nothing is rounded off (`Place`). Assumes nothing.
use mathlib.Core.Path.{sym, ◌∙◌, subst}
use lib.Dec.{T}
use Rattle.field.proofs.Place.{side-short, side-lower, side-upper}
use Rattle.field.proofs.side_ok.Goals as goal

pub returns-else-lower : goal.returns-else-lower
returns-else-lower c =
    c.if-lower.false
    ∙ side-short c.args.lower c.args.upper (subst T (sym c.well_formed.0.1) tt) (subst T (sym c.well_formed.1.0.1) tt) (sym c.bounded.ensures ∙ c.if-not-bounded.false) (sym c.bounded-else-not-bounded.ensures ∙ c.if-not-bounded-2.false) c.if-upper.true c.if-lower.false

pub returns-then-lower : goal.returns-then-lower
returns-then-lower c =
    side-lower c.args.lower c.args.upper (subst T (sym c.well_formed.0.1) tt) (subst T (sym c.well_formed.1.0.1) tt) (sym c.bounded.ensures ∙ c.if-not-bounded.false) (sym c.bounded-else-not-bounded.ensures ∙ c.if-not-bounded-2.false) c.if-lower.true

pub returns : goal.returns
returns c =
    side-upper c.args.lower c.args.upper (subst T (sym c.well_formed.0.1) tt) (subst T (sym c.well_formed.1.0.1) tt) (sym c.bounded.ensures ∙ c.if-not-bounded.false) (sym c.bounded-else-not-bounded.ensures ∙ c.if-not-bounded-2.false) c.if-upper.false
