-- `solve::bracket::Bracket::narrowed` meets its contract. Assumes nothing.
use mathlib.Core.Path.{sym, ap₂, ◌∙◌}
use lib.Ieee as Ieee
use Rattle.solve.proofs.Turns.{signum_is, low_moves, high_moves}
use Rattle.solve.proofs.bracket.Bracket.narrowed.Goals as goal

pub returns-then-signum : goal.returns-then-signum
returns-then-signum c =
    low_moves c.args.self c.args.va c.args.t c.args.v (ap₂ Ieee.eq (sym (c.signum.ensures ∙ signum_is c.args.v)) (sym (c.signum-2.ensures ∙ signum_is c.args.va)) ∙ c.if-signum.true)

pub returns-else-signum : goal.returns-else-signum
returns-else-signum c =
    high_moves c.args.self c.args.va c.args.t c.args.v (ap₂ Ieee.eq (sym (c.signum.ensures ∙ signum_is c.args.v)) (sym (c.signum-2.ensures ∙ signum_is c.args.va)) ∙ c.if-signum.false)
