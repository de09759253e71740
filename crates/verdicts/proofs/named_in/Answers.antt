-- `verdicts::named_in` meets its contract: none where v is not named, and else the sum of three tests.
use Rattle.verdicts.proofs.Scan.{named_law, unnamed}
use Rattle.surface.specs.Flat.{tri_of}
use mathlib.Core.Path.{sym, ◌∙◌}
use native.Mathlib.Omega.{arith}
use borrow.Author.Rules.{rules}
use Rattle.verdicts.proofs.named_in.Goals as goal

pub returns-then-not-names_in : goal.returns-then-not-names_in
returns-then-not-names_in c =
    (unnamed (tri_of c.args.t) c.args.v (sym c.names_in.ensures ∙ c.if-not-names_in.true), search rules)

pub returns : goal.returns
returns c =
    (omega (arith, named_law (tri_of c.args.t) c.args.v), search rules)
