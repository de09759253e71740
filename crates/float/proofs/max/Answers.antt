-- `float::max` meets its contract. Assumes nothing.
use mathlib.Core.Path.{sym, ◌∙◌}
use mathlib.Core.Bool.{true, false}
use Rattle.float.proofs.Cases.{greater_nan, greater_test}
use Rattle.float.proofs.max.Goals as goal

pub returns-then-is_nan : goal.returns-then-is_nan
returns-then-is_nan c = greater_nan c.args.a c.args.b (sym c.is_nan.ensures.value ∙ c.if-is_nan.true)

pub returns-then-a-b : goal.returns-then-a-b
returns-then-a-b c = greater_test c.args.a c.args.b true (sym c.is_nan.ensures.value ∙ c.if-is_nan.false) c.if-a-b.true

pub returns-else-a-b : goal.returns-else-a-b
returns-else-a-b c = greater_test c.args.a c.args.b false (sym c.is_nan.ensures.value ∙ c.if-is_nan.false) c.if-a-b.false
