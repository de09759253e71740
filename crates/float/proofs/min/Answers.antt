-- `float::min` meets its contract. Assumes nothing.
use mathlib.Core.Path.{sym, ◌∙◌}
use mathlib.Core.Bool.{true, false}
use Rattle.float.proofs.Cases.{lesser_nan, lesser_test}
use Rattle.float.proofs.min.Goals as goal

pub returns-then-is_nan : goal.returns-then-is_nan
returns-then-is_nan c = lesser_nan c.args.a c.args.b (sym c.is_nan.ensures.value ∙ c.if-is_nan.true)

pub returns-then-b-a : goal.returns-then-b-a
returns-then-b-a c = lesser_test c.args.a c.args.b true (sym c.is_nan.ensures.value ∙ c.if-is_nan.false) c.if-b-a.true

pub returns-else-b-a : goal.returns-else-b-a
returns-else-b-a c = lesser_test c.args.a c.args.b false (sym c.is_nan.ensures.value ∙ c.if-is_nan.false) c.if-b-a.false
