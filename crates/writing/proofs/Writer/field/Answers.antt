-- `writing::Writer::field` meets its contract.
use Rattle.std.proofs.Common.{arith, ◌∙◌}
use Rattle.writing.proofs.Puts.{both, reach}
use Rattle.writing.proofs.Writer.field.Goals as goal

pub put-requires : goal.put-requires
put-requires c = let p = reach c.decimal.ensures.put in omega arith

pub returns : goal.returns
returns c = record { same = c.put.ensures.same ∙ c.decimal.ensures.same; put = both c.decimal.ensures.put c.put.ensures.put }
