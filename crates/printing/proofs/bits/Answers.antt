-- `printing::bits` meets its contract.
use Rattle.std.proofs.Common.{arith, ◌∙◌}
use Rattle.writing.proofs.Puts.{both, reach}
use Rattle.printing.proofs.bits.Goals as goal

pub put-requires : goal.put-requires
put-requires c = let p = reach c.hexadecimal.ensures.put in omega arith

pub returns : goal.returns
returns c = record { same = c.put.ensures.same ∙ c.hexadecimal.ensures.same; put = both c.hexadecimal.ensures.put c.put.ensures.put }
