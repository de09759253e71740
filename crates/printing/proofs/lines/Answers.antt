-- `printing::lines` meets its contract.
use Rattle.std.proofs.Common.{rules}
use Rattle.printing.proofs.Texts.{text-put}
use Rattle.printing.proofs.lines.Goals as goal

pub returns : goal.returns
returns c = search (rules, text-put c.args.number c.args.quality c.args.volume c.word.ensures.put c.field.ensures.put c.bits.ensures.put c.bits-2.ensures.put)
