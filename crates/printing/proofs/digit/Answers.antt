-- `printing::digit` meets its contract. Assumes nothing.
use Rattle.printing.proofs.Digits.{numeral, letter}
use Rattle.printing.proofs.digit.Goals as goal

pub returns-then-d-lt10 : goal.returns-then-d-lt10
returns-then-d-lt10 c = numeral c.args.v c.args.k c.if-d-lt10.true

pub returns : goal.returns
returns c = letter c.args.v c.args.k c.if-d-lt10.false
