-- `writing::Writer::decimal` meets its contract.
use Rattle.std.proofs.Common.{arith, ◌∙◌}
use Rattle.writing.proofs.Parts.{one-digit, more-digits}
use Rattle.writing.proofs.Writer.+decimal.Goals as goal

pub returns-then-v-lt10 : goal.returns-then-v-lt10
returns-then-v-lt10 t c = record { same = c.put.ensures.same; put = one-digit c.args.v c.digit.result c.if-v-lt10.true c.digit.ensures c.put.ensures.put }

pub returns : goal.returns
returns t c = record {
  same = c.put-2.ensures.same ∙ c.decimal.ensures.same;
  put = more-digits c.args.v c.digit-2.result c.ranges.v.fits (omega arith) c.digit-2.ensures c.decimal.ensures.put c.put-2.ensures.put;
}
