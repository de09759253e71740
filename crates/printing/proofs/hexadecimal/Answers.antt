-- `printing::hexadecimal` meets its contract.
use Rattle.std.proofs.Common.{arith, refl, ◌∙◌}
use Rattle.writing.proofs.Puts.{reach}
use Rattle.printing.proofs.Digits.{row-start, row_more, row_end}
use Rattle.printing.proofs.hexadecimal.Goals as goal

pub loop-k-init : goal.loop-k-init
loop-k-init c = record { same = refl; row = row-start _ _ _ }

pub digit-requires : goal.digit-requires
digit-requires c = omega (arith, c.loop-k.invariant.row.few)

pub put-requires : goal.put-requires
put-requires c =
    let r = reach c.loop-k.invariant.row.put in
    omega arith

pub loop-k-preserved : goal.loop-k-preserved
loop-k-preserved c = record {
  same = c.put.ensures.same ∙ c.loop-k.invariant.same;
  row = row_more (omega arith) c.digit.ensures c.loop-k.invariant.row c.put.ensures.put;
}

pub returns : goal.returns
returns c = record { same = c.loop-k.invariant.same; put = row_end _ (omega arith) c.loop-k.invariant.row }
