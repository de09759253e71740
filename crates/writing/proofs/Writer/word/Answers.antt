-- `writing::Writer::word` meets its contract.
use Rattle.std.proofs.Common.{arith, refl, ◌∙◌}
use Rattle.writing.proofs.Puts.{put-nothing, reach}
use Rattle.writing.proofs.Parts.{byte_more, word-whole}
use Rattle.writing.proofs.Writer.word.Goals as goal

pub loop-b-init : goal.loop-b-init
loop-b-init c = record { same = refl; put = put-nothing _ _ }

pub put-requires : goal.put-requires
put-requires c = let p = reach c.loop-b.invariant.put in omega arith

pub loop-b-preserved : goal.loop-b-preserved
loop-b-preserved c = record {
  same = c.put.ensures.same ∙ c.loop-b.invariant.same;
  put = byte_more c.args.w.now c.loop-b.b-index _ (omega arith) refl c.loop-b.invariant.put c.put.ensures.put;
}

pub returns : goal.returns
returns c = record { same = c.loop-b.invariant.same; put = word-whole c.args.w.now c.loop-b.b-index (omega arith) c.loop-b.invariant.put }
