-- `sheet::word` meets its contract. The loop's invariant: the first `b-index` bytes of the word stand at `at`, up to `i`. Assumes nothing.
use Rattle.std.proofs.Common.{rules, arith, ◌≡◌, ◌<◌, length, get_or}
use Rattle.sheet.proofs.Words.{step, whole}
use Rattle.sheet.proofs.word.Goals as goal

pub loop-b-preserved : goal.loop-b-preserved
loop-b-preserved c =
    let here : c.loop-b.i < length c.args.text.now = search rules in
    let same : get_or c.args.text.now c.loop-b.i 0 ≡ get_or c.args.w.now c.loop-b.b-index 0 = search rules in
    step c.args.text.now c.args.at c.args.w.now c.loop-b.b-index c.loop-b.i c.loop-b.invariant (omega arith) here same

pub returns : goal.returns
returns c = whole c.args.text.now c.args.at c.args.w.now c.loop-b.b-index c.loop-b.i c.loop-b.invariant (omega arith)
