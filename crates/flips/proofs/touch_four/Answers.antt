-- `flips::touch_four` meets its contract, by that of `put`. Assumes nothing.
use Rattle.flips.proofs.Steps.{four-put}
use Rattle.flips.proofs.touch_four.Goals as goal

pub returns : goal.returns
returns c =
    four-put c.args.touched c.args.q c.args.work.now _ _ _ _ c.put.ensures c.put-2.ensures c.put-3.ensures c.put-4.ensures
