-- `renumber::save_points` meets its contract. Assumes nothing.
use Rattle.renumber.proofs.Saving.{save_starts, save_on, save_ends}
use Rattle.renumber.proofs.save_points.Goals as goal

pub loop-k-init : goal.loop-k-init
loop-k-init c = save_starts _ _ _

pub loop-k-preserved : goal.loop-k-preserved
loop-k-preserved c =
    save_on c.args.points.now c.args.work.now c.loop-k.work c.args.saved c.loop-k.k c.requires c.loop-k.invariant c.loop-k-test.true (c.type_inv.points c.loop-k.k) _ c.put_float.ensures

pub returns : goal.returns
returns c = save_ends _ _ _ _ _ c.loop-k.invariant c.loop-k-test.false
