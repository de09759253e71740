-- `closing::first_unringed` meets its contract: at the loop's head the corners below v are fine.
use mathlib.Core.Path.{◌∙◌}
use native.Mathlib.Numerals.{add-one}
use borrow.Author.Count.{below_more}
use Rattle.halfedges.proofs.Fine.{Fine}
use Rattle.halfedges.proofs.Whole.{Enough}
use Rattle.closing.proofs.first_unringed.Goals as goal

pub loop-v-preserved : goal.loop-v-preserved
loop-v-preserved c =
    let e = c.corner_ringed.ensures in
    let ringed = c.if-not-corner_ringed.false in
    record {
      size = c.corner_ringed.auto.work ∙ c.loop-v.invariant.size;
      ready = rw add-one e.ready;
      far = e.far ∙ c.loop-v.invariant.far;
      fine = below_more (Fine c.args.corners.now) c.loop-v.v c.loop-v.invariant.fine (e.yea ringed);
      more = below_more (Enough c.args.corners.now c.args.least) c.loop-v.v c.loop-v.invariant.more (e.more ringed);
    }
