-- `outlines::outline` meets its contract.
use Prim.Native.Nat.{◌/◌}
use lib.ListN.{length}
use mathlib.Core.Path.{refl}
use Rattle.outlines.proofs.Preparing.{outlined}
use Rattle.outlines.proofs.outline.Goals as goal

pub returns : goal.returns
returns c =
    outlined c.args.corners.now c.args.points c.args.work.now _ c.args.places.now c.trace.new.places _ (length c.args.corners.now / 2) c.args.total c.trace.result c.requires.sides_prepared c.requires.total_in_bounds c.trace.ensures refl
