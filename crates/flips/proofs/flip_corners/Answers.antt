-- `flips::flip_corners` meets its contract, by that of `put_triangle`. Assumes nothing.
use Rattle.flips.proofs.Steps.{triangles-put}
use Rattle.flips.proofs.flip_corners.Goals as goal

pub returns : goal.returns
returns c =
    triangles-put c.args.q c.args.corners.now _ _ c.put_triangle.ensures c.put_triangle-2.ensures
