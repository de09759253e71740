use Rattle.entries.proofs.Moved.{triangle_put}
use Rattle.entries.proofs.Moved.{backward_lent}
use Rattle.surface.specs.Flat.{tri_of}
use native.Mathlib.Omega.{arith}
use Prim.Native.Nat.{◌*◌}
use Rattle.entries.proofs.insert_triangle.Goals as goal

pub returns : goal.returns
returns c = triangle_put c.args.p (tri_of c.args.t) (backward_lent (3 * c.args.p) c.args.corners.now c.shift_back.new.part (omega (arith, c.requires)) (c.shift_back.ensures 0)) c.requires c.put_triangle.ensures
