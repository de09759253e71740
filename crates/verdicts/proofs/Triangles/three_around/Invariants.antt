-- `verdicts::three_around` meets its contract: the triangles around v that were passed, at most three, and those to come.
use Rattle.surface.specs.Flat.{held}
use Rattle.surface.specs.Closed.{around}
use lib.ListN.{length, drop}
use mathlib.Core.Path.{◌≡◌}
use Prim.Native.Nat.{◌+◌, ◌≤◌}
use Rattle.verdicts.proofs.Triangles.three_around.Given as goal

abbrev pub invariant-loop-i : goal.invariant-loop-i
invariant-loop-i l = (l.i ≤ l.self.count) × (l.s ≤ 3) × (l.s + length (around (drop l.i (held l.self.corners.now l.self.count)) l.v) ≡ length (around (held l.self.corners.now l.self.count) l.v))
