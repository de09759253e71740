use Prim.Native.Nat.{◌+◌, ◌≤◌}
use mathlib.Core.Path.{◌≡◌}
use lib.ListN.{drop}
use Rattle.surface.specs.Edit.{first}
use Rattle.surface.specs.Flat.{held}
use Rattle.verdicts.proofs.Triangles.first_on.Given as goal

abbrev pub invariant-loop-i : goal.invariant-loop-i
invariant-loop-i l = (l.i ≤ l.self.count) × (l.i + first l.a l.b (drop l.i (held l.self.corners.now l.self.count)) ≡ l.from + first l.a l.b (drop l.from (held l.self.corners.now l.self.count)))
