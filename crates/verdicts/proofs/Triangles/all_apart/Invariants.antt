use Rattle.surface.specs.Flat.{held}
use Rattle.verdicts.specs.Notes.{apart_by}
use Rattle.surface.specs.Check.{every}
use Rattle.surface.specs.Closed.{Step, around}
use lib.ListN.{drop}
use mathlib.Core.Path.{◌≡◌}
use Prim.Native.Nat.{◌≤◌}
use Rattle.verdicts.proofs.Triangles.all_apart.Given as goal

abbrev pub invariant-loop-i : goal.invariant-loop-i
invariant-loop-i l = (l.i ≤ l.self.count) × (every (λ (s : Step). apart_by l.notes l.c l.d s.from) (around (drop l.i (held l.self.corners.now l.self.count)) l.a) ≡ every (λ (s : Step). apart_by l.notes l.c l.d s.from) (around (held l.self.corners.now l.self.count) l.a))
