-- `scores::pick_candidates` meets its contract. Assumes nothing.
use Prim.Native.Nat.{ℕ, ◌+◌}
use Rattle.halfedges.specs.Place.{at}
use Rattle.scores.specs.Measures.{picks}
use Rattle.scores.proofs.Turns.{Picking}
use Rattle.scores.proofs.pick_candidates.Given as goal

abbrev pub invariant-loop-i : goal.invariant-loop-i
invariant-loop-i l = Picking (λ (k : ℕ). picks l.points l.corners l.twins l.marks l.limit l.initial.work (at l.initial.work (l.sides + k))) l.initial.work l.work l.count l.items l.n l.i
