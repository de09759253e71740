-- `reading::places` meets its contract. The loop's invariant: the first `k` coordinates stand as floats at the start of the list. Assumes nothing.
use mathlib.Core.Path.{◌≡◌}
use Prim.Native.Nat.{◌≤◌}
use lib.ListN.{length}
use Rattle.reading.specs.Stages.{placed_first}
use Rattle.reading.proofs.places.Given as goal

abbrev pub invariant-loop-k : goal.invariant-loop-k
invariant-loop-k l = (l.k ≤ l.count) × (length l.points ≡ length l.initial.points) × (l.points ≡ placed_first l.unit l.coordinates l.k l.initial.points)
