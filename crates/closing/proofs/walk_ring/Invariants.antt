-- `closing::walk_ring` meets its contract: at the loop's head the trip from the first corner is the trip that is left.
use Prim.Native.Nat.{◌<◌}
use mathlib.Core.Path.{◌≡◌}
use Rattle.halfedges.specs.Place.{hop_to, trip}
use Rattle.closing.proofs.walk_ring.Given as goal

abbrev pub invariant-loop-left : goal.invariant-loop-left
invariant-loop-left l = let hops = hop_to l.points l.v l.work in (l.x < l.points) × (trip hops l.first l.count l.first ≡ trip hops l.first l.left l.x)
