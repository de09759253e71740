-- `closing::corners_differ` meets its contract: at the loop's head each place of the triangles passed differs from the next.
use Prim.Native.Nat.{ℕ, ◌*◌, ◌<◌}
use mathlib.Core.Path.{◌≡◌}
use Rattle.halfedges.specs.Place.{nx, at}
use Rattle.closing.proofs.corners_differ.Given as goal

abbrev pub invariant-loop-i : goal.invariant-loop-i
invariant-loop-i l = (j : ℕ) → j < 3 * l.i → at l.corners j ≡ at l.corners (nx j) → ⊥
