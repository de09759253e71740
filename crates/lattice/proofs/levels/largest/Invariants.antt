-- `lattice::levels::largest` meets its contract. What is left of the list decides. Assumes nothing.
use mathlib.Core.Path.{◌≡◌}
use lib.ListN.{drop}
use Rattle.lattice.specs.Values.{least_normal, largest}
use Rattle.lattice.proofs.levels.largest.Given as goal

abbrev pub invariant-loop-v : goal.invariant-loop-v
invariant-loop-v l = largest l.s (drop l.v-index l.values) ≡ largest least_normal l.values
