-- `lattice::levels::set_onto_levels` meets its contract. The values so far are set onto the levels, and the others are as they were. Assumes nothing.
use mathlib.Core.Path.{◌≡◌}
use Rattle.lattice.specs.Values.{onto_both}
use Rattle.lattice.proofs.Choices.{changed}
use Rattle.lattice.proofs.levels.set_onto_levels.Given as goal

abbrev pub invariant-loop-v : goal.invariant-loop-v
invariant-loop-v l = l.values ≡ changed (onto_both l.t l.lower l.upper) l.initial.values l.v-index
