-- `lattice::levels::largest` meets its contract. What is left of the list decides. Assumes nothing.
use native.Mathlib.Omega.{arith}
use Rattle.lattice.proofs.Choices.{largest-more, largest_end}
use Rattle.lattice.proofs.levels.largest.Goals as goal

pub loop-v-preserved : goal.loop-v-preserved
loop-v-preserved c = largest-more c.args.values.now c.loop-v.v-index c.loop-v.s _ _ (omega arith) c.loop-v.invariant c.abs.ensures.value c.max-s.ensures

pub returns : goal.returns
returns c = largest_end c.args.values.now c.loop-v.v-index c.loop-v.s (omega arith) c.loop-v.invariant
