-- `collapsing::number_from` meets its contract.
use native.Mathlib.Omega.{arith}
use mathlib.Core.Path.{refl, ◌∙◌}
use lib.ListN.{length-set}
use Rattle.scores.proofs.Turns.{filled_none, filled_more, filled-same}
use Rattle.collapsing.proofs.number_from.Goals as goal

pub loop-v-init : goal.loop-v-init
loop-v-init c = (refl, filled_none _ _ _)

pub loop-v-preserved : goal.loop-v-preserved
loop-v-preserved c =
    (length-set c.loop-v.work _ _ ∙ c.loop-v.invariant.0, filled_more _ _ _ _ _ _ (omega arith) refl c.loop-v.invariant.1)

pub returns : goal.returns
returns c = filled-same _ _ _ _ _ _ (omega arith) c.loop-v.invariant.1
