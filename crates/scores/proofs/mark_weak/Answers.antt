-- `scores::mark_weak` meets its contract. Assumes nothing.
use native.Mathlib.Omega.{arith}
use mathlib.Core.Path.{refl, ap, ◌∙◌}
use lib.ListN.{length-set}
use lib.Ieee as Ieee
use lib.Ieee.{Float}
use Rattle.surface.specs.Closed.{one}
use Rattle.oracle.specs.Number.{weak_below}
use Rattle.chains.proofs.Bits.{bit_one}
use Rattle.scores.proofs.Turns.{filled_none, filled_more, filled-same}
use Rattle.scores.proofs.mark_weak.Goals as goal

pub loop-i-init : goal.loop-i-init
loop-i-init c =
    (omega arith, refl, filled_none _ _ _)

pub score_at-q-requires : goal.score_at-q-requires
score_at-q-requires c = record { lists = c.requires.lists; i_in_bounds = omega arith }

pub loop-i-preserved : goal.loop-i-preserved
loop-i-preserved c =
    (omega arith, length-set c.loop-i.work _ _ ∙ c.loop-i.invariant.1, filled_more _ _ _ _ _ _ (omega arith) (c.from.ensures ∙ bit_one (Ieee.lt c.score_at-q.result weak_below) ∙ ap (λ (q : Float). one (Ieee.lt q weak_below)) c.score_at-q.ensures) c.loop-i.invariant.2)

pub returns : goal.returns
returns c =
    filled-same _ _ _ _ _ _ (omega arith) c.loop-i.invariant.2
