-- `flips::keep_scores` meets its contract. Assumes nothing.
use mathlib.Core.Path.{ap}
use native.Mathlib.Omega.{arith}
use mathlib.Core.Path.{refl, ◌∙◌}
use lib.ListN.{length}
use Rattle.scores.proofs.Words.{put-length}
use Rattle.flips.proofs.Turns.{shaped_none, shaped_more, shaped_same}
use Rattle.flips.proofs.keep_scores.Goals as goal

pub loop-i-init : goal.loop-i-init
loop-i-init c =
    (omega arith, refl, shaped_none _ _ _ _ _)

pub score_at-q-requires : goal.score_at-q-requires
score_at-q-requires c = record { lists = c.requires.lists; i_in_bounds = omega arith }

pub loop-i-preserved : goal.loop-i-preserved
loop-i-preserved c =
    let e = c.put_float.ensures in
    let s = c.loop-i.invariant.1 in
    (omega arith, ap length e ∙ put-length c.loop-i.work _ _ ∙ c.loop-i.invariant.1, shaped_more _ _ _ _ _ _ _ _ _ (omega arith) c.score_at-q.ensures e c.loop-i.invariant.2)

pub returns : goal.returns
returns c =
    shaped_same _ _ _ _ _ _ _ _ (omega arith) c.loop-i.invariant.2
