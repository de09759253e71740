-- `flips::begin_pass` meets its contract, by those of the functions that it calls. Assumes nothing.
use native.Mathlib.Omega.{arith}
use Rattle.flips.proofs.Stages.{begun-is}
use Rattle.flips.proofs.begin_pass.Goals as goal

pub returns : goal.returns
returns c =
    begun-is _ _ _ _ _ _ _ _ _ _ c.requires.corners_bound.0 c.requires.corners_bound.1 (omega arith) c.copy_corners.auto.work c.keep_scores.auto.work c.copy_corners.ensures c.keep_scores.ensures c.clear_from.ensures
