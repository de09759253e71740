-- `slivers::Pass::collapse_candidates` meets its contract: at the loop's head the first j candidates are tried.
use Rattle.slivers.specs.Ready.{Passing, scene_of}
use Rattle.slivers.proofs.Pass.collapse_candidates.Given as goal

abbrev pub invariant-loop-j : goal.invariant-loop-j
invariant-loop-j l = Passing (scene_of l.self) l.self.corners.now l.self.labels.now l.self.heads l.sides l.items l.self.touched l.initial.work l.work l.j
