-- `slivers::Pass::covers` meets its contract: at the loop's head the labels below l are covered.
use Rattle.slivers.specs.Cover.{Covering}
use Rattle.slivers.proofs.Pass.covers.Given as goal

abbrev pub invariant-loop-l : goal.invariant-loop-l
invariant-loop-l l = Covering l.work l.self.carried l.a l.b l.l
