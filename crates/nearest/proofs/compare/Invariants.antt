-- `nearest::compare` meets its contract: the corner is passed over, or meets each probe in turn (`proofs/Turns`).
use mathlib.Core.Path.{◌≡◌}
use Rattle.checking.specs.Validate.{point_at}
use Rattle.nearest.proofs.Turns.{Comparing}
use Rattle.nearest.proofs.compare.Given as goal

abbrev pub invariant-loop-i : goal.invariant-loop-i
invariant-loop-i l = (l.p ≡ point_at l.points l.v) × (Comparing l.points l.work l.probes l.v l.initial.bests l.bests l.i)
