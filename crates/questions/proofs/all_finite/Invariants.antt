-- `questions::all_finite` meets its contract: at the loop's head all that was tested, and the values from there on, decide.
use mathlib.Core.Path.{◌≡◌}
use mathlib.Core.Bool.{◌&&◌}
use lib.ListN.{drop}
use Rattle.float.specs.Order.{is_finite}
use Rattle.surface.specs.Check.{every}
use Rattle.questions.proofs.all_finite.Given as goal

abbrev pub invariant-loop-x : goal.invariant-loop-x
invariant-loop-x l = (l.all && every is_finite (drop l.x-index l.points)) ≡ every is_finite l.points
