-- `writing::within` meets its contract. The loop's invariant: what is asked of all is what is asked of those from `z-index` on.
use mathlib.Core.Path.{◌≡◌}
use lib.ListN.{drop}
use Rattle.surface.specs.Check.{every}
use Rattle.writing.specs.Lists.{coordinate_in_range?}
use Rattle.writing.proofs.within.Given as goal

abbrev pub invariant-loop-z : goal.invariant-loop-z
invariant-loop-z l = every (coordinate_in_range? l.most) l.coordinates ≡ every (coordinate_in_range? l.most) (drop l.z-index l.coordinates)
