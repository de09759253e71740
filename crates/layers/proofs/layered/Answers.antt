-- `layers::layered` meets its contract: where neither test refuses, the points are asked. Assumes nothing.
use mathlib.Core.Path.{sym}
use mir.Syntax.{w32}
use mir.ValLaws.{to_z-of_z}
use Rattle.units.proofs.Tests.{on-units_test}
use Rattle.layers.proofs.Questions.{in_range}
use Rattle.layers.proofs.layered.Goals as goal

pub returns : goal.returns
returns c =
    let back = to_z-of_z w32 c.args.height c.ranges.height in
    in_range c.args.points.now c.args.height (cc) (cc) (sym (on-units_test c.args.points.now _ c.on_units.ensures))
