-- `sheet::number` meets its contract. The loop's invariant: the digits of `value` stand at `at`, up to `i`. Assumes nothing.
use mathlib.Core.Path.{◌≡◌}
use mathlib.Core.List.{◌++◌}
use lib.ListN.{drop}
use Rattle.sheet.specs.Text.{decimal}
use Rattle.sheet.proofs.number.Given as goal

abbrev pub invariant-loop-i : goal.invariant-loop-i
invariant-loop-i l = drop l.at l.text ≡ decimal l.value ++ drop l.i l.text
