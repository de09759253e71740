-- `sheet::word` meets its contract. The loop's invariant: the first `b-index` bytes of the word stand at `at`, up to `i`. Assumes nothing.
use mathlib.Core.Path.{◌≡◌}
use mathlib.Core.List.{◌++◌}
use lib.ListN.{take, drop}
use Rattle.sheet.proofs.word.Given as goal

abbrev pub invariant-loop-b : goal.invariant-loop-b
invariant-loop-b l = drop l.at l.text ≡ take l.b-index l.w ++ drop l.i l.text
