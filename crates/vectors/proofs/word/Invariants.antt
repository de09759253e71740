-- `vectors::word` meets its contract. The loop's invariant: the value is what the first `i` digits spell. Assumes nothing.
use Prim.Native.Nat.{◌*◌, ◌^◌, ◌≤◌, ◌<◌}
use mathlib.Core.Path.{◌≡◌}
use Rattle.vectors.specs.Words.{spelled}
use Rattle.vectors.proofs.word.Given as goal

abbrev pub invariant-loop-i : goal.invariant-loop-i
invariant-loop-i l = (l.i ≤ 8) × (l.value < 2 ^ (l.i * 4)) × (l.value ≡ spelled l.text l.at l.i)
