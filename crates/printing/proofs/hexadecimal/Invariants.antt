-- `printing::hexadecimal` meets its contract. The loop's invariant: the last `k` digits are left to be written.
use mathlib.Core.Path.{◌≡◌}
use Rattle.printing.proofs.Digits.{Row}
use Rattle.printing.proofs.hexadecimal.Given as goal

abbrev pub invariant-loop-k : goal.invariant-loop-k
invariant-loop-k l = record {
  same : l.writer.written.ghost_name ≡ l.initial.writer.written.ghost_name;
  row : Row l.v l.k l.initial.writer.written.now l.writer.written.now l.initial.writer.at l.writer.at;
}
