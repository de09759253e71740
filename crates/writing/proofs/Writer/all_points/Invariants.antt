-- `writing::Writer::all_points` meets its contract. The loop's invariant: `k` lines have been written.
use Rattle.std.proofs.Common.{◌*◌}
use Rattle.sheet.specs.Text.{lines}
use Rattle.sheet.specs.Sheet.{point_line}
use Rattle.writing.specs.Lists.{each, list_point}
use Rattle.writing.specs.Stages.{Writes}
use Rattle.writing.proofs.Writer.all_points.Given as goal

abbrev pub invariant-loop-k : goal.invariant-loop-k
invariant-loop-k l = Writes (lines point_line (each (list_point l.coordinates) l.k)) (l.k * 36) l.initial.self l.self
