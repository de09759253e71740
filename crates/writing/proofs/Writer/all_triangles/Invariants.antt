-- `writing::Writer::all_triangles` meets its contract. The loop's invariant: `k` lines have been written.
use Rattle.std.proofs.Common.{◌*◌}
use Rattle.sheet.specs.Text.{lines}
use Rattle.sheet.specs.Sheet.{triangle_line}
use Rattle.writing.specs.Lists.{each, list_triangle}
use Rattle.writing.specs.Stages.{Writes}
use Rattle.writing.proofs.Writer.all_triangles.Given as goal

abbrev pub invariant-loop-k : goal.invariant-loop-k
invariant-loop-k l = Writes (lines triangle_line (each (list_triangle l.corners l.labels) l.k)) (l.k * 44) l.initial.self l.self
