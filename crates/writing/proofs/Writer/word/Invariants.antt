-- `writing::Writer::word` meets its contract. The loop's invariant: the first `b-index` bytes have been written.
use Rattle.std.proofs.Common.{take}
use Rattle.writing.specs.Stages.{Writes}
use Rattle.writing.proofs.Writer.word.Given as goal

abbrev pub invariant-loop-b : goal.invariant-loop-b
invariant-loop-b l = Writes (take l.b-index l.w) l.b-index l.initial.self l.self
