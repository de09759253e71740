-- `converting::turn_all` meets its contract. The loop's invariant: the coordinates below `k` are turned, and the others as they were. Assumes nothing.
use Rattle.sheet.specs.Edition.{edition_number}
use Rattle.converting.specs.Converting.{unit_of}
use Rattle.converting.proofs.Turning.{Turning}
use Rattle.converting.proofs.turn_all.Given as goal

abbrev pub invariant-loop-k : goal.invariant-loop-k
invariant-loop-k l = Turning (unit_of (edition_number l.from)) (unit_of (edition_number l.asked)) l.count l.initial.coordinates l.k l.coordinates l.same
