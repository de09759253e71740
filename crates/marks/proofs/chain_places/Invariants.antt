-- `marks::chain_places` meets its contract: at the loop's head the places from k on are chained.
use Prim.Native.Nat.{◌+◌}
use lib.ListN.{length}
use Rattle.halfedges.specs.Free.{Free}
use Rattle.chains.proofs.Marks.{Chaining}
use Rattle.marks.proofs.chain_places.Given as goal

abbrev pub invariant-loop-k : goal.invariant-loop-k
invariant-loop-k l = record { free : Free 0 (0 + l.points + length l.corners) l.initial.work l.work; chaining : Chaining l.corners l.points l.work l.k }
