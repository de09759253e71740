-- `checking::measure` meets its contract: at the loop's head the fold over the triangles that are left, from the measures so far, is the answer.
use Rattle.std.specs.Slice.Iter.{chunks_exact_rest, chunks_exact_size}
use Rattle.checking.proofs.Turns.{Measuring}
use Rattle.checking.proofs.measure.Given as goal

abbrev pub invariant-loop-t : goal.invariant-loop-t
invariant-loop-t l =
    (goal.iterator-loop-t).can_next l.t-iterator × (goal.iterator-loop-t).is_finite l.t-iterator × Measuring l.points l.corners l.factor l.origin l.so_far (chunks_exact_rest l.t-iterator) (chunks_exact_size l.t-iterator)
