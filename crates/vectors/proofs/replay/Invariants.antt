-- `vectors::replay` meets its contract: each vector moves on. Assumes nothing.
use Prim.Native.Nat.{◌-◌, ◌≤◌}
use Rattle.vectors.specs.Words.{count_of}
use Rattle.vectors.proofs.replay.Given as goal

abbrev pub invariant-loop-k : goal.invariant-loop-k
invariant-loop-k g l = (l.k ≤ count_of l.text) × (l.tally.vectors ≤ l.k) × (l.tally.same ≤ l.tally.vectors)

abbrev pub decreases-loop-k : goal.decreases-loop-k
decreases-loop-k g l = count_of l.text - l.k
