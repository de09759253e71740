-- `root_ways::decided` is safe: the count is at most the number of turns. Assumes nothing.
use Prim.Native.Nat.{◌≤◌}
use Rattle.root_ways.proofs.decided.Given as goal

abbrev pub invariant-loop : goal.invariant-loop
invariant-loop l = l.count ≤ l.counter
