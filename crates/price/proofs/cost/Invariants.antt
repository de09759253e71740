-- `price::cost` meets its contract. The invariant is `Walking`.
use Rattle.price.specs.Stages.{Costable}
use Rattle.price.proofs.Walk.{Walking}
use Rattle.price.proofs.cost.Given as goal

abbrev pub invariant-loop-k : goal.invariant-loop-k
invariant-loop-k l = (Costable l.cubes l.uppers l.prices) × (Walking l.cubes l.uppers l.prices l.sum l.lower l.k)
