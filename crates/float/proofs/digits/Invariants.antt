-- `float::digits` meets its contract. Each turn is one `Step` of `Digit`, and what the recurrence gives from where the loop stands is what it gives from its start. Assumes nothing.
use mathlib.Core.Path.{◌≡◌}
use Prim.Native.Nat.{ℕ, ◌-◌, ◌*◌, ◌^◌, ◌≤◌, ◌<◌}
use Rattle.float.specs.Digits.{recurrence}
use Rattle.float.proofs.digits.Given as goal

-- where the loop stands, with l digits to come: the recurrence goes on to n from here
pub record Going (n l r s b : ℕ) : Type 0 where
  pub most : l ≤ 53
  pub short : r < 2 ^ (53 - l)
  pub small : s ≤ 2 * r
  pub word : b < 2 ^ 64
  pub same : recurrence l r s b ≡ n

abbrev pub invariant-loop : goal.invariant-loop
invariant-loop l = Going (recurrence l.initial.left l.initial.root l.initial.rest l.initial.bits) (l.left - l.counter) l.root l.rest l.bits
