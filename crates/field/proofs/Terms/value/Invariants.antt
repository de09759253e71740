-- `field::Terms::value` meets its contract. After t turns the sum is that of the first t terms. Assumes nothing.
use mathlib.Core.Path.{◌≡◌}
use Rattle.field.specs.Sheet.{terms, value_sum}
use Rattle.field.proofs.Terms.value.Given as goal

abbrev pub invariant-loop-t : goal.invariant-loop-t
invariant-loop-t l = (l.t-end ≡ terms l.self.coefficients.now l.self.powers.now) × (l.sum ≡ value_sum l.t l.self.coefficients.now l.self.powers.now l.p)
