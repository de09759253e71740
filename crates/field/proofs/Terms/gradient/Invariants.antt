-- `field::Terms::gradient` meets its contract. After t turns the sums are those of the first t terms. Assumes nothing.
use mathlib.Core.Path.{◌≡◌}
use Rattle.field.specs.Sheet.{terms, slope_x, slope_y, slope_z}
use Rattle.field.proofs.Terms.gradient.Given as goal

abbrev pub invariant-loop-t : goal.invariant-loop-t
invariant-loop-t l =
    (l.t-end ≡ terms l.self.coefficients.now l.self.powers.now)
    × (l.x ≡ slope_x l.t l.self.coefficients.now l.self.powers.now l.p)
    × (l.y ≡ slope_y l.t l.self.coefficients.now l.self.powers.now l.p)
    × (l.z ≡ slope_z l.t l.self.coefficients.now l.self.powers.now l.p)
