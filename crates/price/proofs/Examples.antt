-- Prices by a sheet of two steps, 500 cents a unit cube up to 10 and 300 above, and the answer for a corner of the unit cube. By computation.
use Rattle.std.specs.Prelude.{Ok}
use Prim.Native.Nat.{ℕ, ◌+◌, ◌*◌, ◌^◌}
use mathlib.Core.Path.{◌≡◌, refl}
use mathlib.Core.Bool.{true}
use mathlib.Core.List.{List, [], ◌∷◌}
use lib.IntN.{pos, negsuc}
use Rattle.surface.specs.Triangle.{triangles}
use Rattle.surface.specs.Check.{every}
use Rattle.units.proofs.Tests.{all-on-units_iff}
use Rattle.volume.specs.Six.{six}
use Rattle.volume.proofs.Examples.{points, corners, cube-corner}
use Rattle.price.specs.Price.{unit_cube, sum_of_steps, cents}
use Rattle.price.specs.Tariff.{rises, rising?, tariff?}
use Rattle.price.specs.Quote.{quoted}
use Rattle.price.proofs.Answers.{by_question}

abbrev uppers : List ℕ
uppers = 10 ∷ []

abbrev prices : List ℕ
prices = 500 ∷ 300 ∷ []

-- ten unit cubes and a half; ten, and the least volume more and less; the least that there is, and an inside that is out
pub ten_and_a-half : cents (pos (10 * unit_cube + 3 * 2 ^ 30)) uppers prices ≡ 5300
unfolding sum_of_steps
ten_and_a-half = refl

pub ten : cents (pos (10 * unit_cube)) uppers prices ≡ 5000
unfolding sum_of_steps
ten = refl

pub above_ten : cents (pos (10 * unit_cube + 1)) uppers prices ≡ 5300
unfolding sum_of_steps
above_ten = refl

pub below_ten : cents (pos (9 * unit_cube + 6442450943)) uppers prices ≡ 5000
unfolding sum_of_steps
below_ten = refl

pub least : cents (pos 1) uppers prices ≡ 500
unfolding sum_of_steps
least = refl

pub inside_out : cents (negsuc 0) uppers prices ≡ 0
unfolding sum_of_steps
inside_out = refl

-- a sixth of a unit cube, as a call
is-tariff : tariff? uppers prices ≡ true
unfolding every rises rising? tariff?
is-tariff = refl

pub cube-corner_price : quoted points corners cube-corner.labels cube-corner.work uppers prices ≡ Ok 500
unfolding sum_of_steps six triangles
cube-corner_price = by_question points corners cube-corner.labels cube-corner.work uppers prices _ cube-corner.accepted ((all-on-units_iff points).1 cube-corner.units) is-tariff
