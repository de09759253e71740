-- How many unit cubes a surface starts at most, 2 ^ 33, since six times its volume is at most 32,768 times 3 * 2 ^ 49; and what so many cost at most. Assumes nothing.
use Prim.Native.Nat.{ℕ, ◌*◌, ◌/◌, ◌≤◌}
use mathlib.Core.Path.{◌≡◌}
use mathlib.Core.Bool.{true}
use mathlib.Core.List.{List, [], ◌∷◌}
use native.Mathlib.Nat.{le_trans}
use native.Mathlib.Omega.{arith}
use lib.IntN.{ℤ, pos, negsuc, nat_abs}
use lib.ListN.{length}
use lib.Ieee.{Float}
use Rattle.units.specs.Units.{units_at}
use Rattle.volume.specs.Volume.{six_of}
use Rattle.volume.specs.Exact.{Measurable}
use Rattle.volume.proofs.Wedge.{most_six}
use Rattle.volume.proofs.Size.{six-size}
use Rattle.price.specs.Price.{started, amount}
use Rattle.price.specs.Tariff.{rising?, capped?, Tariff}
use Rattle.price.specs.Stages.{by_cubes}
use Rattle.price.proofs.Steps.{at_most}
use Rattle.price.proofs.Rules.{tested, tariff_iff}

amount-size : (v : ℤ) → amount v ≤ nat_abs v
amount-size (pos n) = omega arith
amount-size (negsuc n) = omega arith

few : (v n : ℕ) → v ≤ n * most_six → n ≤ 32768 → started v ≤ 8589934592
few v n h k = omega arith

pub few-started : (points : List Float) (corners : List ℕ) → Measurable points corners → started (amount (six_of points corners (units_at points 0))) ≤ 8589934592
few-started points corners m =
    let v = six_of points corners (units_at points 0) in
    few (amount v) (length corners / 3) (le_trans (amount-size v) (six-size points corners m)) m.few

from_zero : (n : ℕ) (us ps : List ℕ) → rising? us ≡ true → capped? ps ≡ true → by_cubes n 0 us ps ≤ 100000 * n
from_zero n [] ps r c = let h = at_most n 0 [] ps tt r c in omega arith
from_zero n (u ∷ us) ps r c = let h = at_most n 0 (u ∷ us) ps (omega arith) r c in omega arith

pub most_paid : (n : ℕ) (us ps : List ℕ) → n ≤ 8589934592 → Tariff us ps → by_cubes n 0 us ps ≤ 858993459200000
most_paid n us ps few t =
    let e = tested us ps ((tariff_iff us ps).1 t) in
    let h = from_zero n us ps e.risen e.capped in
    omega arith
