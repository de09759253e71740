-- The plane in f64: the height as a coordinate is exact, and a coordinate on whole units lies above it where its whole number is greater. Assumes nothing.
use Prim.Native.Nat.{ℕ, suc, ◌+◌, ◌*◌, ◌/◌, ◌^◌, ◌≤◌, ◌<◌}
use mathlib.Core.Path.{◌≡◌, refl, ap, subst}
use mathlib.Core.Bool.{true, false}
use mathlib.Core.List.{List}
use native.Mathlib.Nat.{mul-one, lt_of_le_of_lt}
use lib.Dec.{lit≤, lit<}
use lib.IntN.{ℤ, pos, negsuc, nat_abs, neg_ℤ, ◌*ℤ◌}
use lib.ListN.{length, get_or}
use lib.Ieee.{Float, nan, binary64, of_bits, of_int, mul, lt}
use Rattle.rounding.specs.Fraction.{Is, Rounds}
use Rattle.rounding.proofs.Exactness.{exact}
use Rattle.rounding.proofs.Bounded.{Holds, holds-times}
use Rattle.rounding.proofs.Compared.{lt_integers}
use Rattle.units.specs.Units.{AllOnUnits}
use Rattle.units.proofs.Points.{point-holds}
use Rattle.layers.specs.Layer.{above_layer}

-- 1/1024
abbrev pub unit : Float
unit = of_bits binary64 0x3f50_0000_0000_0000

unit-holds : Holds unit (pos 1) 10 1
unfolding of_bits
unit-holds = record { is = record { sign = false; size = 1; value = (refl, refl); same = refl }; most = lit≤ tt }

rounds : (z : ℤ) → Rounds binary64 (of_int binary64 z) z 1
unfolding of_int
rounds (pos n) = record { sign = false; size = n; value = refl; same = refl }
rounds (negsuc n) = record { sign = true; size = suc n; value = refl; same = refl }

once : (h : ℤ) → h *ℤ pos 1 ≡ h
once (pos n) = ap pos (mul-one n)
once (negsuc n) = ap (λ (k : ℕ). neg_ℤ (pos k)) (mul-one (suc n))

-- the height as the code has it
pub level_holds : (h : ℤ) → nat_abs h ≤ 32768 → Holds (mul binary64 (of_int binary64 h) unit) h 10 32768
level_holds h l =
    subst (λ (z : ℤ). Holds (mul binary64 (of_int binary64 h) unit) z 10 32768) (once h)
    (holds-times binary64 0 10 32768 1 (lit< tt) (lit≤ tt) (record { is = exact binary64 0 (rounds h) (lt_of_le_of_lt l (lit< {m = 32768} {n = 2 ^ 53} tt)) (lit≤ tt); most = l }) unit-holds)

-- a corner lies above the plane where the code's comparison says so
pub above_level : (points : List Float) (h : ℤ) (level : Float) → AllOnUnits points → Is level h 1024 → (v : ℕ) → v < length points / 3 → lt level (get_or points (3 * v + 2) nan) ≡ above_layer points h v
above_level points h level on is v l = lt_integers (lit< tt) is (point-holds points on v l).z.is
