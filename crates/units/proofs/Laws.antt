-- The laws of `specs/Laws`: a whole number of 1/1024 in range has few enough digits to be a value of f64. Assumes nothing.
use Prim.Native.Nat.{◌^◌, ◌≤◌}
use native.Mathlib.Nat.{lt_of_le_of_lt}
use mathlib.Core.Path.{◌≡◌, refl, sym, ◌∙◌, subst}
use mathlib.Core.Bool.{true}
use lib.Dec.{lit≤, lit<}
use lib.IntN.{ℤ, pos, negsuc, nat_abs}
use lib.Ieee.{Float, binary64, eq}
use Rattle.rounding.specs.Fraction.{signed, Is}
use Rattle.rounding.proofs.Exactness.{exact}
use Rattle.rounding.proofs.Rounded.{is-wholes}
use Rattle.rounding.proofs.Compared.{eq-values, same_level}
use Rattle.units.specs.Units.{in_units, OnUnits}
use Rattle.units.specs.Laws.{negative, from_units, UnitsLaws}

whole-signed : (k : ℤ) → signed (negative k) (nat_abs k) ≡ k
whole-signed (pos n) = refl
whole-signed (negsuc n) = refl

from_is : (k : ℤ) → nat_abs k ≤ 32768 → Is (from_units k) k 1024
from_is k h = exact binary64 10 (record { sign = negative k; size = nat_abs k; value = refl; same = whole-signed k }) (lt_of_le_of_lt h (lit< {m = 32768} {n = 2 ^ 53} tt)) (lit≤ tt)

back : (k : ℤ) → nat_abs k ≤ 32768 → (OnUnits (from_units k)) × (in_units (from_units k) ≡ k)
back k h =
    let p = from_is k h in
    let e : in_units (from_units k) ≡ k = is-wholes p in
    (record { whole = subst (λ (z : ℤ). Is (from_units k) z 1024) (sym e) p; range = subst (λ (z : ℤ). nat_abs z ≤ 32768) (sym e) h }, e)

there : (x : Float) → OnUnits x → eq (from_units (in_units x)) x ≡ true
there x h =
    let p = from_is (in_units x) h.range in
    let q = h.whole in
    eq-values (from_units (in_units x)) x p.sign q.sign p.size q.size 1024 (lit< tt) p.value q.value ∙ same_level p.sign q.sign p.size q.size (p.same ∙ sym q.same)

pub units-laws : UnitsLaws
units-laws = record { back = back; there = there }
