-- A test as a number.
use Prim.Native.Nat.{ℕ, ◌≤◌}
use native.Mathlib.Omega.{arith}
use mathlib.Core.Path.{◌≡◌, refl}
use mathlib.Core.Bool.{Bool, true, false}
use mir.Val.{bool_byte}
use Rattle.surface.specs.Closed.{one}

pub bit_one : (b : Bool) → bool_byte b ≡ one b
bit_one true = refl
bit_one false = refl

pub bit_most : (b : Bool) (n : ℕ) → n ≡ bool_byte b → n ≤ 1
bit_most true n e = omega arith
bit_most false n e = omega arith
