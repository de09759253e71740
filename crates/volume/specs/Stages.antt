-- What `share` hands to `exact`. Definitions only.
use Rattle.std.specs.Prelude.{ℕ, ℤ, pos, nat_abs, ◌+ℤ◌}

-- z + 2 ^ 51: positive for the z of one triangle
abbrev pub lifted : ℤ → ℕ
lifted z = nat_abs (z +ℤ pos 2251799813685248)
