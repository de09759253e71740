-- The test of a guess at a root. Definitions only.
use Rattle.std.specs.Prelude.{ℕ, ◌+◌, ◌&&◌, cond, Option, None, Some, leb}

-- the number q, where the guess g is q or a number beside it
unfoldable pub if_beside : ℕ → ℕ → Option ℕ
if_beside g q = cond (leb q (g + 1) && leb g (q + 1)) (Some q) None
