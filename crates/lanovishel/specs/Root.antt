-- What `lanovishel_sqrt` promises of every call. Definitions only.
use Rattle.std.specs.Prelude.{◌≡◌, Float}
use Rattle.std.specs.Float.{binary64}
use Rattle.float.specs.Root.{root}
use Rattle.float.specs.Nearest.{IsRoot}

pub record SquareRoot (x r : Float) : Type 0 where
  -- document 01's root, which computes over whole numbers
  pub is : r ≡ root binary64 x
  -- and what IEEE 754 asks of squareRoot, in its own terms: no other f64 is as near to the exact root
  pub nearest : IsRoot binary64 x r
