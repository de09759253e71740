-- What a quick test of a triangle shows where it passes: that its quality is kept and does not lower the minimum. Definitions only.
use Rattle.std.specs.Prelude.{◌≡◌, Bool, false, ◌&&◌, pos, negsuc, Float}
use Rattle.std.specs.Float.{fin, binary64}
use Rattle.std.specs.Float.Ieee.{lt}
use Rattle.float.specs.Root.{root}
use Rattle.float.specs.Order.{lesser}
use Rattle.float.specs.Point.{times}
use Rattle.quality.specs.Quality.{over, scale, degenerate}

-- 2 ^ -500 and 2 ^ 500, and what lies between them
abbrev pub tiny : Float
tiny = fin false 1 (negsuc 499)

abbrev pub huge : Float
huge = fin false 1 (pos 500)

abbrev pub sized_of : Float → Bool
sized_of x = lt tiny x && lt x huge

-- the quality by the squared length of the normal, and the sum of the squared sides
abbrev pub quality_by : Float → Float → Float
quality_by d sum = over (times scale (root binary64 d)) sum

pub record Passes (minimum d sum : Float) : Type 0 where
  pub kept : degenerate (quality_by d sum) ≡ false
  pub same : lesser minimum (quality_by d sum) ≡ minimum
