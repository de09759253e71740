-- The field at the nodes, and the values near a level set onto it, as `extract` has it. Definitions only.
use Rattle.std.specs.Prelude.{ℕ, zero, suc, Bool, false, ◌&&◌, cond, List, [], ◌∷◌, ◌++◌, map, Float}
use Rattle.std.specs.Float.Ieee as Ieee
use Rattle.std.specs.Float.{binary64, float_with_sign}
use Rattle.std.specs.Float.Ieee.{of_bits}
use Rattle.float.specs.Point.{less, times}
use Rattle.float.specs.Order.{greater, is_finite}
use Rattle.field.specs.Sheet.{value}
use Rattle.lattice.specs.Node.{node}

-- 64, 2^-52 (the Rust's f64::EPSILON) and 2^-1022 (f64::MIN_POSITIVE)
abbrev pub sixty_four : Float
sixty_four = of_bits binary64 0x4050_0000_0000_0000

abbrev pub epsilon : Float
epsilon = of_bits binary64 0x3cb0_0000_0000_0000

abbrev pub least_normal : Float
least_normal = of_bits binary64 0x0010_0000_0000_0000

-- the field at the first k nodes
unfoldable pub sampled : List Float → List ℕ → List Float → ℕ → ℕ → List Float
sampled qs ns bounds cells zero = []
sampled qs ns bounds cells (suc k) = sampled qs ns bounds cells k ++ (value qs ns (node bounds cells k) ∷ [])

-- |x|
abbrev pub magnitude : Float → Float
magnitude x = float_with_sign false x

-- the greatest of s and the values' magnitudes
unfoldable pub largest : Float → List Float → Float
unfolding float_with_sign greater
largest s [] = s
largest s (v ∷ vs) = largest (greater s (magnitude v)) vs

-- the greater of s and a level's magnitude; a level that is not finite is left out
unfoldable pub with_level : Float → Float → Float
unfolding float_with_sign greater is_finite
with_level s level = cond (is_finite level) (greater s (magnitude level)) s

-- the scale of the sampled values and both levels
unfoldable pub value_scale : Float → Float → List Float → Float
unfolding largest with_level
value_scale lower upper values = with_level (with_level (largest least_normal values) lower) upper

-- (64·2^-52)·scale
abbrev pub tolerance : Float → Float
tolerance scale = times (times sixty_four epsilon) scale

-- a value is within t of a finite level
unfoldable pub near_level? : Float → Float → Float → Bool
unfolding float_with_sign is_finite
near_level? t level v = is_finite level && Ieee.le (magnitude (less v level)) t

-- it is then set onto the level
unfoldable pub onto : Float → Float → Float → Float
unfolding near_level?
onto t level v = cond (near_level? t level v) level v

-- onto the lower level first; the upper one is compared with the value as that left it
abbrev pub onto_both : Float → Float → Float → Float → Float
onto_both t lower upper v = onto t upper (onto t lower v)

-- all the values
abbrev pub onto_levels : Float → Float → List Float → List Float
onto_levels lower upper values = map (onto_both (tolerance (value_scale lower upper values)) lower upper) values
