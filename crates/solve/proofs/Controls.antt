-- `solve` at closed cases, computed by one theorem over one table: points, parameters and counts are those of the Rust, as `to_bits` prints them. Assumes nothing.
use mathlib.Core.Path.{◌≡◌, refl}
use mathlib.Core.List.{List, [], ◌∷◌, map}
use Prim.Native.Nat.{ℕ}
use lib.Ieee.{Float, binary64, of_bits, to_bits, neg, add, sub, mul, div, lt, le, eq, is_nan}
use Rattle.float.specs.declared.Point.{Point}
use Rattle.float.specs.Point.{less}
use Rattle.float.specs.Order.{is_finite, greater}
use Rattle.field.specs.Sheet.{power, value_sum}
use Rattle.std.specs.Prelude.{Option, Some, None}
use Rattle.std.specs.Float.{float_with_sign}
use Rattle.solve.specs.declared.Cut.{Cut}
use Rattle.solve.specs.declared.Cut.TheVariants.{First, Second, At}
use Rattle.solve.specs.declared.Solved.{Solved}
use Rattle.solve.specs.Solve.{signum, edge_scale, point_between, residual, halves?, parameter, narrowed, from_round, solve}

-- an edge, all numbers as bits: the sheet's coefficients and powers, the two points, their values, and the level
pub record Given : Type 0 where
  pub qs : List ℕ
  pub ns : List ℕ
  pub a : ℕ × ℕ × ℕ
  pub b : ℕ × ℕ × ℕ
  pub first : ℕ
  pub second : ℕ
  pub level : ℕ

abbrev bits : ℕ → Float
bits n = of_bits binary64 n

abbrev point : ℕ × ℕ × ℕ → Point
point p = record { x = bits p.0; y = bits p.1; z = bits p.2 }

-- 1 for the first node, 2 for the second, 3 for a residual that is not finite, the point's x, y and z and the parameter for one between them; and then the count
abbrev shown : Point → Point → Option Cut → ℕ → List ℕ
shown a b (Some First) n = 1 ∷ n ∷ []
shown a b (Some Second) n = 2 ∷ n ∷ []
shown a b None n = 3 ∷ n ∷ []
shown a b (Some (At t)) n = let p = point_between a b t in to_bits binary64 p.x ∷ to_bits binary64 p.y ∷ to_bits binary64 p.z ∷ to_bits binary64 t ∷ n ∷ []

abbrev answer : Point → Point → Solved → List ℕ
answer a b s = shown a b s.cut s.taken

abbrev solved : Given → List ℕ
solved g =
    let l = bits g.level in
    answer (point g.a) (point g.b) (solve (residual (map bits g.qs) g.ns (point g.a) (point g.b) l) l (less (bits g.first) l) (less (bits g.second) l))

pub edges : List Given
edges =
    -- a sphere: all 52 field values
    record { qs = 0x3ff0000000000000 ∷ 0x3ff0000000000000 ∷ 0x3ff0000000000000 ∷ []; ns = 2 ∷ 0 ∷ 0 ∷ 0 ∷ 2 ∷ 0 ∷ 0 ∷ 0 ∷ 2 ∷ []; a = (0x3fd0000000000000, 0x3fe0000000000000, 0x3fc0000000000000); b = (0x3fe8000000000000, 0x3ff0000000000000, 0x3fe4000000000000); first = 0x3fd5000000000000; second = 0x3fff400000000000; level = 0x3ff0000000000000 } ∷
    -- x³ - 0.3·x
    record { qs = 0x3ff0000000000000 ∷ 0xbfd3333333333333 ∷ []; ns = 3 ∷ 0 ∷ 0 ∷ 1 ∷ 0 ∷ 0 ∷ []; a = (0x3fb999999999999a, 0x0000000000000000, 0x0000000000000000); b = (0x3ff0000000000000, 0x3fc999999999999a, 0x0000000000000000); first = 0xbf9db22d0e560418; second = 0x3fe6666666666666; level = 0x3fd3333333333333 } ∷
    -- a plane: one field value
    record { qs = 0x3ff0000000000000 ∷ []; ns = 1 ∷ 0 ∷ 0 ∷ []; a = (0x0000000000000000, 0x0000000000000000, 0x0000000000000000); b = (0x3ff0000000000000, 0x0000000000000000, 0x0000000000000000); first = 0x0000000000000000; second = 0x3ff0000000000000; level = 0x3fd3333333333333 } ∷
    -- steep: the tolerance is never met
    record { qs = 0x430c6bf526340000 ∷ 0xc30c6bf526340000 ∷ []; ns = 3 ∷ 0 ∷ 0 ∷ 2 ∷ 0 ∷ 0 ∷ []; a = (0x3feccccccccccccd, 0x0000000000000000, 0x0000000000000000); b = (0x3ff199999999999a, 0x0000000000000000, 0x0000000000000000); first = 0xc2d26ad20e83fff8; second = 0x42db832081240010; level = 0x3f50624dd2f1a9fc } ∷
    -- the first node is on the level
    record { qs = 0x3ff0000000000000 ∷ []; ns = 1 ∷ 0 ∷ 0 ∷ []; a = (0x0000000000000000, 0x0000000000000000, 0x0000000000000000); b = (0x3ff0000000000000, 0x0000000000000000, 0x0000000000000000); first = 0x0000000000000000; second = 0x3ff0000000000000; level = 0x0000000000000000 } ∷
    -- the second node is
    record { qs = 0x3ff0000000000000 ∷ []; ns = 1 ∷ 0 ∷ 0 ∷ []; a = (0x0000000000000000, 0x0000000000000000, 0x0000000000000000); b = (0x3ff0000000000000, 0x0000000000000000, 0x0000000000000000); first = 0x0000000000000000; second = 0x3ff0000000000000; level = 0x3ff0000000000000 } ∷
    -- subnormal residuals
    record { qs = 0x01a56e1fc2f8f359 ∷ 0x01a56e1fc2f8f359 ∷ []; ns = 3 ∷ 0 ∷ 0 ∷ 3 ∷ 3 ∷ 0 ∷ []; a = (0x0000000000000000, 0x0000000000000000, 0x0000000000000000); b = (0x3ee4f8b588e368f1, 0x3ee4f8b588e368f1, 0x0000000000000000); first = 0x0000000000000000; second = 0x000000000c1069cd; level = 0x0000000000002788 } ∷
    -- a flat cubic
    record { qs = 0x3ff0000000000000 ∷ []; ns = 3 ∷ 0 ∷ 0 ∷ []; a = (0xbff0000000000000, 0x0000000000000000, 0x0000000000000000); b = (0x3ff8000000000000, 0x3fe0000000000000, 0x3fd0000000000000); first = 0xbff0000000000000; second = 0x400b000000000000; level = 0x37a16c262777579c } ∷
    -- large terms that cancel
    record { qs = 0x4376345785d8a000 ∷ 0xc376345785d8a000 ∷ 0x3ff0000000000000 ∷ []; ns = 2 ∷ 0 ∷ 0 ∷ 0 ∷ 2 ∷ 0 ∷ 0 ∷ 0 ∷ 1 ∷ []; a = (0x3fe6666666666666, 0x3fe6666666666666, 0xbff0000000000000); b = (0x3feccccccccccccd, 0x3feccccccccccccd, 0x3ff0000000000000); first = 0xbff0000000000000; second = 0x3ff0000000000000; level = 0x3fb999999999999a } ∷
    -- a field value that overflows
    record { qs = 0x7fcc7b1f3cac7433 ∷ 0x3ff0000000000000 ∷ []; ns = 1 ∷ 1 ∷ 0 ∷ 0 ∷ 0 ∷ 1 ∷ []; a = (0x0000000000000000, 0x4044000000000000, 0xbff0000000000000); b = (0x4010000000000000, 0x0000000000000000, 0x3ff0000000000000); first = 0xbff0000000000000; second = 0x3ff0000000000000; level = 0x3fb999999999999a } ∷
    []

pub answers : List (List ℕ)
answers =
    (0x3fe0749f0fbcdad0 ∷ 0x3fe8749f0fbcdad0 ∷ 0x3fd8e93e1f79b5a0 ∷ 0x3fe0e93e1f79b5a0 ∷ 52 ∷ []) ∷
    (0x3fea23b7512449fe ∷ 0x3fc46403a8d64d27 ∷ 0x0000000000000000 ∷ 0x3fe97d04930be070 ∷ 52 ∷ []) ∷
    (0x3fd3333333333333 ∷ 0x0000000000000000 ∷ 0x0000000000000000 ∷ 0x3fd3333333333333 ∷ 1 ∷ []) ∷
    (0x3fefffffffffffe2 ∷ 0x0000000000000000 ∷ 0x0000000000000000 ∷ 0x3fdffffffffffec5 ∷ 52 ∷ []) ∷
    (1 ∷ 0 ∷ []) ∷
    (2 ∷ 0 ∷ []) ∷
    (0x3e98b4a771e6668c ∷ 0x3e98b4a771e6668c ∷ 0x0000000000000000 ∷ 0x3fa2d9540016181c ∷ 22 ∷ []) ∷
    (0x3ee0be7596790000 ∷ 0x3fc999a6fec47861 ∷ 0x3fb999a6fec47861 ∷ 0x3fd999a6fec47861 ∷ 23 ∷ []) ∷
    (0x3fe9eb851eb851ec ∷ 0x3fe9eb851eb851ec ∷ 0x3fb99999999999a0 ∷ 0x3fe199999999999a ∷ 1 ∷ []) ∷
    (3 ∷ 1 ∷ []) ∷
    []

pub controls : map solved edges ≡ answers
unfolding edges answers solve from_round parameter halves? narrowed residual edge_scale float_with_sign signum value_sum power of_bits to_bits neg add sub mul div lt le eq is_nan is_finite greater
controls = refl
