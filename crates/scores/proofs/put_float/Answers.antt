-- `scores::put_float` meets its contract: the bits of an f64 are below 2 ^ 64, so each of the two words fits. Assumes nothing.
use mathlib.Core.Path.{sym, ◌∙◌, subst}
use native.Mathlib.Omega.{arith}
use lib.Dec.{T}
use lib.Ieee.{binary64}
use lib.Ieee.Bits.{to_bits-lt}
use Rattle.scores.proofs.Words.{nan_is, put_nan}
use Rattle.scores.proofs.put_float.Goals as goal

pub returns-then-is_nan : goal.returns-then-is_nan
returns-then-is_nan c = put_nan c.args.work.now c.args.at c.args.x (nan_is c.args.x (sym c.is_nan.ensures.value ∙ c.if-is_nan.true))

pub overflow_cast-work : goal.overflow_cast-work
overflow_cast-work c =
    omega (arith, to_bits-lt binary64 c.args.x (subst T (sym c.well_formed.1.1.0.1) tt))
