-- `float::fraction` is safe: the bits that it makes are those of a number, no NaN. Assumes nothing.
use Prim.Native.Nat.{◌/◌}
use native.Mathlib.Omega.{arith}
use lib.Ieee.{binary64}
use Rattle.float.proofs.Pack.{packed_no_nan}
use Rattle.float.proofs.guess.fraction.Goals as goal

pub float_from_bits-result : goal.float_from_bits-result
float_from_bits-result c = packed_no_nan binary64 c.args.wide 1022 (omega arith) (omega arith) (omega arith)

pub float_from_bits-result-2 : goal.float_from_bits-result-2
float_from_bits-result-2 c = packed_no_nan binary64 (c.args.wide / 2) 1023 (omega arith) (omega arith) (omega arith)
