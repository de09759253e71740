-- `vectors::F64Element::at` meets its contract. Assumes nothing.
use native.Mathlib.Omega.{arith}
use Rattle.vectors.proofs.Digits.{zero_float_lem}
use Rattle.vectors.proofs.F64Element.at.Goals as goal

pub returns-then-k-count : goal.returns-then-k-count
returns-then-k-count c = zero_float_lem _ _ (omega (arith, c.if-k-count.true, c.count.ensures))
