-- `vectors::joined` meets its contract. Assumes nothing.
use mathlib.Core.Path.{ap₂, ◌∙◌}
use Rattle.vectors.specs.Words.{joined}
use Rattle.vectors.proofs.Digits.{no_nan_bits, nan_bits_lem}
use Rattle.vectors.proofs.joined.Goals as goal

pub returns-then-bits-gt9218868437227405312 : goal.returns-then-bits-gt9218868437227405312
returns-then-bits-gt9218868437227405312 c =
    nan_bits_lem _ c.if-bits-gt9218868437227405312.true ∙ ap₂ joined c.from.ensures c.from-2.ensures

pub float_from_bits-result : goal.float_from_bits-result
float_from_bits-result c = no_nan_bits _ c.if-bits-gt9218868437227405312.false
