-- `vectors::F64Element::same` meets its contract. Assumes nothing.
use mathlib.Core.Path.{refl, sym, subst, ◌∙◌}
use lib.Dec.{T}
use Rattle.vectors.proofs.Digits.{no_nan, nan_same, not_same, bits_same}
use Rattle.vectors.proofs.F64Element.same.Goals as goal

pub returns-then-is_nan : goal.returns-then-is_nan
returns-then-is_nan c =
    nan_same c.args.self c.args.other _ (sym c.is_nan.ensures.value ∙ c.if-is_nan.true) (sym c.is_nan-then-is_nan.ensures.value)

pub returns-then-is_nan-2 : goal.returns-then-is_nan-2
returns-then-is_nan-2 c =
    not_same c.args.self c.args.other (sym c.is_nan.ensures.value ∙ c.if-is_nan.false) (sym c.is_nan-2.ensures.value ∙ c.if-is_nan-2.true)

pub float_to_bits-result : goal.float_to_bits-result
float_to_bits-result c = no_nan _ (sym c.is_nan.ensures.value ∙ c.if-is_nan.false)

pub float_to_bits-result-2 : goal.float_to_bits-result-2
float_to_bits-result-2 c = no_nan _ (sym c.is_nan-2.ensures.value ∙ c.if-is_nan-2.false)

pub returns : goal.returns
returns c =
    bits_same c.args.self c.args.other _ (subst T (sym c.well_formed.0.1) tt) (subst T (sym c.well_formed.1.0.1) tt) refl
