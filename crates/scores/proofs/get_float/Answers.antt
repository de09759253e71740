-- `scores::get_float` meets its contract: the bits are those of some float, and but for the one NaN of the logic they are no NaN's. Assumes nothing.
use mathlib.Core.Path.{refl}
use Rattle.scores.proofs.Words.{got, got_nan, got_number}
use Rattle.scores.proofs.get_float.Goals as goal

pub returns-then-b-eq9221120237041090560 : goal.returns-then-b-eq9221120237041090560
returns-then-b-eq9221120237041090560 c =
    got_nan c.args.work.now c.args.at c.from-high.result c.from-low.result _ c.requires c.from-high.ensures c.from-low.ensures refl c.if-b-eq9221120237041090560.true

pub float_from_bits-result : goal.float_from_bits-result
float_from_bits-result c =
    got_number c.args.work.now c.args.at c.from-high.result c.from-low.result _ c.requires c.from-high.ensures c.from-low.ensures refl c.if-b-eq9221120237041090560.false

pub returns : goal.returns
returns c =
    got c.args.work.now c.args.at c.from-high.result c.from-low.result _ c.requires c.from-high.ensures c.from-low.ensures refl
