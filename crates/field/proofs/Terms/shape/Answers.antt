-- `field::Terms::shape` meets its contract, by those of the functions that it calls. Assumes nothing.
use Rattle.field.proofs.Sums.{shaped}
use Rattle.field.proofs.Terms.shape.Goals as goal

pub returns : goal.returns
returns c =
    shaped c.args.self.now.coefficients.now c.args.self.now.powers.now c.args.a c.args.b c.args.c c.args.label c.sub.result c.sub-2.result c.sub-3.result c.normal.result c.middle.result c.formed.result
    c.formed.ensures c.sub.ensures c.sub-2.ensures c.sub-3.ensures c.normal.ensures c.middle.ensures
