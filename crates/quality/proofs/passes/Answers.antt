-- `quality::passes` meets its contract: only the last test can answer true, and then the law of `Quick` holds. Assumes nothing.
use mathlib.Core.Path.{sym, ap, ◌∙◌, subst}
use mathlib.Core.Bool.{false≢true}
use lib.Dec.{T}
use lib.Ieee.{Float, binary64, of_bits, mul, le}
use lib.Ieee.Fits.{mul-fits}
use Rattle.float.specs.Point.{times}
use Rattle.quality.specs.Quality.{over}
use Rattle.quality.proofs.Quick.{sized-is, passes as law}
use Rattle.quality.proofs.passes.Goals as goal

pub returns-then-not-s-d : goal.returns-then-not-s-d
returns-then-not-s-d c e = absurd (false≢true e)

pub returns-then-not-sized : goal.returns-then-not-sized
returns-then-not-sized c e = absurd (false≢true e)

pub returns-then-not-sized-2 : goal.returns-then-not-sized-2
returns-then-not-sized-2 c e = absurd (false≢true e)

pub returns-then-not-sized-3 : goal.returns-then-not-sized-3
returns-then-not-sized-3 c e = absurd (false≢true e)

pub returns-then-not-sized-4 : goal.returns-then-not-sized-4
returns-then-not-sized-4 c e = absurd (false≢true e)

pub returns : goal.returns
returns c e =
    law c.args.minimum c.args.d c.args.sum _
    (sized-is c.args.minimum (sym c.sized.ensures ∙ c.if-not-sized.false))
    (sized-is c.args.d (sym c.sized-2.ensures ∙ c.if-not-sized-2.false))
    (sized-is c.args.sum (sym c.sized-3.ensures ∙ c.if-not-sized-3.false))
    (sized-is _ (sym c.sized-4.ensures ∙ c.if-not-sized-4.false))
    (subst T (sym c.well_formed.1.1.0.1) tt)
    (mul-fits binary64 (mul binary64 c.args.minimum c.args.sum) (of_bits binary64 4598871928835971551))
    (c.if-not-s-d.false)
    (subst T (sym (sym (ap (λ (k : Float). le c.args.minimum (over (times k (times (times c.args.minimum c.args.sum) (of_bits binary64 4598871928835971551))) c.args.sum)) c.requires) ∙ e)) tt)
