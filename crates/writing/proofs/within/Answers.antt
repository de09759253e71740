-- `writing::within` meets its contract.
use mathlib.Core.Path.{◌≡◌, refl, sym, ap, ◌∙◌}
use native.Mathlib.Omega.{arith}
use lib.IntN.{pos, nat_abs}
use lib.ListN.{get_or}
use borrow.Author.Tests.{le-leb, lt-leb}
use Rattle.surface.proofs.All.{all-on, all_out, all_done}
use Rattle.writing.specs.Lists.{coordinate_in_range?}
use Rattle.sheet.proofs.Signs.{back}
use Rattle.writing.proofs.within.Goals as goal

pub returns-then-unsigned_abs-most : goal.returns-then-unsigned_abs-most
returns-then-unsigned_abs-most c =
    let z = get_or c.args.coordinates.now c.loop-z.z-index (pos 0) in
    let e : c.unsigned_abs.result ≡ nat_abs z = c.unsigned_abs.ensures.value ∙ ap nat_abs (back z z refl (omega arith)) in
    sym (c.loop-z.invariant ∙ all_out (coordinate_in_range? c.args.most) (pos 0) c.args.coordinates.now c.loop-z.z-index (omega arith) (lt-leb (nat_abs z) c.args.most (omega arith)))

pub loop-z-preserved : goal.loop-z-preserved
loop-z-preserved c =
    let z = get_or c.args.coordinates.now c.loop-z.z-index (pos 0) in
    let e : c.unsigned_abs.result ≡ nat_abs z = c.unsigned_abs.ensures.value ∙ ap nat_abs (back z z refl (omega arith)) in
    c.loop-z.invariant ∙ all-on (coordinate_in_range? c.args.most) (pos 0) c.args.coordinates.now c.loop-z.z-index (omega arith) (le-leb (nat_abs z) c.args.most (omega arith))

pub returns : goal.returns
returns c =
    sym (c.loop-z.invariant ∙ all_done (coordinate_in_range? c.args.most) c.args.coordinates.now c.loop-z.z-index (omega arith))
