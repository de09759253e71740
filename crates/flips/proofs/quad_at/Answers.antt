-- `flips::quad_at` meets its contract. Assumes nothing.
use Rattle.flips.proofs.Steps.{quad_swapped, quad_ahead}
use Rattle.flips.specs.Quads.{begun_at}
use Rattle.flips.proofs.quad_at.Goals as goal

pub returns-then-t-k : goal.returns-then-t-k
returns-then-t-k c =
    quad_swapped (begun_at c.args.work.now c.args.begun c.args.places) c.args.k _ _ c.word-t.ensures _ c.if-t-k.true c.quad_of.ensures

pub returns : goal.returns
returns c =
    quad_ahead (begun_at c.args.work.now c.args.begun c.args.places) c.args.k _ _ c.word-t.ensures _ c.if-t-k.false c.quad_of-2.ensures
