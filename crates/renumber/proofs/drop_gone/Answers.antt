-- `renumber::drop_gone` meets its contract. Assumes nothing.
use native.Mathlib.Omega.{arith}
use lib.Dec.{eqb}
use Prim.Native.Nat.{◌+◌}
use Rattle.halfedges.specs.Place.{at}
use Rattle.renumber.proofs.Dropping.{drop_starts, movable, drop-on, drop-ends, byte_small}
use Rattle.renumber.proofs.drop_gone.Goals as goal

pub loop-i-init : goal.loop-i-init
loop-i-init c = drop_starts _ _ _ _ _

pub move_triangle-requires : goal.move_triangle-requires
move_triangle-requires c =
    movable c.args.corners.now c.args.labels.now c.args.work.now c.args.into c.args.gone c.requires c.loop-i.corners c.loop-i.labels c.loop-i.i c.loop-i.q c.loop-i.invariant c.loop-i-test.true

pub overflow_add-q : goal.overflow_add-q
overflow_add-q c =
    let b = byte_small (eqb (at c.args.work.now (c.args.gone + c.loop-i.i)) 0) _ c.from-q.ensures in
    omega arith

pub loop-i-preserved : goal.loop-i-preserved
loop-i-preserved c =
    drop-on c.args.corners.now c.args.labels.now c.args.work.now c.args.into c.args.gone c.requires c.loop-i.corners c.loop-i.labels c.loop-i.i c.loop-i.q c.loop-i.invariant c.loop-i-test.true _ _ c.move_triangle.ensures _ c.from-q.ensures

pub returns : goal.returns
returns c =
    drop-ends c.args.corners.now c.args.labels.now c.args.work.now c.args.into c.args.gone c.requires c.loop-i.corners c.loop-i.labels c.loop-i.i c.loop-i.q c.loop-i.invariant c.loop-i-test.false
