-- `outlines::next_place` meets its contract.
use Prim.Native.Nat.{◌<◌}
use native.Mathlib.Omega.{arith}
use lib.ListN.{length}
use Rattle.halfedges.proofs.Fine.{nx-below}
use Rattle.outlines.proofs.Reading.{from_low, apex_low, next-same, next_other}
use Rattle.outlines.proofs.next_place.Goals as goal

-- the corner from which the side runs, and the one opposite to it, are points
x-low : (c : goal.After-behind-z) → c.wide-x.result < c.args.surface.now.points
x-low c = omega (arith, from_low c.args.surface.now.corners.now c.args.surface.now.points c.args.work.now c.args.k c.requires.walkable c.requires.k_in_bounds, c.wide-x.ensures)

z-low : (c : goal.After-word-from) → c.behind-z.result < c.args.surface.now.points
z-low c = omega (arith, apex_low c.args.surface.now.corners.now c.args.surface.now.points c.args.work.now c.args.k c.requires.walkable c.requires.k_in_bounds, c.behind-z.ensures)

pub overflow_add-kinds : goal.overflow_add-kinds
overflow_add-kinds c = omega (arith, x-low c, c.requires.walkable, c.kinds-kinds.ensures)

pub word-from-requires : goal.word-from-requires
word-from-requires c = omega (arith, x-low c, c.requires.walkable, c.kinds-kinds.ensures)

pub overflow_add-kinds-2 : goal.overflow_add-kinds-2
overflow_add-kinds-2 c = omega (arith, z-low c, c.requires.walkable, c.kinds-kinds.ensures)

pub word-apex-requires : goal.word-apex-requires
word-apex-requires c = omega (arith, z-low c, c.requires.walkable, c.kinds-kinds.ensures)

pub word-requires : goal.word-requires
word-requires c =
    omega (arith, nx-below (length c.args.surface.now.corners.now) c.args.k c.requires.walkable.thirds c.requires.k_in_bounds, c.after-j.ensures, c.requires, c.twins-twins.ensures)

pub returns-then-apex-from : goal.returns-then-apex-from
returns-then-apex-from c =
    next-same c.args.surface.now.corners.now c.args.surface.now.points c.args.work.now c.args.k _ _ _ _ _ _ _ _ c.twins-twins.ensures c.kinds-kinds.ensures c.wide-x.ensures c.behind-z.ensures
    c.word-from.ensures c.word-apex.ensures c.if-apex-from.true c.after-j.ensures c.word.ensures

pub returns : goal.returns
returns c =
    next_other c.args.surface.now.corners.now c.args.surface.now.points c.args.work.now c.args.k _ _ _ _ _ _ _ _ c.twins-twins.ensures c.kinds-kinds.ensures c.wide-x.ensures c.behind-z.ensures
    c.word-from.ensures c.word-apex.ensures c.if-apex-from.false c.before-j.ensures c.word-2.ensures
