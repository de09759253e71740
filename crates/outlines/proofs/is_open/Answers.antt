-- `outlines::is_open` meets its contract.
use Prim.Native.Nat.{◌<◌}
use native.Mathlib.Omega.{arith}
use Rattle.outlines.proofs.Reading.{from_low, to_low, open_same, open_other}
use Rattle.outlines.proofs.is_open.Goals as goal

-- the corners of the side are points
x-low : (c : goal.After-ahead-y) → c.wide-x.result < c.args.surface.now.points
x-low c = omega (arith, from_low c.args.surface.now.corners.now c.args.surface.now.points c.args.work.now c.args.k c.requires.walkable c.requires.k_in_bounds, c.wide-x.ensures)

y-low : (c : goal.After-word-from) → c.ahead-y.result < c.args.surface.now.points
y-low c = omega (arith, to_low c.args.surface.now.corners.now c.args.surface.now.points c.args.work.now c.args.k c.requires.walkable c.requires.k_in_bounds, c.ahead-y.ensures)

pub overflow_add-kinds : goal.overflow_add-kinds
overflow_add-kinds c = omega (arith, x-low c, c.requires.walkable, c.kinds-kinds.ensures)

pub word-from-requires : goal.word-from-requires
word-from-requires c = omega (arith, x-low c, c.requires.walkable, c.kinds-kinds.ensures)

pub overflow_add-kinds-2 : goal.overflow_add-kinds-2
overflow_add-kinds-2 c = omega (arith, y-low c, c.requires.walkable, c.kinds-kinds.ensures)

pub word-to-requires : goal.word-to-requires
word-to-requires c = omega (arith, y-low c, c.requires.walkable, c.kinds-kinds.ensures)

pub returns-then-from-to : goal.returns-then-from-to
returns-then-from-to c =
    open_same c.args.surface.now.corners.now c.args.surface.now.points c.args.work.now c.args.k _ _ _ _ _ c.kinds-kinds.ensures c.wide-x.ensures c.ahead-y.ensures c.word-from.ensures
    c.word-to.ensures c.if-from-to.true

pub returns : goal.returns
returns c =
    open_other c.args.surface.now.corners.now c.args.surface.now.points c.args.work.now c.args.k _ _ _ _ _ _ _ c.kinds-kinds.ensures c.marks-marks.ensures c.wide-x.ensures c.ahead-y.ensures
    c.word-from.ensures c.word-to.ensures c.if-from-to.false c.word.ensures
