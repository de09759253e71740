-- `scores::is_candidate` meets its contract: each way out is a case of `picks`. Assumes nothing.
use native.Mathlib.Omega.{arith}
use Rattle.scores.proofs.Turns.{pick-long, pick_first, pick_second, twin-room}
use Rattle.scores.proofs.is_candidate.Goals as goal

pub returns-then-work-marks-eq1 : goal.returns-then-work-marks-eq1
returns-then-work-marks-eq1 c =
    pick_first c.args.points.now c.args.corners.now c.args.work.now c.args.twins c.args.marks c.args.limit c.args.k _ c.side_squared-q.ensures c.if-q-limit.true c.if-work-marks-eq1.true

pub offset_bounds-work-marks-then-q-limit : goal.offset_bounds-work-marks-then-q-limit
offset_bounds-work-marks-then-q-limit c =
    let r = twin-room c.args.corners.now c.args.work.now c.args.twins c.args.marks c.args.k _ c.requires.pointed.thirds c.requires.marked c.requires.k_in_bounds c.wide-t.ensures in
    omega arith

pub bounds-work-marks-then-q-limit : goal.bounds-work-marks-then-q-limit
bounds-work-marks-then-q-limit c =
    let r = twin-room c.args.corners.now c.args.work.now c.args.twins c.args.marks c.args.k _ c.requires.pointed.thirds c.requires.marked c.requires.k_in_bounds c.wide-t.ensures in
    omega arith

pub returns-then-q-limit : goal.returns-then-q-limit
returns-then-q-limit c =
    pick_second c.args.points.now c.args.corners.now c.args.work.now c.args.twins c.args.marks c.args.limit c.args.k _ c.side_squared-q.ensures c.if-q-limit.true c.if-work-marks-eq1.false _ c.wide-t.ensures

pub returns : goal.returns
returns c =
    pick-long c.args.points.now c.args.corners.now c.args.work.now c.args.twins c.args.marks c.args.limit c.args.k _ c.side_squared-q.ensures c.if-q-limit.false
