-- `flips::flip_side` meets its contract: each way out is a case of `decides`. Assumes nothing.
use native.Mathlib.Omega.{arith}
use mathlib.Core.Bool.{true, false}
use lib.ListN.{length}
use Rattle.flips.proofs.Steps.{begun-length, begun-thirds, twin-low, placed, shape-held, decide_label, decide_touched, decide_rest, decide_joined, decide_last, tried_no, tried_yes}
use Rattle.flips.proofs.flip_side.Goals as goal

pub quad_at-q-requires : goal.quad_at-q-requires
quad_at-q-requires c =
    let h = c.requires.ready in
    let z = begun-length _ _ _ (length c.args.corners.now) _ _ _ _ _ c.requires.ready c.requires.corners_in_bounds in record { places_value = (begun-thirds _ _ _ (length c.args.corners.now) _ _ _ _ _ c.requires.ready c.requires.corners_in_bounds, omega arith, c.requires.corners_in_bounds); places_in_bounds = (omega arith, c.requires.k_in_bounds, twin-low _ _ _ (length c.args.corners.now) _ _ _ _ _ c.requires.ready c.requires.corners_in_bounds c.args.k c.requires.k_in_bounds) }

pub bounds-labels-one : goal.bounds-labels-one
bounds-labels-one c =
    let i = placed _ _ _ (length c.args.corners.now) _ _ _ _ _ c.requires.ready c.requires.corners_in_bounds c.args.k c.requires.k_in_bounds c.quad_at-q.result c.quad_at-q.ensures in
    let h = c.requires.ready in
    omega arith

pub bounds-labels-two : goal.bounds-labels-two
bounds-labels-two c =
    let i = placed _ _ _ (length c.args.corners.now) _ _ _ _ _ c.requires.ready c.requires.corners_in_bounds c.args.k c.requires.k_in_bounds c.quad_at-q.result c.quad_at-q.ensures in
    let h = c.requires.ready in
    omega arith

pub returns-then-label-labels : goal.returns-then-label-labels
returns-then-label-labels c =
    tried_no _ _ _ _ _ _ _ _ _ _ _ _ c.quad_at-q.ensures (decide_label _ _ _ _ _ _ _ _ c.if-label-labels.true)

pub is_touched-requires : goal.is_touched-requires
is_touched-requires c =
    let i = placed _ _ _ (length c.args.corners.now) _ _ _ _ _ c.requires.ready c.requires.corners_in_bounds c.args.k c.requires.k_in_bounds c.quad_at-q.result c.quad_at-q.ensures in
    let h = c.requires.ready in
    (omega arith, omega arith, omega arith, omega arith)

pub returns-then-is_touched : goal.returns-then-is_touched
returns-then-is_touched c =
    tried_no _ _ _ _ _ _ _ _ _ _ _ _ c.quad_at-q.ensures (decide_touched _ _ _ _ _ _ _ _ c.if-label-labels.false _ c.is_touched.ensures c.if-is_touched.true)

pub overflow_add-areas-2 : goal.overflow_add-areas-2
overflow_add-areas-2 c =
    let i = placed _ _ _ (length c.args.corners.now) _ _ _ _ _ c.requires.ready c.requires.corners_in_bounds c.args.k c.requires.k_in_bounds c.quad_at-q.result c.quad_at-q.ensures in
    let h = c.requires.ready in
    omega arith

pub word-requires : goal.word-requires
word-requires c =
    let i = placed _ _ _ (length c.args.corners.now) _ _ _ _ _ c.requires.ready c.requires.corners_in_bounds c.args.k c.requires.k_in_bounds c.quad_at-q.result c.quad_at-q.ensures in
    let h = c.requires.ready in
    omega arith

pub returns-then-word-ne0 : goal.returns-then-word-ne0
returns-then-word-ne0 c =
    tried_no _ _ _ _ _ _ _ _ _ _ _ _ c.quad_at-q.ensures (decide_joined _ _ _ _ _ _ _ _ (decide_rest _ _ _ _ _ _ _ _ c.if-label-labels.false _ c.is_touched.ensures c.if-is_touched.false) _ c.word.ensures c.if-word-ne0.true)

pub improves-requires : goal.improves-requires
improves-requires c =
    let i = placed _ _ _ (length c.args.corners.now) _ _ _ _ _ c.requires.ready c.requires.corners_in_bounds c.args.k c.requires.k_in_bounds c.quad_at-q.result c.quad_at-q.ensures in
    let h = c.requires.ready in
    record { corners = (omega arith, omega arith, omega arith, omega arith); words = (omega arith, omega arith, omega arith, omega arith); held = (shape-held _ _ _ (length c.args.corners.now) _ _ _ _ _ c.requires.ready c.requires.corners_in_bounds _ (omega arith), shape-held _ _ _ (length c.args.corners.now) _ _ _ _ _ c.requires.ready c.requires.corners_in_bounds _ (omega arith)) }

pub flip_corners-requires : goal.flip_corners-requires
flip_corners-requires c =
    let i = placed _ _ _ (length c.args.corners.now) _ _ _ _ _ c.requires.ready c.requires.corners_in_bounds c.args.k c.requires.k_in_bounds c.quad_at-q.result c.quad_at-q.ensures in
    let h = c.requires.ready in
    record { one_in_bounds = (omega arith, omega arith); words = (omega arith, omega arith, omega arith, omega arith) }

pub touch_four-requires : goal.touch_four-requires
touch_four-requires c =
    let i = placed _ _ _ (length c.args.corners.now) _ _ _ _ _ c.requires.ready c.requires.corners_in_bounds c.args.k c.requires.k_in_bounds c.quad_at-q.result c.quad_at-q.ensures in
    let h = c.requires.ready in
    (omega arith, omega arith, omega arith, omega arith)

pub returns-then-improves : goal.returns-then-improves
returns-then-improves c =
    tried_yes _ _ _ _ _ _ _ _ _ _ _ _ c.quad_at-q.ensures _ _ (decide_last _ _ _ _ _ _ _ _ (decide_rest _ _ _ _ _ _ _ _ c.if-label-labels.false _ c.is_touched.ensures c.if-is_touched.false) _ c.word.ensures c.if-word-ne0.false _ true c.improves.ensures c.if-improves.true) c.flip_corners.ensures c.touch_four.ensures

pub returns : goal.returns
returns c =
    tried_no _ _ _ _ _ _ _ _ _ _ _ _ c.quad_at-q.ensures (decide_last _ _ _ _ _ _ _ _ (decide_rest _ _ _ _ _ _ _ _ c.if-label-labels.false _ c.is_touched.ensures c.if-is_touched.false) _ c.word.ensures c.if-word-ne0.false _ false c.improves.ensures c.if-improves.false)
