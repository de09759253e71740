-- `renumber::meet_corner` meets its contract. Assumes nothing.
use Prim.Native.Nat.{◌+◌, ◌-◌}
use mathlib.Core.Path.{refl}
use native.Mathlib.Omega.{arith}
use Rattle.renumber.specs.Numbered.{old}
use Rattle.renumber.proofs.Numbering.{note_of, fresh_at, met-new}
use Rattle.renumber.proofs.meet_corner.Goals as goal

pub overflow_cast-corners : goal.overflow_cast-corners
overflow_cast-corners c =
    let k = c.slice_known-5-1.given (c.args.numbers + c.wide-v.result) in
    omega arith

pub returns-then-m-gt0 : goal.returns-then-m-gt0
returns-then-m-gt0 c =
    old (c.wide-m.result - 1) (note_of c.args.corners.now c.args.work.now c.args.numbers c.args.k _ _ c.wide-v.ensures c.wide-m.ensures c.if-m-gt0.true) refl refl refl refl

pub load_point-requires : goal.load_point-requires
load_point-requires c =
    let s = (fresh_at c.args.points.now c.args.corners.now c.args.work.now c.args.numbers c.args.saved c.args.k c.args.met _ _ c.requires c.wide-v.ensures c.wide-m.ensures c.if-m-gt0.false).0 in
    record { first = s.first; second = s.second; third = s.third; room = omega arith }

pub overflow_cast-corners-2 : goal.overflow_cast-corners-2
overflow_cast-corners-2 c =
    let s = (fresh_at c.args.points.now c.args.corners.now c.args.work.now c.args.numbers c.args.saved c.args.k c.args.met _ _ c.requires c.wide-v.ensures c.wide-m.ensures c.if-m-gt0.false).1 in
    omega arith

pub overflow_add-work : goal.overflow_add-work
overflow_add-work c =
    let s = (fresh_at c.args.points.now c.args.corners.now c.args.work.now c.args.numbers c.args.saved c.args.k c.args.met _ _ c.requires c.wide-v.ensures c.wide-m.ensures c.if-m-gt0.false).1 in
    omega arith

pub overflow_cast-work : goal.overflow_cast-work
overflow_cast-work c =
    let s = (fresh_at c.args.points.now c.args.corners.now c.args.work.now c.args.numbers c.args.saved c.args.k c.args.met _ _ c.requires c.wide-v.ensures c.wide-m.ensures c.if-m-gt0.false).1 in
    omega arith

pub overflow_add-result : goal.overflow_add-result
overflow_add-result c =
    let s = (fresh_at c.args.points.now c.args.corners.now c.args.work.now c.args.numbers c.args.saved c.args.k c.args.met _ _ c.requires c.wide-v.ensures c.wide-m.ensures c.if-m-gt0.false).1 in
    omega arith

pub returns : goal.returns
returns c =
    met-new c.args.points.now _ c.args.corners.now c.args.work.now c.args.numbers c.args.saved c.args.k c.args.met _ _ c.wide-v.ensures c.wide-m.ensures c.if-m-gt0.false c.load_point.ensures
