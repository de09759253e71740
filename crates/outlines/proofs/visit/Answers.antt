-- `outlines::visit` meets its contract.
use Prim.Native.Nat.{◌<◌}
use mathlib.Core.Path.{◌≡◌, refl}
use native.Mathlib.Omega.{arith}
use lib.ListN.{length}
use Rattle.outlines.specs.Stages.Trace.{up_place}
use Rattle.outlines.proofs.Reading.{up_of, upper_low, from_low, to_low, marked-is, noted-is}
use Rattle.outlines.proofs.visit.Goals as goal

pub bounds-surface-u : goal.bounds-surface-u
bounds-surface-u c = upper_low c.args.surface.now.corners.now c.args.surface.now.points c.args.work.now c.args.k _ _ _ c.twins-twins.ensures c.word-t.ensures c.up_place-u.ensures c.requires.walkable c.requires.k_in_bounds

pub ahead-high-requires : goal.ahead-high-requires
ahead-high-requires c = (c.requires.walkable.thirds, c.requires.walkable.few, upper_low c.args.surface.now.corners.now c.args.surface.now.points c.args.work.now c.args.k _ _ _ c.twins-twins.ensures c.word-t.ensures c.up_place-u.ensures c.requires.walkable c.requires.k_in_bounds)

pub put-requires : goal.put-requires
put-requires c =
    let low : c.up_place-u.result < length c.args.surface.now.corners.now = upper_low c.args.surface.now.corners.now c.args.surface.now.points c.args.work.now c.args.k _ _ _ c.twins-twins.ensures c.word-t.ensures c.up_place-u.ensures c.requires.walkable c.requires.k_in_bounds in
    (omega (arith, c.requires.walkable.room, c.requires.k_in_bounds, c.marks-marks.ensures), omega arith)

pub put-requires-2 : goal.put-requires-2
put-requires-2 c =
    let low : c.up_place-u.result < length c.args.surface.now.corners.now = upper_low c.args.surface.now.corners.now c.args.surface.now.points c.args.work.now c.args.k _ _ _ c.twins-twins.ensures c.word-t.ensures c.up_place-u.ensures c.requires.walkable c.requires.k_in_bounds in
    let x = from_low c.args.surface.now.corners.now c.args.surface.now.points c.args.work.now c.up_place-u.result c.requires.walkable low in
    let y = to_low c.args.surface.now.corners.now c.args.surface.now.points c.args.work.now c.up_place-u.result c.requires.walkable low in
    (omega (arith, c.requires.filled_in_bounds), omega (arith, c.requires.walkable.points, c.wide-low.ensures, c.ahead-high.ensures))

pub put-requires-3 : goal.put-requires-3
put-requires-3 c =
    let low : c.up_place-u.result < length c.args.surface.now.corners.now = upper_low c.args.surface.now.corners.now c.args.surface.now.points c.args.work.now c.args.k _ _ _ c.twins-twins.ensures c.word-t.ensures c.up_place-u.ensures c.requires.walkable c.requires.k_in_bounds in
    let x = from_low c.args.surface.now.corners.now c.args.surface.now.points c.args.work.now c.up_place-u.result c.requires.walkable low in
    let y = to_low c.args.surface.now.corners.now c.args.surface.now.points c.args.work.now c.up_place-u.result c.requires.walkable low in
    (omega (arith, c.requires.filled_in_bounds, c.put-2.auto.work), omega (arith, c.requires.walkable.points, c.wide-low.ensures, c.ahead-high.ensures))

pub returns : goal.returns
returns c =
    let up : c.up_place-u.result ≡ up_place c.args.surface.now.corners.now c.args.surface.now.points c.args.work.now c.args.k = up_of c.args.surface.now.corners.now c.args.surface.now.points c.args.work.now c.args.k _ _ _ c.twins-twins.ensures c.word-t.ensures c.up_place-u.ensures in
    record {
      mark = marked-is c.args.surface.now.corners.now c.args.surface.now.points c.args.work.now c.args.k _ _ _ c.marks-marks.ensures up c.put.ensures;
      place = noted-is c.args.surface.now.corners.now c.args.surface.now.points c.args.work.now c.args.k _ _ _ c.args.filled c.args.number c.args.places.now _ _ _ up c.wide-low.ensures c.ahead-high.ensures c.put-2.ensures c.put-3.ensures refl;
      upper = up;
    }
