-- `nearest::measure` meets its contract: its stages put together (`proofs/Measured`).
use Prim.Native.Nat.{◌/◌, ◌≤◌}
use native.Mathlib.Omega.{arith}
use lib.ListN.{length}
use Rattle.nearest.proofs.Measured.{laid, nothing-found, front-room, front-whole, put_together}
use Rattle.nearest.proofs.measure.Goals as goal

pub pass-requires : goal.pass-requires
pass-requires c = record { laid = laid c.args.points.now c.args.corners.now c.args.work.now c.args.probes.now _ c.requires.0 c.requires.1 c.prepare.new.work c.prepare.ensures; bests_kept = nothing-found c.args.points.now c.args.corners.now c.args.work.now c.args.probes.now _ c.requires.0 c.requires.1 c.prepare.new.work c.prepare.ensures }

pub fill-requires : goal.fill-requires
fill-requires c =
    let a = c.requires.1 in
    let enough : length c.args.probes.now / 3 ≤ length c.pass.new.bests = omega (arith, a.few, c.pass.auto.bests) in
    record {
      room = front-room c.args.points.now c.args.corners.now c.args.work.now c.args.probes.now _ c.requires.0 a c.prepare.new.work c.prepare.ensures c.pass.new.bests c.pass.ensures enough (omega (arith, a.places));
      by_index = front-whole c.args.points.now c.args.corners.now c.args.work.now c.args.probes.now _ c.requires.0 a c.prepare.new.work c.prepare.ensures c.pass.new.bests c.pass.ensures enough;
    }

pub returns : goal.returns
returns c =
    put_together c.args.points.now c.args.corners.now c.args.work.now c.args.probes.now _ c.requires.0 c.requires.1 c.prepare.new.work c.prepare.ensures c.pass.new.bests c.pass.ensures
    _ c.args.answers.now _ (omega (arith, c.requires.1.few, c.pass.auto.bests)) c.fill.ensures c.clear_needed.ensures
