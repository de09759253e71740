-- `outlines::trace_side` meets its contract.
use Prim.Native.Nat.{◌/◌}
use lib.ListN.{length}
use Rattle.outlines.proofs.Tracing.{traced_shut, traced_full, traced_loop}
use Rattle.outlines.proofs.trace_side.Goals as goal

pub is_open-requires : goal.is_open-requires
is_open-requires c = record { walkable = c.requires.walkable; k_in_bounds = c.requires.upward.low }

pub returns-then-not-is_open : goal.returns-then-not-is_open
returns-then-not-is_open c = traced_shut c.args.surface.now.corners.now c.args.surface.now.points (length c.args.places.now / 3) c.args.k c.args.work.now c.args.places.now c.args.filled c.args.number c.is_open.result c.is_open.ensures (c.if-not-is_open.true)

pub returns-then-filled-places : goal.returns-then-filled-places
returns-then-filled-places c = traced_full c.args.surface.now.corners.now c.args.surface.now.points (length c.args.places.now / 3) c.args.k c.args.work.now c.args.places.now c.args.filled c.args.number c.if-filled-places.true

pub follow_loop-requires : goal.follow_loop-requires
follow_loop-requires c = record { walkable = c.requires.walkable; upward = c.requires.upward; filled_lt_total = c.if-filled-places.false }

pub returns : goal.returns
returns c = traced_loop c.args.surface.now.corners.now c.args.surface.now.points (length c.args.places.now / 3) c.args.k c.args.work.now c.args.places.now c.args.filled c.args.number c.is_open.result _ _ c.follow_loop.result c.is_open.ensures (c.if-not-is_open.false) c.if-filled-places.false c.follow_loop.ensures
