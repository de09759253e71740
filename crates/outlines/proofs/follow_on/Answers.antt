-- `outlines::follow_on` meets its contract: at the loop's head what is left to visit is the rest of the loop.
use Prim.Native.Nat.{ℕ, ◌+◌, ◌-◌, ◌/◌}
use mathlib.Core.Path.{◌≡◌, subst}
use lib.ListN.{length}
use native.Mathlib.Omega.{arith}
use native.Mathlib.Numerals.{add-one}
use Rattle.outlines.specs.Stages.Trace.{next_place, follow, Followed}
use Rattle.outlines.proofs.Following.{same-ready, ready_marked, following_first, following_turn, followed_met, followed_full}
use Rattle.outlines.proofs.follow_on.Goals as goal

pub loop-f-init : goal.loop-f-init
loop-f-init c = following_first c.args.surface.now.corners.now c.args.surface.now.points c.args.work.now c.args.places.now c.args.start c.args.k c.args.filled (length c.args.places.now / 3) c.args.number c.requires.k_in_bounds c.requires.filled_le_total

pub returns-then-at-start : goal.returns-then-at-start
returns-then-at-start c = followed_met (c.args.surface.now.corners.now) (c.args.surface.now.points) (c.args.work.now) (c.args.places.now) c.args.start c.args.k c.args.filled (length c.args.places.now / 3) c.args.number c.loop-f.work c.loop-f.places c.loop-f.at c.loop-f.f c.loop-f.invariant c.if-at-start.true

pub visit-requires : goal.visit-requires
visit-requires c = record { walkable = same-ready c.args.surface.now.corners.now c.args.surface.now.points c.args.work.now c.loop-f.work c.loop-f.invariant.same c.requires.walkable; k_in_bounds = c.loop-f.invariant.low; filled_in_bounds = omega (arith, c.loop-f.invariant.size, c.loop-f-test.true) }

pub next_place-at-requires : goal.next_place-at-requires
next_place-at-requires c = record { walkable = ready_marked (c.args.surface.now.corners.now) (c.args.surface.now.points) c.loop-f.work _ c.loop-f.at (same-ready c.args.surface.now.corners.now c.args.surface.now.points c.args.work.now c.loop-f.work c.loop-f.invariant.same c.requires.walkable) c.visit.ensures.mark; k_in_bounds = c.loop-f.invariant.low }

pub loop-f-preserved : goal.loop-f-preserved
loop-f-preserved c =
    following_turn (c.args.surface.now.corners.now) (c.args.surface.now.points) (c.args.work.now) (c.args.places.now) c.args.start c.args.k c.args.filled (length c.args.places.now / 3) c.args.number c.requires.walkable c.loop-f.work c.loop-f.places _ _
    c.loop-f.at c.next_place-at.result c.loop-f.f (c.loop-f.f + 1) c.loop-f.invariant (omega (arith, c.loop-f-test.true)) c.if-at-start.false c.visit.ensures.mark c.visit.ensures.place c.next_place-at.ensures (add-one c.loop-f.f)

pub returns : goal.returns
returns c =
    let full : c.loop-f.f ≡ length c.args.places.now / 3 = omega (arith, c.requires.filled_le_total) in
    subst (λ (n : ℕ). Followed c.args.surface.now.corners.now c.args.surface.now.points c.args.work.now c.loop-f.work c.args.places.now c.loop-f.places (follow (next_place c.args.surface.now.corners.now c.args.surface.now.points c.args.work.now) c.args.start (length c.args.places.now / 3 - c.args.filled) c.args.k) c.args.filled c.args.number n) full
    (followed_full c.args.surface.now.corners.now c.args.surface.now.points c.args.work.now c.args.places.now c.args.start c.args.k c.args.filled (length c.args.places.now / 3) c.args.number c.loop-f.work c.loop-f.places c.loop-f.at c.loop-f.f c.loop-f.invariant (omega arith))
