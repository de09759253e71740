-- `outlines::follow_loop` meets its contract.
use Prim.Native.Nat.{ℕ, ◌+◌, ◌/◌, ◌<◌}
use mathlib.Core.Path.{sym, ap, subst}
use native.Mathlib.Omega.{arith}
use native.Mathlib.Numerals.{add-one}
use lib.ListN.{length}
use Rattle.outlines.proofs.Reading.{next_low}
use Rattle.outlines.proofs.Following.{ready_marked, begun_at, loop_followed}
use Rattle.outlines.proofs.follow_loop.Goals as goal

pub visit-start-requires : goal.visit-start-requires
visit-start-requires c = record { walkable = c.requires.walkable; k_in_bounds = c.requires.upward.low; filled_in_bounds = omega (arith, c.requires.filled_lt_total) }

pub next_place-at-requires : goal.next_place-at-requires
next_place-at-requires c = record {
  walkable = ready_marked c.args.surface.now.corners.now c.args.surface.now.points c.args.work.now _ c.args.k c.requires.walkable c.visit-start.ensures.mark;
  k_in_bounds = subst (λ (i : ℕ). i < length c.args.surface.now.corners.now) (sym (begun_at c.args.surface.now.corners.now c.args.surface.now.points c.args.work.now c.args.k _ c.requires.upward c.visit-start.ensures.upper)) c.requires.upward.low;
}

pub follow_on-requires : goal.follow_on-requires
follow_on-requires c =
    let ready = ready_marked c.args.surface.now.corners.now c.args.surface.now.points c.args.work.now c.visit-start.new.work c.args.k c.requires.walkable c.visit-start.ensures.mark in
    let low = subst (λ (i : ℕ). i < length c.args.surface.now.corners.now) (sym (begun_at c.args.surface.now.corners.now c.args.surface.now.points c.args.work.now c.args.k _ c.requires.upward c.visit-start.ensures.upper)) c.requires.upward.low in
    record {
      walkable = ready;
      k_in_bounds = subst (λ (i : ℕ). i < length c.args.surface.now.corners.now) (sym c.next_place-at.ensures) (next_low c.args.surface.now.corners.now c.args.surface.now.points _ c.visit-start.result ready low);
      filled_le_total = omega (arith, c.requires.filled_lt_total, c.visit-start.auto.places);
    }

pub returns : goal.returns
returns c =
    loop_followed c.args.surface.now.corners.now c.args.surface.now.points c.args.work.now _ _ c.args.places.now _ _ c.args.k c.visit-start.result c.next_place-at.result c.args.filled (c.args.filled + 1) (length c.args.places.now / 3) (length c.visit-start.new.places / 3) c.args.number c.follow_on.result
    (ap (λ (n : ℕ). n / 3) c.visit-start.auto.places) c.requires.walkable c.requires.upward.low c.visit-start.ensures.mark c.visit-start.ensures.place
    (begun_at c.args.surface.now.corners.now c.args.surface.now.points c.args.work.now c.args.k _ c.requires.upward c.visit-start.ensures.upper) c.next_place-at.ensures (add-one c.args.filled) c.follow_on.ensures
