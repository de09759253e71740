-- `closing::walk_ring` meets its contract: at the loop's head the trip from the first corner is the trip that is left.
use Prim.Native.Nat.{suc, ◌-◌}
use mathlib.Core.Path.{◌≡◌, sym, ◌∙◌}
use native.Mathlib.Omega.{arith}
use Rattle.halfedges.specs.Place.{hop_to}
use Rattle.halfedges.proofs.Chains.{hop_below, trip-none, trip_stop, trip_home, trip-on}
use Rattle.closing.proofs.walk_ring.Goals as goal

pub returns-in_default : goal.returns-in_default
returns-in_default c =
    sym (c.loop-left.invariant.1 ∙ trip_stop (hop_to c.args.points c.args.v c.args.work.now) c.args.first c.loop-left.left c.loop-left.x (sym c.hop.ensures ∙ c.in_default.is))

pub returns-then-x-first : goal.returns-then-x-first
returns-then-x-first c =
    let left : c.loop-left.left ≡ suc (c.loop-left.left - 1) = omega arith in
    sym (c.loop-left.invariant.1 ∙ trip_home (hop_to c.args.points c.args.v c.args.work.now) c.args.first c.loop-left.left (c.loop-left.left - 1) c.loop-left.x c.in-Some.next left (sym c.hop.ensures ∙ c.in-Some.is) c.if-x-first.true)

pub loop-left-preserved : goal.loop-left-preserved
loop-left-preserved c =
    let left : c.loop-left.left ≡ suc (c.loop-left.left - 1) = omega arith in
    let hop = sym c.hop.ensures ∙ c.in-Some.is in (
      hop_below c.args.points c.args.v c.args.work.now c.loop-left.x c.in-Some.next c.requires.inside c.loop-left.invariant.0 hop,
      c.loop-left.invariant.1 ∙ trip-on (hop_to c.args.points c.args.v c.args.work.now) c.args.first c.loop-left.left (c.loop-left.left - 1) c.loop-left.x c.in-Some.next left hop c.if-x-first.false,
    )

pub returns : goal.returns
returns c =
    sym (c.loop-left.invariant.1 ∙ trip-none (hop_to c.args.points c.args.v c.args.work.now) c.args.first c.loop-left.left c.loop-left.x (omega arith))
