-- `closing::stamp_origins` meets its contract: at the loop's head the corners from which u's places from p on come are stamped.
use Prim.Native.Nat.{◌-◌}
use mathlib.Core.Path.{◌≡◌, ◌∙◌, subst}
use native.Mathlib.Omega.{arith}
use native.Mathlib.Numerals.{add-one}
use Rattle.halfedges.specs.Place.{pv, last}
use Rattle.halfedges.proofs.Fine.{pv-below}
use Rattle.halfedges.proofs.Chains.{last_le}
use Rattle.closing.specs.Locating.{StampsMean}
use Rattle.closing.proofs.Stamping.{Turn, turn_at, stamping_start, stamping_next, stamping_turn, stamping_ready}
use Rattle.closing.proofs.stamp_origins.Goals as goal

pub loop-p-init : goal.loop-p-init
loop-p-init c = stamping_start pv c.requires.ready (c.word-p.ensures ∙ c.requires.ready.linked.heads c.args.u c.requires.u_lt_points)

turn : (c : goal.After-word-p-in-loop-p) → Turn pv c.args.corners.now c.args.points c.args.u c.loop-p.p (c.loop-p.p - 1) c.behind-x.result
turn c = let inv = c.loop-p.invariant in turn_at pv pv-below inv.sized inv.place c.loop-p-test.true c.behind-x.ensures

-- the next place of u
next : (c : goal.After-word-p-in-loop-p) → c.word-p-in-loop-p.result ≡ last c.args.corners.now c.args.u (c.loop-p.p - 1)
next c =
    c.word-p-in-loop-p.ensures ∙ stamping_next c.loop-p.invariant (turn c) (add-one c.args.u) c.put.ensures

pub loop-p-smaller : goal.loop-p-smaller
loop-p-smaller c = omega (arith, next c, last_le c.args.corners.now c.args.u (c.loop-p.p - 1))

pub loop-p-preserved : goal.loop-p-preserved
loop-p-preserved c =
    stamping_turn c.loop-p.invariant (turn c) (add-one c.args.u) c.put.ensures (next c)

pub returns : goal.returns
returns c =
    let inv = c.loop-p.invariant in
    let z : c.loop-p.p ≡ 0 = omega arith in
    record { ready = stamping_ready inv; far = inv.far; met = subst (StampsMean pv c.args.corners.now c.args.points c.loop-p.work c.args.u) z inv.met }
