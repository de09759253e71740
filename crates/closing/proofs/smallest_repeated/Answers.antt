-- `closing::smallest_repeated` meets its contract: at the loop's head the corners to which u's places from p on run are stamped, and best is the smallest to which two of them do.
use Prim.Native.Nat.{ℕ, ◌+◌, ◌-◌}
use mathlib.Core.Path.{◌≡◌, ◌∙◌, subst}
use native.Mathlib.Omega.{arith}
use native.Mathlib.Numerals.{add-one}
use Rattle.halfedges.specs.Place.{nx, last}
use Rattle.halfedges.proofs.Fine.{nx-below}
use Rattle.halfedges.proofs.Chains.{last_le}
use Rattle.closing.specs.Locating.{Two, Least}
use Rattle.closing.proofs.Stamping.{Turn, turn_at, stamping_start, stamping_next, stamping_turn, stamping_ready}
use Rattle.closing.proofs.Locating.{two-start, two_turn, two_repeated}
use Rattle.closing.proofs.smallest_repeated.Goals as goal

pub loop-p-init : goal.loop-p-init
loop-p-init c =
    let e = c.word-p.ensures ∙ c.requires.ready.linked.heads c.args.u c.requires.u_lt_points in
    record { stamping = stamping_start nx c.requires.ready e; lowest = two-start c.args.corners.now c.args.points c.args.u e }

turn : (c : goal.After-word-p-in-loop-p) → Turn nx c.args.corners.now c.args.points c.args.u c.loop-p.p (c.loop-p.p - 1) c.ahead-x.result
turn c = let h = c.loop-p.invariant.stamping in turn_at nx nx-below h.sized h.place c.loop-p-test.true c.ahead-x.ensures

-- the next place of u
next : (c : goal.After-word-p-in-loop-p) → c.word-p-in-loop-p.result ≡ last c.args.corners.now c.args.u (c.loop-p.p - 1)
next c = c.word-p-in-loop-p.ensures ∙ stamping_next c.loop-p.invariant.stamping (turn c) (add-one c.args.u) c.put.ensures

pub loop-p-smaller : goal.loop-p-smaller
loop-p-smaller c = omega (arith, next c, last_le c.args.corners.now c.args.u (c.loop-p.p - 1))

pub loop-p-preserved : goal.loop-p-preserved
loop-p-preserved c =
    let u = c.args.u in
    let inv = c.loop-p.invariant in
    record {
      stamping = stamping_turn inv.stamping (turn c) (add-one u) c.put.ensures (next c);
      lowest = two_turn (turn c) (next c) c.word.result (u + 1) c.loop-p.best _ c.word.ensures (add-one u) c.lowered-best.ensures inv.stamping.met inv.lowest;
    }

pub returns : goal.returns
returns c =
    let cs = c.args.corners.now in
    let p = c.args.points in
    let u = c.args.u in
    let h = c.loop-p.invariant.stamping in
    let z : c.loop-p.p ≡ 0 = omega arith in
    record {
      ready = stamping_ready h;
      far = h.far;
      least = two_repeated cs p u c.loop-p.best h.sized.thirds (subst (λ (q : ℕ). Least (Two cs u q) p c.loop-p.best) z c.loop-p.invariant.lowest);
    }
