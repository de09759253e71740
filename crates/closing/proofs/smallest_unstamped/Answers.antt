-- `closing::smallest_unstamped` meets its contract: at the loop's head best is the smallest corner without a stamp to which a place of u from p on runs.
use Prim.Native.Nat.{ℕ, ◌+◌, ◌-◌}
use mathlib.Core.Path.{◌≡◌, ap, ◌∙◌}
use native.Mathlib.Omega.{arith}
use native.Mathlib.Numerals.{add-one}
use lib.ListN.{length}
use Rattle.halfedges.specs.Place.{nx, last}
use Rattle.halfedges.proofs.Fine.{nx-below}
use Rattle.halfedges.proofs.Chains.{last_le}
use Rattle.closing.proofs.Stamping.{at_last, Turn, turn_at}
use Rattle.closing.proofs.Locating.{unmet-start, unmet_turn}
use Rattle.closing.proofs.smallest_unstamped.Goals as goal

pub loop-p-init : goal.loop-p-init
loop-p-init c =
    let cs = c.args.corners.now in
    let e = c.word-p.ensures ∙ c.requires.ready.linked.heads c.args.u c.requires.u_lt_points in
    record { place = at_last cs c.args.u (length cs) (omega arith) e; lowest = unmet-start cs c.args.points c.args.work.now c.args.u e }

turn : (c : goal.After-word-p-in-loop-p) → Turn nx c.args.corners.now c.args.points c.args.u c.loop-p.p (c.loop-p.p - 1) c.ahead-x.result
turn c = turn_at nx nx-below c.requires.ready.sized c.loop-p.invariant.place c.loop-p-test.true c.ahead-x.ensures

-- the next place of u
next : (c : goal.After-word-p-in-loop-p) → c.word-p-in-loop-p.result ≡ last c.args.corners.now c.args.u (c.loop-p.p - 1)
next c =
    let k = c.loop-p.p - 1 in
    c.word-p-in-loop-p.ensures ∙ c.requires.ready.linked.links k (turn c).low ∙ ap (λ (v : ℕ). last c.args.corners.now v k) (turn c).names

pub loop-p-smaller : goal.loop-p-smaller
loop-p-smaller c = omega (arith, next c, last_le c.args.corners.now c.args.u (c.loop-p.p - 1))

pub loop-p-preserved : goal.loop-p-preserved
loop-p-preserved c =
    let u = c.args.u in
    record {
      place = at_last c.args.corners.now u (c.loop-p.p - 1) (omega (arith, (turn c).low)) (next c);
      lowest = unmet_turn c.args.work.now (turn c) (next c) c.word.result (u + 1) c.loop-p.best _ c.word.ensures (add-one u) c.lowered-best.ensures c.loop-p.invariant.lowest;
    }
