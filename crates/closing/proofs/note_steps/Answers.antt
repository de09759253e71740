-- `closing::note_steps` meets its contract: at the loop's head the steps of v's places from p on are noted, and count is their number.
use Prim.Native.Nat.{suc, ◌+◌, ◌-◌}
use mathlib.Core.Path.{◌≡◌, refl, sym, ap, ◌∙◌, subst}
use native.Mathlib.Omega.{arith}
use native.Mathlib.Numerals.{add-one}
use lib.ListN.{length, set, length-set}
use Rattle.std.proofs.lemmas.Option.{none-some, same_Some}
use Rattle.halfedges.specs.Place.{nx, pv, at, last, uses, Sized, stamp, Noted}
use Rattle.halfedges.proofs.Fine.{nx-below}
use Rattle.halfedges.proofs.Chains.{last_le, uses-last, uses-suc, uses-zero}
use Rattle.halfedges.proofs.Turns.{sized_other, mark-linked, mark-noted, mark-next, mark-far, mark_clash, mark-start, uses_le}
use Rattle.closing.proofs.Stamping.{at_last, Turn, turn_at}
use Rattle.closing.proofs.note_steps.Goals as goal

pub loop-p-init : goal.loop-p-init
loop-p-init c =
    let cs = c.args.corners.now in
    let n = length cs in
    let v = c.args.v in
    let ready = c.requires.ready in
    let e : c.wide-p.result ≡ last cs v n = c.wide-p.ensures ∙ ready.linked.heads v c.requires.v_lt_points in
    record {
      place = at_last cs v n (omega arith) e;
      size = refl;
      linked = ready.linked;
      noted = subst (Noted cs c.args.points c.args.work.now v) (sym e) (mark-start cs c.args.points c.args.work.now v ready.stamped);
      counted = omega (arith, ap (uses cs v) e, uses-last cs v n);
      far = refl;
    }

pub returns-then-wide-v : goal.returns-then-wide-v
returns-then-wide-v c =
    let cs = c.args.corners.now in
    let p = c.args.points in
    let v = c.args.v in
    let w = c.loop-p.work in
    let k = c.loop-p.p - 1 in
    let inv = c.loop-p.invariant in
    let sized = sized_other cs p c.args.work.now w inv.size c.requires.ready.sized in
    let turn = turn_at nx nx-below sized inv.place c.loop-p-test.true (c.wide-x.ensures ∙ ap (at cs) c.after.ensures) in
    let own = sym c.wide.ensures ∙ c.if-wide-v.true ∙ add-one v in
    record {
      ready = record { sized = sized; linked = inv.linked; stamped = inv.noted.stamped };
      far = inv.far;
      counted = λ n q. absurd (none-some n q);
      noted = λ n q. absurd (none-some n q);
      twice = λ q. mark_clash cs p w v k c.wide-x.result (at cs (pv k)) (v + 1) sized turn.low turn.names turn.leads refl (add-one v) (subst (Noted cs p w v) turn.is inv.noted) own;
    }

pub overflow_add-count : goal.overflow_add-count
overflow_add-count c = omega (arith, c.loop-p.invariant.counted, uses_le c.args.corners.now c.args.v (length c.args.corners.now), c.requires.ready.sized.few)

sized : (c : goal.After-wide-p-in-loop-p) → Sized c.args.corners.now c.args.points c.loop-p.work
sized c = sized_other c.args.corners.now c.args.points c.args.work.now c.loop-p.work c.loop-p.invariant.size c.requires.ready.sized

turn : (c : goal.After-wide-p-in-loop-p) → Turn nx c.args.corners.now c.args.points c.args.v c.loop-p.p (c.loop-p.p - 1) c.wide-x.result
turn c = turn_at nx nx-below (sized c) c.loop-p.invariant.place c.loop-p-test.true (c.wide-x.ensures ∙ ap (at c.args.corners.now) c.after.ensures)

-- the corner where the step lands
lands : (c : goal.After-wide-p-in-loop-p) → at c.args.corners.now c.before-in-loop-p.result ≡ at c.args.corners.now (pv (c.loop-p.p - 1))
lands c = ap (at c.args.corners.now) c.before-in-loop-p.ensures

-- the next place of v
next : (c : goal.After-wide-p-in-loop-p) → c.wide-p-in-loop-p.result ≡ last c.args.corners.now c.args.v (c.loop-p.p - 1)
next c =
    let t = turn c in
    let v = c.args.v in
    c.wide-p-in-loop-p.ensures ∙ mark-next c.args.corners.now c.args.points c.loop-p.work v (c.loop-p.p - 1) c.wide-x.result _ (v + 1) (sized c) t.low t.names t.leads (lands c) (add-one v) c.loop-p.invariant.linked

pub loop-p-smaller : goal.loop-p-smaller
loop-p-smaller c = omega (arith, next c, last_le c.args.corners.now c.args.v (c.loop-p.p - 1), (turn c).is)

pub loop-p-preserved : goal.loop-p-preserved
loop-p-preserved c =
    let cs = c.args.corners.now in
    let p = c.args.points in
    let v = c.args.v in
    let w = c.loop-p.work in
    let k = c.loop-p.p - 1 in
    let x = c.wide-x.result in
    let y = at cs c.before-in-loop-p.result in
    let inv = c.loop-p.invariant in
    let t = turn c in
    let e = next c in
    let free : stamp p w x ≡ suc v → ⊥ = λ q. c.if-wide-v.false (c.wide.ensures ∙ q ∙ sym (add-one v)) in
    record {
      place = at_last cs v k (omega (arith, t.low)) e;
      size = simp length-set inv.size;
      linked = mark-linked cs p w v k x y (v + 1) (sized c) t.low t.names t.leads (lands c) (add-one v) inv.linked;
      noted = subst (Noted cs p (set (set w (p + x + x) (v + 1)) (p + x + x + 1) y) v) (sym e)
          (mark-noted cs p w v k x y (v + 1) (sized c) t.low t.names t.leads (lands c) (add-one v) (subst (Noted cs p w v) t.is inv.noted) free);
      counted = omega (arith, ap (uses cs v) e, uses-last cs v k, uses-suc cs v k t.names, ap (uses cs v) t.is, inv.counted);
      far = mark-far cs p w v k x y (v + 1) (sized c) t.low t.names t.leads (lands c) (add-one v) ∙ inv.far;
    }

pub returns : goal.returns
returns c =
    let cs = c.args.corners.now in
    let p = c.args.points in
    let v = c.args.v in
    let w = c.loop-p.work in
    let inv = c.loop-p.invariant in
    let z : c.loop-p.p ≡ 0 = omega arith in
    let all : c.loop-p.count ≡ uses cs v (length cs) = omega (arith, inv.counted, ap (uses cs v) z, uses-zero cs v) in
    record {
      ready = record { sized = sized_other cs p c.args.work.now w inv.size c.requires.ready.sized; linked = inv.linked; stamped = inv.noted.stamped };
      far = inv.far;
      counted = λ n q. sym (same_Some c.loop-p.count n q) ∙ all;
      noted = λ n q. subst (Noted cs p w v) z inv.noted;
      twice = λ q. absurd (none-some c.loop-p.count (sym q));
    }
