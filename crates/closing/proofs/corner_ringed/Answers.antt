-- `closing::corner_ringed` meets its contract: the notes are the steps of v, so the walk decides whether they are a ring.
use Prim.Native.Nat.{ℕ, suc, ◌-◌, ◌≤◌, ◌<◌}
use mathlib.Core.Path.{◌≡◌, refl, sym, ap, ◌∙◌}
use native.Mathlib.Omega.{arith}
use lib.ListN.{length}
use Rattle.halfedges.specs.Place.{nx, at, last, uses}
use Rattle.halfedges.proofs.Fine.{fine-once, nx-below}
use Rattle.halfedges.proofs.Chains.{last_le, last-names, uses-last, uses-suc, uses-zero, fine-empty, fine_walked, walked_fine}
use Rattle.closing.proofs.Numbers.{no, yes'}
use Rattle.closing.proofs.Stamping.{at_last, turn_at}
use Rattle.closing.proofs.corner_ringed.Goals as goal

pub returns-then-p-eq0 : goal.returns-then-p-eq0
returns-then-p-eq0 c =
    let cs = c.args.corners.now in
    let v = c.args.v in
    let ready = c.requires.ready in
    let e : last cs v (length cs) ≡ 0 = sym (c.wide-p.ensures ∙ ready.linked.heads v c.requires.v_lt_points.0) ∙ c.if-p-eq0.true in
    record {
      ready = record { sized = ready.sized; linked = ready.linked; stamped = λ x l. omega (arith, ready.stamped x l) };
      far = refl;
      yea = λ _. fine-empty cs v e;
      more = λ _ q. absurd (omega (arith, q, sym (uses-last cs v (length cs)) ∙ ap (uses cs v) e ∙ uses-zero cs v));
      nay = λ q. no q;
    }

pub after-requires : goal.after-requires
after-requires c =
    let cs = c.args.corners.now in
    let v = c.args.v in
    omega (arith, c.if-p-eq0.false, c.wide-p.ensures ∙ c.requires.ready.linked.heads v c.requires.v_lt_points.0, last_le cs v (length cs), c.requires.ready.sized.few)

pub bounds-corners-after : goal.bounds-corners-after
bounds-corners-after c =
    let cs = c.args.corners.now in
    let v = c.args.v in
    let low : c.wide-p.result - 1 < length cs = omega (arith, c.if-p-eq0.false, c.wide-p.ensures ∙ c.requires.ready.linked.heads v c.requires.v_lt_points.0, last_le cs v (length cs)) in
    omega (arith, c.after.ensures, nx-below (length cs) (c.wide-p.result - 1) c.requires.ready.sized.thirds low)

pub returns-in_default : goal.returns-in_default
returns-in_default c =
    let e = c.note_steps.ensures in
    record { ready = e.ready; far = e.far; yea = λ q. yes' q; more = λ q. yes' q; nay = λ _ fine enough. e.twice c.in_default.is (fine-once c.args.corners.now c.args.v fine) }

pub returns-then-count-least : goal.returns-then-count-least
returns-then-count-least c =
    let e = c.note_steps.ensures in
    let count = e.counted c.in-Some.count c.in-Some.is in
    let cs = c.args.corners.now in
    let v = c.args.v in
    let k = c.wide-p.result - 1 in
    let head = c.wide-p.ensures ∙ c.requires.ready.linked.heads v c.requires.v_lt_points.0 in
    let is : c.wide-p.result ≡ suc k = omega (arith, c.if-p-eq0.false) in
    let names = last-names cs v (length cs) k (sym head ∙ is) in
    let used : 0 < uses cs v (length cs) = omega (arith, uses-last cs v (length cs), ap (uses cs v) head, ap (uses cs v) is, uses-suc cs v k names) in
    record { ready = e.ready; far = e.far; yea = λ q. yes' q; more = λ q. yes' q; nay = λ _ fine enough. few c.if-count-least.true count enough used }
  where
    few : {m n u : ℕ} → n < m → n ≡ u → (0 < u → m ≤ u) → 0 < u → ⊥
    few l e enough pos = let q = enough pos in omega arith

pub returns : goal.returns
returns c =
    let cs = c.args.corners.now in
    let p = c.args.points in
    let v = c.args.v in
    let w = c.note_steps.new.work in
    let n = c.in-Some.count in
    let k = c.wide-p.result - 1 in
    let x = c.wide-first.result in
    let ready = c.requires.ready in
    let e = c.note_steps.ensures in
    let count = e.counted n c.in-Some.is in
    let noted = e.noted n c.in-Some.is in
    let some : 0 < n = omega (arith, c.if-count-least.false, c.requires.v_lt_points.1) in
    let head = c.wide-p.ensures ∙ ready.linked.heads v c.requires.v_lt_points.0 in
    let place = at_last cs v (length cs) (omega arith) head in
    let turn = turn_at nx nx-below ready.sized place (omega (arith, c.if-p-eq0.false)) (c.wide-first.ensures ∙ ap (at cs) c.after.ensures) in
    record {
      ready = e.ready;
      far = e.far;
      yea = λ q. fine_walked cs p w v e.ready.sized noted x n turn.x-low count (sym c.walk_ring.ensures ∙ q);
      more = λ _ _. omega (arith, c.if-count-least.false, count);
      nay = λ q fine _. yes' (sym q ∙ c.walk_ring.ensures ∙ walked_fine cs p w v e.ready.sized noted k x n turn.low turn.names (sym turn.leads) count some fine);
    }
