-- `editing::take_back_many` meets its contract: each turn takes one edit more back.
use Prim.Native.Nat.{ℕ}
use mathlib.Core.Path.{◌≡◌, refl, subst}
use native.Mathlib.Omega.{arith}
use Rattle.editing.specs.Held.{without, Returned}
use Rattle.editing.proofs.Returned.{going, going_on}
use Rattle.editing.proofs.take_back_many.Goals as goal

pub loop-i-init : goal.loop-i-init
loop-i-init c = going c.args.points c.args.corners.now c.args.labels.now c.args.work.now c.args.journal.now c.args.left.triangles c.args.left.edits c.args.count

pub take_back_last-triangles-requires : goal.take_back_last-triangles-requires
take_back_last-triangles-requires c =
    let h = c.requires.held in
    let r = c.loop-i.invariant in record { held = record { past = without c.loop-i.i h.past; holds = r.returned.holds h.past h.holds }; edits_nonzero = let q = c.loop-i-test.true in omega arith }

pub loop-i-preserved : goal.loop-i-preserved
loop-i-preserved c =
    going_on c.args.points c.args.corners.now c.args.labels.now c.args.work.now c.args.journal.now c.args.left.triangles c.args.left.edits c.args.count c.loop-i.invariant c.loop-i-test.true
    c.take_back_last-triangles.ensures c.take_back_last-triangles.auto.corners c.take_back_last-triangles.auto.labels c.take_back_last-triangles.auto.work c.take_back_last-triangles.auto.journal

pub returns : goal.returns
returns c =
    let g = c.loop-i.invariant in
    let f = g.few in
    let e : c.loop-i.i ≡ c.args.count = omega arith in
    (subst (λ (i : ℕ). Returned c.args.points c.args.corners.now c.args.labels.now c.args.work.now c.args.journal.now c.args.left.triangles c.args.left.edits i c.loop-i.corners c.loop-i.labels c.loop-i.work c.loop-i.journal c.loop-i.triangles) e g.returned, refl)
