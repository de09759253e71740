-- `scores::pick_candidates` meets its contract. Assumes nothing.
use native.Mathlib.Omega.{arith}
use Prim.Native.Nat.{ℕ, ◌+◌}
use mathlib.Core.Path.{◌∙◌}
use Rattle.halfedges.specs.Place.{at}
use Rattle.scores.specs.Measures.{picks}
use Rattle.chains.proofs.Bits.{bit_most}
use Rattle.scores.proofs.Turns.{pick_starts, pick-place, pick_turned, pick_ends, picks-same, marked_in}
use Rattle.scores.proofs.pick_candidates.Goals as goal

pub loop-i-init : goal.loop-i-init
loop-i-init c =
    pick_starts _ _ _ _

pub is_candidate-yes-requires : goal.is_candidate-yes-requires
is_candidate-yes-requires c =
    let r = c.requires.measurable.room in
    let s = c.loop-i.invariant.size in record { pointed = c.requires.measurable.pointed; marked = marked_in c.args.corners.now c.args.work.now c.loop-i.work c.args.twins c.args.marks c.args.items (omega arith) c.loop-i.invariant.under c.requires.marked; k_in_bounds = (pick-place c.args.points.now c.args.corners.now c.args.work.now c.loop-i.work (λ (k : ℕ). picks c.args.points.now c.args.corners.now c.args.twins c.args.marks c.args.limit c.args.work.now (at c.args.work.now (c.args.sides + k))) c.args.sides c.args.count c.args.items c.loop-i.n c.loop-i.i c.requires.measurable c.loop-i.invariant c.loop-i-test.true _ c.wide-k.ensures).1 }

pub overflow_add-n : goal.overflow_add-n
overflow_add-n c =
    omega (arith, bit_most c.is_candidate-yes.result _ c.from-n.ensures)

pub loop-i-preserved : goal.loop-i-preserved
loop-i-preserved c =
    let p = pick-place c.args.points.now c.args.corners.now c.args.work.now c.loop-i.work (λ (k : ℕ). picks c.args.points.now c.args.corners.now c.args.twins c.args.marks c.args.limit c.args.work.now (at c.args.work.now (c.args.sides + k))) c.args.sides c.args.count c.args.items c.loop-i.n c.loop-i.i c.requires.measurable c.loop-i.invariant c.loop-i-test.true _ c.wide-k.ensures in
    pick_turned (λ (k : ℕ). picks c.args.points.now c.args.corners.now c.args.twins c.args.marks c.args.limit c.args.work.now (at c.args.work.now (c.args.sides + k))) c.args.work.now c.loop-i.work c.args.count c.args.items c.loop-i.n c.loop-i.i c.requires.measurable.room c.loop-i.invariant c.loop-i-test.true c.is_candidate-yes.result _ c.from-n.ensures
    (c.is_candidate-yes.ensures ∙ picks-same c.args.points.now c.args.corners.now c.args.work.now c.loop-i.work c.args.twins c.args.marks c.args.items c.args.limit _ _ c.requires.measurable.pointed.thirds c.requires.marked c.loop-i.invariant.under p.0 (c.requires.measurable.places c.loop-i.i c.loop-i-test.true))

pub returns : goal.returns
returns c =
    pick_ends (λ (k : ℕ). picks c.args.points.now c.args.corners.now c.args.twins c.args.marks c.args.limit c.args.work.now (at c.args.work.now (c.args.sides + k))) c.args.work.now c.loop-i.work c.args.count c.args.items c.loop-i.n c.loop-i.i c.requires.measurable.room c.loop-i.invariant c.loop-i-test.false
