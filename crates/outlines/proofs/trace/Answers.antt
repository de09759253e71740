-- `outlines::trace` meets its contract: at the loop's head what is left to do are the sides from i on.
use Prim.Native.Nat.{ℕ, ◌+◌, ◌/◌, ◌≤◌}
use mathlib.Core.Path.{◌∙◌, ap, subst, sym}
use native.Mathlib.Omega.{arith}
use native.Mathlib.Numerals.{add-one}
use lib.Dec.{ltb}
use lib.ListN.{length}
use Rattle.halfedges.specs.Place.{at}
use Rattle.outlines.proofs.Following.{same-ready}
use Rattle.outlines.specs.Stages.Trace.{SideTraced, Traced}
use Rattle.outlines.proofs.Tracing.{tracing_first, place-upward, tracing_turn, traced, bit_most, one_more}
use Rattle.outlines.proofs.trace.Goals as goal

pub loop-i-init : goal.loop-i-init
loop-i-init c = λ a. tracing_first c.args.surface.now.corners.now c.args.surface.now.points (length c.args.places.now / 3) c.args.work.now c.args.places.now c.args.count a

pub word-k-requires : goal.word-k-requires
word-k-requires c = omega (arith, c.requires.arranged.ready.room, c.requires.arranged.few, c.sides-sides.ensures, c.loop-i-test.true)

pub trace_side-next-requires : goal.trace_side-next-requires
trace_side-next-requires c =
    let t = c.loop-i.invariant c.requires.arranged in
    record {
      walkable = same-ready c.args.surface.now.corners.now c.args.surface.now.points c.args.work.now c.loop-i.work t.same c.requires.arranged.ready;
      upward = place-upward c.args.surface.now.corners.now c.args.surface.now.points (length c.args.places.now / 3) c.args.work.now c.args.places.now c.args.count c.requires.arranged c.loop-i.work c.loop-i.places c.loop-i.i c.loop-i.filled c.loop-i.number c.word-k.result t c.loop-i-test.true (c.word-k.ensures ∙ ap (λ (j : ℕ). at c.loop-i.work (j + c.loop-i.i)) c.sides-sides.ensures);
    }

pub overflow_add-number : goal.overflow_add-number
overflow_add-number c =
    let t = c.loop-i.invariant c.requires.arranged in
    let one : c.from-number.result ≤ 1 = bit_most _ _ c.from-number.ensures in
    omega (arith, t.loops, t.low, c.requires.arranged.few, c.requires.arranged.ready.few)

pub loop-i-preserved : goal.loop-i-preserved
loop-i-preserved c = λ a.
    let t = c.loop-i.invariant a in
    tracing_turn c.args.surface.now.corners.now c.args.surface.now.points (length c.args.places.now / 3) c.args.work.now c.args.places.now c.args.count a c.loop-i.work c.loop-i.places _ _
    c.loop-i.i (c.loop-i.i + 1) c.loop-i.filled c.trace_side-next.result c.loop-i.number (c.loop-i.number + c.from-number.result) c.word-k.result t c.loop-i-test.true (c.word-k.ensures ∙ ap (λ (j : ℕ). at c.loop-i.work (j + c.loop-i.i)) c.sides-sides.ensures)
    (subst (λ (n : ℕ). SideTraced c.args.surface.now.corners.now c.args.surface.now.points (n / 3) c.word-k.result c.loop-i.work c.trace_side-next.new.work c.loop-i.places c.trace_side-next.new.places c.loop-i.filled c.loop-i.number c.trace_side-next.result) t.size c.trace_side-next.ensures)
    (ap (λ (n : ℕ). c.loop-i.number + n) c.from-number.ensures ∙ one_more (ltb c.loop-i.filled c.trace_side-next.result) c.loop-i.number) (add-one c.loop-i.i)

pub returns : goal.returns
returns c = subst (Traced c.args.surface.now.corners.now c.args.surface.now.points (length c.args.places.now / 3) c.args.work.now c.loop-i.work c.args.places.now c.loop-i.places) (sym c.wide.ensures)
    (traced c.args.surface.now.corners.now c.args.surface.now.points (length c.args.places.now / 3) c.args.work.now c.args.places.now c.args.count c.requires.arranged c.loop-i.work c.loop-i.places c.loop-i.i c.loop-i.filled c.loop-i.number (c.loop-i.invariant c.requires.arranged) c.loop-i-test.false)
