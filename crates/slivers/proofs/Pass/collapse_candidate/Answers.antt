-- `slivers::Pass::collapse_candidate` meets its contract.
use Prim.Native.Nat.{ℕ, ◌<◌}
use mathlib.Core.Path.{sym, ◌∙◌, subst}
use native.Mathlib.Omega.{arith}
use lib.ListN.{length}
use Rattle.chains.proofs.Marks.{below_next}
use Rattle.slivers.specs.Ready.{scene_of}
use Rattle.slivers.proofs.Turns.{ends-differ, ends-low, advance_none, advance_stays, advance_takes}
use Rattle.slivers.proofs.Pass.collapse_candidate.Goals as goal

pub returns-then-not-may_collapse : goal.returns-then-not-may_collapse
returns-then-not-may_collapse c = advance_none (scene_of c.args.self.now) c.args.self.now.points.now c.args.self.now.corners.now c.args.self.now.labels.now c.args.self.now.heads c.args.work.now c.args.self.now.chains c.args.self.now.carried c.args.self.now.marks c.args.self.now.touched c.requires.ready c.args.k c.requires.k_in_bounds (sym c.may_collapse.ensures ∙ c.if-not-may_collapse.true)

pub direction-requires-clause-a_lt_heads : goal.direction-requires-clause-a_lt_heads
direction-requires-clause-a_lt_heads c = let h = c.requires.ready in (omega (arith, h.lists.below c.args.k c.requires.k_in_bounds), omega (arith, below_next h.lists c.args.k c.requires.k_in_bounds), ends-differ h c.args.k _ _ c.requires.k_in_bounds c.word-a.ensures c.ahead-b.ensures)

pub collapse_side-requires-clause-keep_lt_points : goal.collapse_side-requires-clause-keep_lt_points
collapse_side-requires-clause-keep_lt_points c =
    let h = c.requires.ready in
    let z = ends-low (scene_of c.args.self.now) c.args.self.now.points.now c.args.self.now.corners.now c.args.self.now.labels.now c.args.self.now.heads c.args.work.now c.args.self.now.chains c.args.self.now.carried c.args.self.now.marks c.args.self.now.touched c.requires.ready c.args.k c.requires.k_in_bounds c.word-a.result c.ahead-b.result c.word-a.ensures c.ahead-b.ensures c.direction.result c.direction.ensures (sym c.may_collapse.ensures ∙ c.if-not-may_collapse.false) c.in-Some.way c.in-Some.is in
    (z.0, z.1, c.requires.k_in_bounds, subst (λ (x : ℕ). x < length c.args.self.now.corners.now) (sym c.word-t.ensures) (h.twins c.args.k c.requires.k_in_bounds).low, omega (arith, h.room, h.labelled.size))

pub returns-in-Some : goal.returns-in-Some
returns-in-Some c = advance_takes (scene_of c.args.self.now) c.args.self.now.points.now c.args.self.now.corners.now c.args.self.now.labels.now c.args.self.now.heads c.args.work.now c.args.self.now.chains c.args.self.now.carried c.args.self.now.marks c.args.self.now.touched c.requires.ready c.args.k c.requires.k_in_bounds c.word-a.result c.ahead-b.result c.word-a.ensures c.ahead-b.ensures c.direction.result c.direction.ensures (sym c.may_collapse.ensures ∙ c.if-not-may_collapse.false) c.in-Some.way _ _ c.in-Some.is c.word-t.ensures c.collapse_side.ensures

pub returns-in_default : goal.returns-in_default
returns-in_default c = advance_stays (scene_of c.args.self.now) c.args.self.now.points.now c.args.self.now.corners.now c.args.self.now.labels.now c.args.self.now.heads c.args.work.now c.args.self.now.chains c.args.self.now.carried c.args.self.now.marks c.args.self.now.touched c.requires.ready c.args.k c.requires.k_in_bounds c.word-a.result c.ahead-b.result c.word-a.ensures c.ahead-b.ensures c.direction.result c.direction.ensures (sym c.may_collapse.ensures ∙ c.if-not-may_collapse.false) c.in_default.is
