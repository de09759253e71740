-- `layers::trace` meets its contract: the kinds are noted and the crossed sides counted, and there are places enough or not. Assumes nothing.
use Prim.Native.Nat.{◌≤◌}
use mathlib.Core.Path.{sym, subst}
use lib.IntN.{ℤ, nat_abs}
use mir.Syntax.{w32}
use mir.ValLaws.{to_z-of_z}
use Rattle.rounding.specs.Fraction.{Is}
use Rattle.layers.proofs.Questions.{height_small}
use Rattle.layers.proofs.Traced.{kinded, refused, listed}
use Rattle.layers.proofs.trace.Goals as goal

exact : (c : goal.After-crossed_sides-arg-1) → Is c.level.result c.args.height 1024
exact c = subst (λ (z : ℤ). Is c.level.result z 1024) ((to_z-of_z w32 c.args.height c.ranges.height)) c.level.ensures

exact-3 : (c : goal.Then-outline-total) → Is c.level.result c.args.height 1024
exact-3 c = subst (λ (z : ℤ). Is c.level.result z 1024) ((to_z-of_z w32 c.args.height c.ranges.height)) c.level.ensures

exact-2 : (c : goal.After-slice_known-6-1) → Is c.level.result c.args.height 1024
exact-2 c = subst (λ (z : ℤ). Is c.level.result z 1024) ((to_z-of_z w32 c.args.height c.ranges.height)) c.level.ensures

pub level-requires : goal.level-requires
level-requires c = subst (λ (z : ℤ). nat_abs z ≤ 32768) (sym ((to_z-of_z w32 c.args.height c.ranges.height))) (height_small c.args.points.now c.args.height c.requires.layered)

pub crossed_sides-total-requires : goal.crossed_sides-total-requires
crossed_sides-total-requires c =
    kinded c.args.points.now c.args.corners.now c.args.work.now c.args.height c.requires _ (exact c) c.note_kinds.new.work c.note_kinds.auto.work c.note_kinds.ensures

pub returns-then-outline-total : goal.returns-then-outline-total
returns-then-outline-total c =
    refused c.args.points.now c.args.corners.now c.args.work.now c.args.height c.requires _ (exact-3 c) c.note_kinds.new.work c.note_kinds.auto.work c.note_kinds.ensures
    c.crossed_sides-total.new.work c.crossed_sides-total.auto.work c.crossed_sides-total.ensures.1 c.crossed_sides-total.result c.crossed_sides-total.ensures.0 c.args.outline.now c.if-outline-total.true

pub returns : goal.returns
returns c =
    listed c.args.points.now c.args.corners.now c.args.work.now c.args.height c.requires _ (exact-2 c) c.note_kinds.new.work c.note_kinds.auto.work c.note_kinds.ensures
    c.crossed_sides-total.new.work c.crossed_sides-total.auto.work c.crossed_sides-total.ensures.1 c.crossed_sides-total.result c.crossed_sides-total.ensures.0 c.args.outline.now c.if-outline-total.false
    c.outline-loops.new.work c.outline-loops.auto.work c.outline-loops.new.places _ c.outline-loops.ensures
