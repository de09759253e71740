-- `converting::turn_all` meets its contract. The loop's invariant: the coordinates below `k` are turned, and the others as they were. Assumes nothing.
use mathlib.Core.Path.{refl, sym, ap, ◌∙◌, subst}
use Prim.Native.Nat.{◌≤◌}
use native.Mathlib.Omega.{arith}
use lib.IntN.{ℤ, pos, nat_abs}
use lib.ListN.{get_or}
use Rattle.sheet.specs.Edition.{edition_number, rules_of}
use Rattle.sheet.specs.Conversion.{fits?, in_unit}
use Rattle.sheet.proofs.Signs.{back}
use Rattle.converting.specs.Converting.{unit_of}
use Rattle.converting.proofs.Turning.{none-turned, next-is, one-turned, all-turned}
use Rattle.converting.proofs.turn_all.Goals as goal

pub loop-k-init : goal.loop-k-init
loop-k-init c = none-turned _ _ _ _ c.requires.0

pub slice_copy_out-turn : goal.slice_copy_out-turn
slice_copy_out-turn c = omega (arith, c.loop-k.invariant.long, c.loop-k.invariant.kept)

pub turn-whole-requires : goal.turn-whole-requires
turn-whole-requires c =
    let z = get_or c.loop-k.coordinates c.loop-k.k (pos 0) in
    let e = back z z refl (omega arith) ∙ next-is (unit_of (edition_number c.args.from)) (unit_of (edition_number c.args.asked)) c.args.count c.args.coordinates.now c.loop-k.k c.loop-k.coordinates c.loop-k.same c.loop-k.invariant (omega arith) in
    (subst (λ (y : ℤ). nat_abs y ≤ (rules_of c.args.from).most) (sym e) (c.requires.1 c.loop-k.k (omega arith)), omega (arith, c.loop-k.invariant.long, c.loop-k.invariant.kept))

pub loop-k-preserved : goal.loop-k-preserved
loop-k-preserved c =
    let z = get_or c.loop-k.coordinates c.loop-k.k (pos 0) in
    let e = back z z refl (omega arith) ∙ next-is (unit_of (edition_number c.args.from)) (unit_of (edition_number c.args.asked)) c.args.count c.args.coordinates.now c.loop-k.k c.loop-k.coordinates c.loop-k.same c.loop-k.invariant (omega arith) in
    one-turned (unit_of (edition_number c.args.from)) (unit_of (edition_number c.args.asked)) c.args.count c.args.coordinates.now c.loop-k.k c.loop-k.coordinates _ c.loop-k.same c.turn-whole.result _ c.loop-k.invariant (omega arith) c.turn-whole.auto.coordinates c.turn-whole.ensures.stored (ap (in_unit (unit_of (edition_number c.args.from)) (unit_of (edition_number c.args.asked))) e) (c.turn-whole.ensures.same ∙ ap (fits? (unit_of (edition_number c.args.from)) (unit_of (edition_number c.args.asked))) e)

pub returns : goal.returns
returns c =
    all-turned (edition_number c.args.from) (edition_number c.args.asked) c.args.count c.args.coordinates.now c.loop-k.coordinates c.loop-k.k c.loop-k.same c.loop-k.invariant (omega arith)
