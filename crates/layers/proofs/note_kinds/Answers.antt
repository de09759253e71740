-- `layers::note_kinds` meets its contract: a turn notes a point more. Assumes nothing.
use Prim.Native.Nat.{◌+◌, ◌*◌, ◌/◌}
use mathlib.Core.Path.{◌≡◌, refl, ◌∙◌, subst}
use native.Mathlib.Omega.{arith}
use lib.ListN.{length, get_or, length-set}
use lib.Ieee.{nan, lt}
use Rattle.layers.specs.Stages.{KindsNoted}
use Rattle.layers.proofs.Traced.{noted-first, noted_turn, bit_one}
use Rattle.layers.proofs.note_kinds.Goals as goal

pub loop-v-init : goal.loop-v-init
loop-v-init c = record { low = omega arith; long = refl; noted = noted-first _ _ _ _ }

pub loop-v-preserved : goal.loop-v-preserved
loop-v-preserved c =
    let i = c.loop-v.invariant in
    record {
      low = omega arith;
      long = length-set c.loop-v.work (c.args.base + c.loop-v.v) _ ∙ i.long;
      noted = noted_turn c.args.points.now c.args.level c.args.base c.args.work.now c.loop-v.work c.loop-v.v _ i.noted c.loop-v-test.true (omega (arith, i.long)) (c.from.ensures ∙ bit_one (lt c.args.level (get_or c.args.points.now (3 * c.loop-v.v + 2) nan)));
    }

pub returns : goal.returns
returns c =
    let e : c.loop-v.v ≡ length c.args.points.now / 3 = omega (arith, c.loop-v.invariant.low) in
    subst (KindsNoted _ _ _ _ _) e c.loop-v.invariant.noted
