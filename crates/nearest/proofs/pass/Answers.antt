-- `nearest::pass` meets its contract: at the loop's head the best of the corners below v is kept.
use Prim.Native.Nat.{ℕ, ◌/◌}
use mathlib.Core.Path.{◌≡◌, refl, ◌∙◌, subst}
use native.Mathlib.Omega.{arith}
use lib.ListN.{length}
use Rattle.nearest.specs.Stages.{BestsKept}
use Rattle.nearest.proofs.Turns.{laid_again}
use Rattle.nearest.proofs.pass.Goals as goal

pub loop-v-init : goal.loop-v-init
loop-v-init c = (c.requires.laid, refl, c.requires.bests_kept)

pub compare-requires : goal.compare-requires
compare-requires c = let i = c.loop-v.invariant in record { laid = (laid_again i.1 i.0, c.loop-v-test.true); bests_kept = i.2 }

pub loop-v-preserved : goal.loop-v-preserved
loop-v-preserved c = let i = c.loop-v.invariant in (i.0, c.compare.auto.bests ∙ i.1, c.compare.ensures)

pub returns : goal.returns
returns c =
    let e : c.loop-v.v ≡ length c.args.points.now / 3 = omega arith in
    subst (λ (n : ℕ). BestsKept c.args.points.now c.args.work.now c.args.probes.now n c.loop-v.bests) e c.loop-v.invariant.2
