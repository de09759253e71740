-- `closing::link_corners` meets its contract: at the loop's head the places below k are chained.
use Prim.Native.Nat.{suc, ◌+◌, ◌<◌}
use mathlib.Core.Path.{refl, ◌∙◌}
use native.Mathlib.Omega.{arith}
use native.Mathlib.Numerals.{add-one}
use lib.ListN.{length-set}
use Rattle.halfedges.proofs.Turns.{sized_other, link_turn, at-turned, link-far, link-none}
use Rattle.closing.proofs.link_corners.Goals as goal

pub loop-k-init : goal.loop-k-init
loop-k-init c = record { size = refl; linked = link-none c.args.corners.now c.args.points c.args.work.now c.requires.by_index; between = λ j l h. refl; far = refl }

pub loop-k-preserved : goal.loop-k-preserved
loop-k-preserved c =
    let cs = c.args.corners.now in
    let p = c.args.points in
    let w = c.loop-k.work in
    let k = c.loop-k.k in
    let v = c.wide-v.result in
    let inv = c.loop-k.invariant in
    let sized = sized_other cs p c.args.work.now w inv.size c.requires.sized in
    let low = c.loop-k-test.true in
    let inside : v < p = omega (arith, c.wide-v.ensures, sized.below k low) in
    record {
      size = simp length-set inv.size;
      linked = rw add-one (link_turn cs p w k v (suc k) sized low c.wide-v.ensures refl inv.linked);
      between = λ j h g. at-turned cs p w k v (k + 1) sized low c.wide-v.ensures (add-one k) j (λ q. omega (arith, inside)) (λ q. omega arith) ∙ inv.between j h g;
      far = rw add-one (link-far cs p w k v (suc k) sized low c.wide-v.ensures refl) ∙ inv.far;
    }
