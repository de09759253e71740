-- `closing::prepare` meets its contract: the first two stages of `settle` (`Whole`).
use Prim.Native.Nat.{◌+◌}
use mathlib.Core.Path.{◌∙◌}
use native.Mathlib.Omega.{arith}
use lib.ListN.{drop}
use Rattle.closing.specs.Stages.{used}
use Rattle.closing.proofs.Whole.{zero-at, sized-first, ready-first, far-on, far_clear}
use Rattle.closing.proofs.prepare.Goals as goal

pub link_corners-requires : goal.link_corners-requires
link_corners-requires c =
    let p = c.args.points in
    let w₀ = c.args.work.now in record { sized = sized-first c.args.corners.now p w₀ c.requires c.clear.new.work c.clear.auto.work; by_index = (λ v l. zero-at (p + p + p) v c.clear.new.work (drop (p + p + p) w₀) c.clear.ensures (omega arith)) }

pub returns : goal.returns
returns c =
    let cs = c.args.corners.now in
    let p = c.args.points in
    let w₀ = c.args.work.now in
    record {
      ready = ready-first cs p w₀ c.requires c.clear.new.work c.link_corners.new.work c.clear.ensures c.clear.auto.work c.link_corners.auto.work c.link_corners.ensures;
      far = c.link_corners.ensures.far ∙ far-on (p + p + p) (used cs p) c.clear.new.work w₀ (omega arith) (far_clear (p + p + p) c.clear.new.work w₀ c.clear.ensures);
    }
