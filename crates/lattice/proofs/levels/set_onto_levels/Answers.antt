-- `lattice::levels::set_onto_levels` meets its contract. The values so far are set onto the levels, and the others are as they were. Assumes nothing.
use mathlib.Core.Path.{ap, ◌∙◌}
use mathlib.Core.List.{map}
use native.Mathlib.Omega.{arith}
use lib.Ieee.{Float, nan}
use Rattle.lattice.specs.Values.{tolerance, onto_both}
use Rattle.lattice.proofs.Choices.{scaled, change_more, change_end}
use Rattle.lattice.proofs.levels.set_onto_levels.Goals as goal

pub loop-v-preserved : goal.loop-v-preserved
loop-v-preserved c = change_more (onto_both c.tolerance-t.result c.args.lower c.args.upper) c.args.values.now c.loop-v.v-index c.loop-v.values nan c.onto_both.result (omega arith) c.loop-v.invariant c.onto_both.ensures

pub returns : goal.returns
returns c =
    let s = scaled c.args.values.now c.args.lower c.args.upper _ _ _ c.largest.ensures c.with_level.ensures c.with_level-scale.ensures in
    change_end _ c.args.values.now c.loop-v.v-index c.loop-v.values (omega arith) c.loop-v.invariant ∙ ap (λ (t : Float). map (onto_both t c.args.lower c.args.upper) c.args.values.now) (c.tolerance-t.ensures ∙ ap tolerance s)
