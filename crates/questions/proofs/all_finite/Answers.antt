-- `questions::all_finite` meets its contract: at the loop's head all that was tested, and the values from there on, decide.
use mathlib.Core.Path.{◌≡◌, refl, ap, ◌∙◌, sym}
use mathlib.Core.Bool.{Bool, true, false, ◌&&◌}
use lib.Ieee.{nan}
use Rattle.float.specs.Order.{is_finite}
use Rattle.surface.proofs.All.{all_and, all_done}
use Rattle.questions.proofs.all_finite.Goals as goal

pub loop-x-preserved : goal.loop-x-preserved
loop-x-preserved c = all_and is_finite nan _ _ c.loop-x.all c.is_finite-all.result _ c.loop-x-test.true c.is_finite-all.ensures c.loop-x.invariant

and_true : (b : Bool) → b ≡ (b && true)
and_true true = refl
and_true false = refl

pub returns : goal.returns
returns c = and_true c.loop-x.all ∙ ap (λ (b : Bool). c.loop-x.all && b) (sym (all_done is_finite _ _ c.loop-x-test.false)) ∙ c.loop-x.invariant
