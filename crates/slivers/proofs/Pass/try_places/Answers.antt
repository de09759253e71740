-- `slivers::Pass::try_places` meets its contract.
use Prim.Native.Nat.{◌-◌}
use mathlib.Core.Path.{refl, sym, ◌∙◌}
use native.Mathlib.Omega.{arith}
use lib.ListN.{length}
use lib.Ieee.{of_bits}
use Rattle.slivers.specs.Ready.{scene_of}
use Rattle.slivers.proofs.Turns.{trying_first, trying_next, trying_less, trying_no, trying_yes}
use Rattle.slivers.proofs.Pass.try_places.Goals as goal

pub loop-q-init : goal.loop-q-init
unfolding of_bits
loop-q-init c = trying_first (scene_of c.args.self.now) c.args.self.now.corners.now c.args.self.now.labels.now c.args.self.now.heads c.args.work.now c.args.self.now.chains c.args.way.keep c.args.way.remove (length c.args.self.now.points.now) c.requires.walks _ _ c.word-q.ensures refl

pub returns-in_err-least : goal.returns-in_err-least
returns-in_err-least c = c.from_residual.ensures ∙ trying_no (scene_of c.args.self.now) c.args.self.now.corners.now c.args.self.now.labels.now c.args.self.now.heads c.args.work.now c.args.self.now.chains c.args.way.keep c.args.way.remove (length c.args.self.now.points.now) c.requires.walks c.loop-q.q (c.loop-q.q - 1) c.loop-q.least (omega arith) c.loop-q.invariant c.requires.survey.lists.thirds c.requires.survey.labels (sym c.in_err-least.was ∙ c.try_place.ensures)

pub loop-q-smaller : goal.loop-q-smaller
loop-q-smaller c = trying_less (scene_of c.args.self.now) c.args.self.now.corners.now c.args.self.now.labels.now c.args.self.now.heads c.args.work.now c.args.self.now.chains c.args.way.keep c.args.way.remove (length c.args.self.now.points.now) c.requires.walks c.loop-q.q (c.loop-q.q - 1) c.loop-q.least (omega arith) c.loop-q.invariant _ c.word-q-in-loop-q.ensures

pub loop-q-preserved : goal.loop-q-preserved
loop-q-preserved c = trying_next (scene_of c.args.self.now) c.args.self.now.corners.now c.args.self.now.labels.now c.args.self.now.heads c.args.work.now c.args.self.now.chains c.args.way.keep c.args.way.remove (length c.args.self.now.points.now) c.requires.walks c.loop-q.q (c.loop-q.q - 1) c.loop-q.least (omega arith) c.loop-q.invariant _ _ c.word-q-in-loop-q.ensures (sym c.in_ok-least.was ∙ c.try_place.ensures)

pub returns : goal.returns
returns c = trying_yes (scene_of c.args.self.now) c.args.self.now.corners.now c.args.self.now.labels.now c.args.self.now.heads c.args.work.now c.args.self.now.chains c.args.way.keep c.args.way.remove (length c.args.self.now.points.now) c.requires.walks c.loop-q.q c.loop-q.least c.requires.survey.lists.thirds c.requires.survey.labels (omega arith) c.loop-q.invariant
