use Rattle.history.specs.Local.{flip?}
use Rattle.surface.specs.Flat.{held}
use Rattle.surface.specs.Edit.{Hinge}
use Rattle.surface.specs.Closed.{sides}
use lib.Dec.{eqb}
use mathlib.Core.Path.{◌∙◌, ap}
use Rattle.verdicts.proofs.Triangles.may_flip.Goals as goal

pub returns : goal.returns
unfolding flip?
returns c = c.absent.ensures ∙ ap (λ (h : Hinge). eqb (sides (held c.args.self.now.corners.now c.args.self.now.count) h.c h.d) 0) c.requires.1
