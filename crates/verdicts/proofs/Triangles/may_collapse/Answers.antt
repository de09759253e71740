use Rattle.verdicts.proofs.Scan.{collapse-common, collapse-many, collapse-three}
use Rattle.verdicts.proofs.Notes.{noted-common}
use Rattle.surface.specs.Flat.{held}
use mathlib.Core.Bool.{not, false}
use mathlib.Core.Path.{◌≡◌, ◌∙◌, ap}
use Rattle.verdicts.proofs.Triangles.may_collapse.Goals.{then-three_around, else-three_around}
use Rattle.verdicts.proofs.Triangles.may_collapse.Goals as goal

pub returns-else-all_apart : goal.returns-else-all_apart
returns-else-all_apart c =
    let h = c.args.h in
    c.if-all_apart.false ∙ collapse-common (held c.args.self.now.corners.now c.args.self.now.count) c.args.a c.args.b h c.requires.h_value c.all_apart.result (c.all_apart.ensures ∙ noted-common c.requires.noted c.args.a h.c h.d) c.if-all_apart.false

pub returns-after-three_around : goal.returns-after-three_around
returns-after-three_around c =
    let h = c.args.h in
    let e = c.all_apart.ensures ∙ noted-common c.requires.noted c.args.a h.c h.d in
    elim c.if-three_around.branch [
      | then-three_around w ↦ ap not w.result-is ∙ collapse-three (held c.args.self.now.corners.now c.args.self.now.count) c.args.a c.args.b h c.requires.h_value c.all_apart.result e c.if-all_apart.true c.three_around.result c.three_around.ensures w.if-three_around.true w.three_around-then-three_around.result w.three_around-then-three_around.ensures
      | else-three_around w ↦ let z : c.if-three_around.result ≡ false = cc in ap not z ∙ collapse-many (held c.args.self.now.corners.now c.args.self.now.count) c.args.a c.args.b h c.requires.h_value c.all_apart.result e c.if-all_apart.true c.three_around.result c.three_around.ensures w.if-three_around.false
    ]
