use Rattle.verdicts.proofs.Scan.{three-first, three-second, three_third}
use Rattle.surface.specs.Flat.{tri_of}
use Rattle.surface.specs.Closed.{Step}
use Rattle.verdicts.specs.Notes.{apart_by}
use mathlib.Core.Path.{sym, ◌∙◌}
use Rattle.verdicts.proofs.apart_in.Goals.{then-apart_if, else-apart_if}
use Rattle.verdicts.proofs.apart_in.Goals as goal

pub returns-then-apart_if-2 : goal.returns-then-apart_if-2
returns-then-apart_if-2 c =
    let f = λ (s : Step). apart_by c.args.notes.now c.args.c c.args.d s.from in
    elim c.if-apart_if.branch [
      | then-apart_if w ↦ three_third f (tri_of c.args.t) c.args.a c.apart_if.result c.apart_if.ensures w.if-apart_if.true w.apart_if-then-apart_if.result w.apart_if-then-apart_if.ensures (sym w.value-is ∙ c.if-apart_if-2.true) c.apart_if-then-apart_if-2.result c.apart_if-then-apart_if-2.ensures
      | else-apart_if w ↦ cc
    ]

pub returns-else-apart_if-2 : goal.returns-else-apart_if-2
returns-else-apart_if-2 c =
    let f = λ (s : Step). apart_by c.args.notes.now c.args.c c.args.d s.from in
    elim c.if-apart_if.branch [
      | then-apart_if w ↦ c.if-apart_if-2.false ∙ three-second f (tri_of c.args.t) c.args.a c.apart_if.result c.apart_if.ensures w.if-apart_if.true w.apart_if-then-apart_if.result w.apart_if-then-apart_if.ensures (sym w.value-is ∙ c.if-apart_if-2.false)
      | else-apart_if w ↦ c.if-apart_if-2.false ∙ three-first f (tri_of c.args.t) c.args.a c.apart_if.result c.apart_if.ensures w.if-apart_if.false
    ]
