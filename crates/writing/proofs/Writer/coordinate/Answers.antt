-- `writing::Writer::coordinate` meets its contract.
use Rattle.std.proofs.Common.{arith, refl, sym, ap, subst, ◌≡◌, ◌∙◌}
use lib.IntN.{nat_abs}
use Rattle.sheet.specs.Text.{decimal}
use Rattle.sheet.specs.Stages.{ended}
use Rattle.sheet.proofs.Signs.{back}
use Rattle.writing.specs.Stages.{Writes}
use Rattle.writing.specs.declared.Writer.{Writer}
use Rattle.writing.proofs.Puts.{reach}
use Rattle.writing.proofs.Parts.{minus, no_minus}
use Rattle.writing.proofs.Sizes.{below-zero}
use Rattle.writing.proofs.Writer.coordinate.Goals as goal
use Rattle.writing.proofs.Writer.coordinate.Goals.{then-z-lt0, else-z-lt0}

pub field-requires : goal.field-requires
field-requires c =
    elim c.if-z-lt0.branch [
      | then-z-lt0 w ↦ (let e = ap (λ (s : Writer). s.at) w.self-is in let p = reach w.put.ensures.put in omega arith)
      | else-z-lt0 w ↦ (let e = ap (λ (s : Writer). s.at) w.self-is in omega arith)
    ]

pub returns : goal.returns
returns c =
    let z = c.args.z in
    let size : c.unsigned_abs.result ≡ nat_abs z = c.unsigned_abs.ensures.value ∙ ap nat_abs (back z z refl c.ranges.z.sfits) in
    elim c.if-z-lt0.branch [
      | then-z-lt0 w ↦ (
          let f = subst (λ (s : Writer). Writes (ended (decimal c.unsigned_abs.result) c.args.end) 11 s c.field.new.self) w.self-is c.field.ensures in
          record { same = f.same ∙ w.put.ensures.same; put = minus z c.unsigned_abs.result c.args.end size (sym (below-zero z c.ranges.z) ∙ w.if-z-lt0.true) w.put.ensures.put f.put })
      | else-z-lt0 w ↦ (
          let f = subst (λ (s : Writer). Writes (ended (decimal c.unsigned_abs.result) c.args.end) 11 s c.field.new.self) w.self-is c.field.ensures in
          record { same = f.same; put = no_minus z c.unsigned_abs.result c.args.end size (sym (below-zero z c.ranges.z) ∙ w.if-z-lt0.false) f.put })
    ]
