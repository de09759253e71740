-- `writing::Writer::triangle` meets its contract.
use Rattle.std.proofs.Common.{arith, ap, ◌∙◌, ℕ}
use Rattle.sheet.specs.Text.{decimal}
use Rattle.sheet.specs.Stages.{ended}
use Rattle.writing.specs.Lists.{list_triangle}
use Rattle.writing.proofs.Puts.{said_as, reach}
use Rattle.writing.proofs.Parts.{triangle_put}
use Rattle.writing.proofs.Writer.triangle.Goals as goal

pub field-requires-2 : goal.field-requires-2
field-requires-2 c =
    let p = reach c.field.ensures.put in
    omega arith

pub field-requires-3 : goal.field-requires-3
field-requires-3 c =
    let p = reach c.field.ensures.put in
    let q = reach c.field-2.ensures.put in
    omega arith

pub field-requires-4 : goal.field-requires-4
field-requires-4 c =
    let p = reach c.field.ensures.put in
    let q = reach c.field-2.ensures.put in
    let u = reach c.field-3.ensures.put in
    omega arith

pub returns : goal.returns
returns c =
    let t = list_triangle c.args.corners.now c.args.labels.now c.args.k in record {
      same = c.field-4.ensures.same ∙ (c.field-3.ensures.same ∙ (c.field-2.ensures.same ∙ c.field.ensures.same));
      put =
          triangle_put t c.field.ensures.put c.field-2.ensures.put c.field-3.ensures.put
          (said_as (ended (decimal t.label) 10) 11 (ap (λ (v : ℕ). ended (decimal v) 10) c.from.ensures) (omega arith) c.field-4.ensures.put);
    }
