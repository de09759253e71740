-- `writing::Writer::head` meets its contract.
use Rattle.std.proofs.Common.{arith, sym, subst, ◌≤◌, ◌∙◌, ℕ, List, length}
use Rattle.sheet.specs.Edition.{rules_of}
use Rattle.writing.proofs.Puts.{reach}
use Rattle.writing.proofs.Parts.{head-put, opening-short, opening_put}
use Rattle.writing.proofs.Writer.head.Goals as goal

pub word-requires : goal.word-requires
word-requires c =
    let short : length c.opening.result.now ≤ 27 = subst (λ (o : List ℕ). length o ≤ 27) (sym c.opening.ensures) (opening-short c.args.edition) in
    (omega arith, omega arith)

pub field-requires : goal.field-requires
field-requires c =
    let p = reach (opening_put c.args.edition c.opening.ensures c.word.ensures.put) in
    omega arith

pub field-requires-2 : goal.field-requires-2
field-requires-2 c =
    let p = reach (opening_put c.args.edition c.opening.ensures c.word.ensures.put) in
    let q = reach c.field.ensures.put in
    omega arith

pub word-requires-2 : goal.word-requires-2
word-requires-2 c =
    let p = reach (opening_put c.args.edition c.opening.ensures c.word.ensures.put) in
    let q = reach c.field.ensures.put in
    let u = reach c.field-2.ensures.put in
    (omega arith, omega arith)

pub returns : goal.returns
returns c = record {
  same = c.word-2.ensures.same ∙ (c.field-2.ensures.same ∙ (c.field.ensures.same ∙ c.word.ensures.same));
  put = head-put (rules_of c.args.edition).opening c.args.n c.args.m (opening_put c.args.edition c.opening.ensures c.word.ensures.put) c.field.ensures.put c.field-2.ensures.put c.word-2.ensures.put;
}
