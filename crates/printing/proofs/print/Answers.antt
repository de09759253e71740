-- `printing::print` meets its contract. Assumes nothing.
use mathlib.Core.Path.{sym, ◌∙◌, subst}
use Rattle.sheet.specs.Contents.{contents}
use Rattle.printing.proofs.Verdicts.{Values, text-values}
use Rattle.printing.proofs.Texts.{prints, prints_refused}
use Rattle.printing.proofs.print.Goals as goal

pub lines-requires : goal.lines-requires
lines-requires c =
    subst Values (sym c.verdict.ensures ∙ c.in-Ok.is) (text-values (contents c.args.text.now))

pub returns-in-Ok : goal.returns-in-Ok
returns-in-Ok c =
    prints _ _ _ _ _ (c.fill.ensures.after (λ y e. e)) (sym c.in-Ok.is ∙ c.verdict.ensures) c.lines.ensures

pub returns-in-Err : goal.returns-in-Err
returns-in-Err c =
    prints_refused _ _ _ _ _ (c.fill.ensures.after (λ y e. e)) (sym c.in-Err.is ∙ c.verdict.ensures) c.number.ensures c.lines-in-Err.ensures
