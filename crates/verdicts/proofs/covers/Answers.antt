-- `verdicts::covers` meets its contract: at the loop's head the labels from k on decide.
use Rattle.verdicts.proofs.Cover.{label_stop, label-on, label_end}
use Rattle.verdicts.specs.Survey.{flag_covered}
use borrow.Author.Rules.{rules}
use mathlib.Core.Path.{refl}
use Rattle.verdicts.proofs.covers.Goals as goal

pub loop-k-init : goal.loop-k-init
loop-k-init c = (search rules, refl)

pub returns-then-not-flag_covered : goal.returns-then-not-flag_covered
returns-then-not-flag_covered c =
    let g = c.args.c in
    label_stop (flag_covered g.kept g.removed) c.loop-k.k _ c.loop-k.invariant.1 c.loop-k-test.true c.flag_covered.result c.flag_covered.ensures (c.if-not-flag_covered.true)

pub loop-k-preserved : goal.loop-k-preserved
loop-k-preserved c =
    let g = c.args.c in
    (search rules, label-on (flag_covered g.kept g.removed) c.loop-k.k _ c.loop-k.invariant.1 c.loop-k-test.true c.flag_covered.result c.flag_covered.ensures (c.if-not-flag_covered.false))

pub returns : goal.returns
returns c =
    let g = c.args.c in
    label_end (flag_covered g.kept g.removed) c.loop-k.k _ c.loop-k.invariant.1 c.loop-k.invariant.0 c.loop-k-test.false
