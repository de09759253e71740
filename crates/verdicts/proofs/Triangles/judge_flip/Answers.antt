use Rattle.verdicts.proofs.Word.{unlike_word, flip-word-is}
use mathlib.Core.Bool.{true, false}
use mathlib.Core.Path.{◌∙◌}
use Rattle.verdicts.proofs.Triangles.judge_flip.Goals as goal

pub returns-then-labels-h : goal.returns-then-labels-h
returns-then-labels-h c = unlike_word c.args.h c.requires c.args.space c.if-labels-h.true

pub returns-then-not-may_flip : goal.returns-then-not-may_flip
returns-then-not-may_flip c = flip-word-is c.args.h c.requires c.args.space c.if-labels-h.false c.may_flip.result c.may_flip.ensures false c.if-not-may_flip.true

pub returns : goal.returns
returns c = c.place_left.ensures ∙ flip-word-is c.args.h c.requires c.args.space c.if-labels-h.false c.may_flip.result c.may_flip.ensures true c.if-not-may_flip.false
