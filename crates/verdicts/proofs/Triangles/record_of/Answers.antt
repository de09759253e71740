use Rattle.verdicts.proofs.Recorded.{record_words, bit}
use mathlib.Core.Path.{◌∙◌}
use Rattle.verdicts.proofs.Triangles.record_of.Goals as goal

pub returns : goal.returns
returns c = record_words c.args.kind c.args.h c.requires c.triangle_at.result c.triangle_at.ensures c.triangle_at-2.result c.triangle_at-2.ensures c.start_of.result c.start_of-2.result c.from.result c.from-2.result c.from-3.result
    c.start_of.ensures c.start_of-2.ensures c.from.ensures c.from-2.ensures (c.from-3.ensures ∙ bit _)
