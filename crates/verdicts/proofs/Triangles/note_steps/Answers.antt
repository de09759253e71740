use Rattle.verdicts.proofs.Notes.{noting_fits}
use borrow.Author.Rules.{rules}
use Rattle.verdicts.proofs.Notes.{noting_start, noting_on, noting_end}
use Rattle.surface.specs.Flat.{held}
use Rattle.verdicts.proofs.Triangles.note_steps.Goals as goal

pub loop-i-init : goal.loop-i-init
loop-i-init c = (search rules, noting_start (held c.args.self.now.corners.now c.args.self.now.count) c.args.a c.args.notes.now c.requires.by_index)

pub note_step-requires : goal.note_step-requires
note_step-requires c =
    let f = noting_fits c.requires.listed c.loop-i.invariant.1 c.loop-i-test.true c.triangle_at.result c.triangle_at.ensures in
    record { on = f.0; notes_len_bound = f.1 }

pub loop-i-preserved : goal.loop-i-preserved
loop-i-preserved c = (search rules, noting_on c.requires.listed c.loop-i.invariant.1 c.loop-i-test.true c.triangle_at.result c.triangle_at.ensures c.note_step.new.notes c.note_step.ensures)

pub returns : goal.returns
returns c = record { notes = noting_end c.requires.listed c.loop-i.invariant.1 c.loop-i.invariant.0 c.loop-i-test.false; len = c.loop-i.invariant.1.size }
