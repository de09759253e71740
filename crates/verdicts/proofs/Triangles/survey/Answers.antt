-- `verdicts::survey` meets its contract: each turn is one of `Surveying`.
use Rattle.verdicts.proofs.Surveying.{surveying_on, surveying_end}
use Rattle.verdicts.proofs.Cover.{flagging_start}
use Rattle.verdicts.proofs.Notes.{noting_start, noting_fits}
use Rattle.surface.specs.Flat.{held}
use lib.ListN.{take}
use borrow.Author.Rules.{rules}
use Rattle.verdicts.proofs.Triangles.survey.Goals as goal

pub loop-i-init : goal.loop-i-init
loop-i-init c =
    let ts = held c.args.self.now.corners.now c.args.self.now.count in
    let ls = take c.args.self.now.count c.args.labels.now in
    record {
      fits = search rules;
      kept = flagging_start ts ls c.args.a;
      removed = flagging_start ts ls c.args.b;
      notes = noting_start ts c.args.b c.args.notes.now c.requires.by_index;
    }

pub flag_label-requires : goal.flag_label-requires
flag_label-requires c = c.requires.labelled.small c.loop-i.i c.loop-i-test.true

pub flag_and_note-requires : goal.flag_and_note-requires
flag_and_note-requires c =
    let q = c.loop-i-test.true in
    let f = noting_fits c.requires.listed c.loop-i.invariant.notes q c.triangle_at-t.result c.triangle_at-t.ensures in
    record { label_bound = c.requires.labelled.small c.loop-i.i q; on = f.0; notes_len_bound = f.1 }

pub loop-i-preserved : goal.loop-i-preserved
loop-i-preserved c =
    surveying_on c.requires.labelled c.requires.listed c.loop-i.invariant c.loop-i-test.true c.triangle_at-t.result c.triangle_at-t.ensures c.flag_label.new.flags c.flag_label.ensures c.flag_and_note.new.flags c.flag_and_note.ensures.flags_after c.flag_and_note.new.notes c.flag_and_note.ensures.notes_after

pub returns : goal.returns
returns c =
    surveying_end c.requires.labelled c.requires.listed c.loop-i.invariant c.loop-i-test.false
