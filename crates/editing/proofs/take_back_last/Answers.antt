-- `editing::take_back_last` meets its contract: the record is read, its edit taken back, and its place in the journal cleared.
use Prim.Native.Nat.{◌-◌}
use native.Mathlib.Omega.{arith}
use Rattle.verdicts.specs.Record.{words_of}
use Rattle.editing.proofs.Held.{last_undoable, holds_returned}
use Rattle.editing.proofs.take_back_last.Goals as goal

pub take_back-triangles-requires-clause-undoable : goal.take_back-triangles-requires-clause-undoable
take_back-triangles-requires-clause-undoable c = last_undoable (c.args.left.edits - 1) (words_of c.read_record-done.result) c.requires.held.holds (omega arith) c.read_record-done.ensures

pub returns : goal.returns
returns c =
    record {
      holds = λ h held.
          holds_returned (c.args.left.edits - 1) held (omega arith) c.read_record-done.ensures c.take_back-triangles.ensures c.take_back-triangles.auto.labels c.write_record.auto.journal c.write_record.ensures;
      further = c.take_back-triangles.ensures.further;
    }
