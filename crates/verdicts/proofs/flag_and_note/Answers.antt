-- `verdicts::flag_and_note` meets its contract: a triangle that does not name v changes neither list.
use Rattle.verdicts.proofs.Notes.{noted-off}
use Prim.Native.Nat.{ℕ}
use lib.ListN.{set}
use mathlib.Core.Bool.{true}
use mathlib.Core.Path.{sym, ◌∙◌, ap}
use Rattle.verdicts.proofs.flag_and_note.Goals as goal

pub returns-then-not-names_in : goal.returns-then-not-names_in
returns-then-not-names_in c =
    let e = sym c.names_in.ensures ∙ c.if-not-names_in.true in
    record { flags_after = rw e; notes_after = noted-off c.args.v c.args.t c.args.notes.now e }

pub returns : goal.returns
returns c =
    record { flags_after = rw (sym c.names_in.ensures ∙ c.if-not-names_in.false) (ap (λ (k : ℕ). set c.args.flags.now k true) c.from.ensures); notes_after = c.note_step.ensures }
