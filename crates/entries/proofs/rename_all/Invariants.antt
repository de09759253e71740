-- `entries::rename_all` meets its contract: the words below i have their new names.
use Rattle.entries.proofs.Words.{Wording}
use Rattle.surface.specs.Edit.{put}
use Rattle.entries.proofs.rename_all.Given as goal

abbrev pub invariant-loop-i : goal.invariant-loop-i
invariant-loop-i l = Wording (put l.a l.b) l.i l.initial.corners l.corners
