use Rattle.entries.proofs.Moved.{Sinking}
use Rattle.entries.proofs.shift_back.Given as goal

abbrev pub invariant-loop-i : goal.invariant-loop-i
invariant-loop-i g l = Sinking l.by l.i l.initial.part l.part
