-- `entries::shift_forward` meets its contract: the elements below i have moved, or nothing followed.
use Rattle.entries.proofs.Moved.{Shifting}
use Rattle.entries.proofs.shift_forward.Given as goal

abbrev pub invariant-loop-i : goal.invariant-loop-i
invariant-loop-i g l = Shifting l.zero l.by l.i l.initial.part l.part

abbrev pub invariant-loop-k : goal.invariant-loop-k
invariant-loop-k g l = Shifting l.zero l.by l.k l.fn.part l.part
