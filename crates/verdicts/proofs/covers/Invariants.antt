-- `verdicts::covers` meets its contract: at the loop's head the labels from k on decide.
use Rattle.verdicts.specs.Survey.{all_labels, flag_covered, flags_cover}
use Rattle.surface.specs.Check.{every}
use lib.ListN.{drop}
use mathlib.Core.Path.{◌≡◌}
use Prim.Native.Nat.{◌≤◌}
use Rattle.verdicts.proofs.covers.Given as goal

abbrev pub invariant-loop-k : goal.invariant-loop-k
invariant-loop-k l = (l.k ≤ 8) × (every (flag_covered l.c.kept l.c.removed) (drop l.k all_labels) ≡ flags_cover l.c.kept l.c.removed)
