-- `closing::smallest_repeated` meets its contract: at the loop's head the corners to which u's places from p on run are stamped, and best is the smallest to which two of them do.
use Prim.Native.Nat.{ℕ}
use mathlib.Core.List.{List}
use Rattle.std.specs.Prelude.{Option}
use Rattle.halfedges.specs.Place.{nx}
use Rattle.closing.specs.Locating.{Two, Least}
use Rattle.closing.proofs.Stamping.{Stamping}
use Rattle.closing.proofs.smallest_repeated.Given as goal

pub record Going (c : List ℕ) (p u : ℕ) (w₀ w : List ℕ) (q : ℕ) (best : Option ℕ) : Type 0 where
  pub stamping : Stamping nx c p u w₀ w q
  pub lowest : Least (Two c u q) p best

abbrev pub invariant-loop-p : goal.invariant-loop-p
invariant-loop-p l = Going l.corners l.points l.u l.initial.work l.work l.p l.best

abbrev pub decreases-loop-p : goal.decreases-loop-p
decreases-loop-p l = l.p
