-- `closing::smallest_unstamped` meets its contract: at the loop's head best is the smallest corner without a stamp to which a place of u from p on runs.
use Prim.Native.Nat.{ℕ}
use mathlib.Core.List.{List}
use Rattle.std.specs.Prelude.{Option}
use Rattle.closing.specs.Locating.{Unmet, Least}
use Rattle.closing.proofs.Stamping.{AtPlace}
use Rattle.closing.proofs.smallest_unstamped.Given as goal

pub record Going (c : List ℕ) (p u : ℕ) (w : List ℕ) (q : ℕ) (best : Option ℕ) : Type 0 where
  pub place : AtPlace c u q
  pub lowest : Least (Unmet c p w u q) p best

abbrev pub invariant-loop-p : goal.invariant-loop-p
invariant-loop-p l = Going l.corners l.points l.u l.work l.p l.best

abbrev pub decreases-loop-p : goal.decreases-loop-p
decreases-loop-p l = l.p
