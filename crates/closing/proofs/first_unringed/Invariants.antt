-- `closing::first_unringed` meets its contract: at the loop's head the corners below v are fine.
use Prim.Native.Nat.{ℕ, ◌<◌}
use mathlib.Core.Path.{◌≡◌}
use mathlib.Core.List.{List}
use lib.ListN.{length, drop}
use Rattle.halfedges.proofs.Fine.{Fine}
use Rattle.halfedges.proofs.Whole.{Enough}
use Rattle.closing.specs.Stages.{used, Ready}
use Rattle.closing.proofs.first_unringed.Given as goal

pub record Going (c : List ℕ) (p m : ℕ) (w₀ w : List ℕ) (v : ℕ) : Type 0 where
  pub size : length w ≡ length w₀
  pub ready : Ready c p w v
  pub far : drop (used c p) w ≡ drop (used c p) w₀
  pub fine : (u : ℕ) → u < v → Fine c u
  pub more : (u : ℕ) → u < v → Enough c m u

abbrev pub invariant-loop-v : goal.invariant-loop-v
invariant-loop-v l = Going l.corners l.points l.least l.initial.work l.work l.v
