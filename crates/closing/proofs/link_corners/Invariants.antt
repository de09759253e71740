-- `closing::link_corners` meets its contract: at the loop's head the places below k are chained.
use Prim.Native.Nat.{ℕ, ◌+◌, ◌≤◌, ◌<◌}
use mathlib.Core.Path.{◌≡◌}
use mathlib.Core.List.{List}
use lib.ListN.{length, drop}
use Rattle.halfedges.specs.Place.{at, Linked}
use Rattle.closing.specs.Stages.{used}
use Rattle.closing.proofs.link_corners.Given as goal

pub record Linking (c : List ℕ) (p : ℕ) (w₀ w : List ℕ) (k : ℕ) : Type 0 where
  pub size : length w ≡ length w₀
  pub linked : Linked c p w k
  pub between : (j : ℕ) → p ≤ j → j < p + p + p → at w j ≡ at w₀ j
  pub far : drop (used c p) w ≡ drop (used c p) w₀

abbrev pub invariant-loop-k : goal.invariant-loop-k
invariant-loop-k l = Linking l.corners l.points l.initial.work l.work l.k
