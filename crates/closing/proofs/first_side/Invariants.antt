-- `closing::first_side` meets its contract: at the loop's head no side of the kind that is sought starts below u.
use Prim.Native.Nat.{ℕ}
use mathlib.Core.Path.{◌≡◌}
use mathlib.Core.List.{List}
use lib.ListN.{length, drop}
use Rattle.surface.specs.Triangle.{triangles}
use Rattle.closing.specs.declared.Fault.{Fault}
use Rattle.closing.specs.Stages.{used, Ready}
use Rattle.closing.specs.Locating.{NoneBelow}
use Rattle.closing.proofs.first_side.Given as goal

pub record Going (c : List ℕ) (p : ℕ) (fault : Fault) (w₀ w : List ℕ) (u : ℕ) : Type 0 where
  pub size : length w ≡ length w₀
  pub ready : Ready c p w u
  pub far : drop (used c p) w ≡ drop (used c p) w₀
  pub passed : NoneBelow fault (triangles c) u

abbrev pub invariant-loop-u : goal.invariant-loop-u
invariant-loop-u l = Going l.corners l.points l.fault l.initial.work l.work l.u
