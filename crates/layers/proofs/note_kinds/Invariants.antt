-- `layers::note_kinds` meets its contract: a turn notes a point more. Assumes nothing.
use Prim.Native.Nat.{ℕ, ◌/◌, ◌≤◌}
use mathlib.Core.Path.{◌≡◌}
use mathlib.Core.List.{List}
use lib.ListN.{length}
use lib.Ieee.{Float}
use Rattle.layers.specs.Stages.{KindsNoted}
use Rattle.layers.proofs.note_kinds.Given as goal

pub record Noting (points : List Float) (level : Float) (base : ℕ) (w₀ w : List ℕ) (v : ℕ) : Type 0 where
  pub low : v ≤ length points / 3
  pub long : length w ≡ length w₀
  pub noted : KindsNoted points level base w₀ w v

abbrev pub invariant-loop-v : goal.invariant-loop-v
invariant-loop-v l = Noting l.points l.level l.base l.initial.work l.work l.v
