-- `sheet::all_points` meets its contract. The loop's invariant: `k` points have been read, their lines stand at `at`, up to `next`, and their coordinates at the start of the list.
-- Assumes nothing.
use mathlib.Core.Path.{◌≡◌}
use mathlib.Core.List.{List, ◌++◌}
use Prim.Native.Nat.{◌*◌, ◌≤◌}
use lib.ListN.{length, drop}
use Rattle.sheet.specs.Text.{lines}
use Rattle.sheet.specs.Sheet.{Point, Every, Near, point_line, coordinates_of}
use Rattle.sheet.specs.Edition.{rules_of}
use Rattle.sheet.specs.Stages.{Stands}
use Rattle.sheet.proofs.all_points.Given as goal

-- `sheet::all_points` meets its contract. The loop's invariant: `k` points have been read, their lines stand at `at`, up to `next`, and their coordinates at the start of the list.
-- Assumes nothing.
abbrev pub invariant-loop-k : goal.invariant-loop-k
invariant-loop-k l =
    (ps : List Point) × (length ps ≡ l.k) × (l.k ≤ l.count) × (length l.coordinates ≡ length l.initial.coordinates) × Every (Near (rules_of l.edition).most) ps
    × Stands l.text l.at (lines point_line ps) l.next × (l.coordinates ≡ coordinates_of ps ++ drop (l.k * 3) l.initial.coordinates)
