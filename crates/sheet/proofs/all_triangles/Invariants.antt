-- `sheet::all_triangles` meets its contract. The loop's invariant: `k` triangles have been read, their lines stand at `at`, up to `next`, and their corners and labels at the start of the lists.
-- Assumes nothing.
use mathlib.Core.Path.{◌≡◌}
use mathlib.Core.List.{List, ◌++◌}
use Prim.Native.Nat.{◌*◌, ◌≤◌}
use lib.ListN.{length, drop}
use Rattle.sheet.specs.Text.{lines}
use Rattle.sheet.specs.Sheet.{Triangle, Every, Small, triangle_line, corners_of, labels_of}
use Rattle.sheet.specs.Stages.{Stands}
use Rattle.sheet.proofs.all_triangles.Given as goal

-- `sheet::all_triangles` meets its contract. The loop's invariant: `k` triangles have been read, their lines stand at `at`, up to `next`, and their corners and labels at the start of the lists.
-- Assumes nothing.
abbrev pub invariant-loop-k : goal.invariant-loop-k
invariant-loop-k l =
    (ts : List Triangle) × (length ts ≡ l.k) × (l.k ≤ l.count) × (length l.corners ≡ length l.initial.corners) × (length l.labels ≡ length l.initial.labels) × Every Small ts
    × Stands l.text l.at (lines triangle_line ts) l.next × (l.corners ≡ corners_of ts ++ drop (l.k * 3) l.initial.corners) × (l.labels ≡ labels_of ts ++ drop l.k l.initial.labels)
