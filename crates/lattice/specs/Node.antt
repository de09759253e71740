-- The nodes of a lattice over a box: n = cells + 1 to a side, numbered along x, then y, then z. Definitions only.
use Rattle.std.specs.Prelude.{ℕ, zero, suc, ◌+◌, ◌*◌, ◌/◌, ◌%◌, List, [], ◌∷◌, ◌++◌, get_or, Float}
use Rattle.std.specs.Float.Ieee as Ieee
use Rattle.std.specs.Float.{nan, binary64}
use Rattle.float.specs.declared.Point.{Point}
use Rattle.float.specs.Point.{plus, less, times}
use Rattle.field.specs.Number.{counted}

-- nodes to a side, and in all
abbrev pub per_side : ℕ → ℕ
per_side cells = cells + 1

abbrev pub cube : ℕ → ℕ
cube n = n * n * n

-- the index of node a along x, y and z, with n nodes to a side
abbrev pub along_x : ℕ → ℕ → ℕ
along_x n a = a % n

abbrev pub along_y : ℕ → ℕ → ℕ
along_y n a = a / n % n

abbrev pub along_z : ℕ → ℕ → ℕ
along_z n a = a / (n * n)

-- lower + ((upper - lower)·c) / cells
abbrev pub coordinate : Float → Float → ℕ → ℕ → Float
coordinate lower upper c cells = plus lower (Ieee.div binary64 (times (less upper lower) (counted c)) (counted cells))

-- the node of an index; the bounds are the lower x, y, z, then the upper x, y, z
abbrev pub node_at : List Float → ℕ → (x y z : ℕ) → Point
node_at bounds cells x y z = record {
  x = coordinate (get_or bounds 0 nan) (get_or bounds 3 nan) x cells;
  y = coordinate (get_or bounds 1 nan) (get_or bounds 4 nan) y cells;
  z = coordinate (get_or bounds 2 nan) (get_or bounds 5 nan) z cells;
}

-- node a
abbrev pub node : List Float → ℕ → ℕ → Point
node bounds cells a = node_at bounds cells (along_x (per_side cells) a) (along_y (per_side cells) a) (along_z (per_side cells) a)

-- the first k nodes, three numbers each
unfoldable pub grid : List Float → ℕ → ℕ → List Float
grid bounds cells zero = []
grid bounds cells (suc k) = grid bounds cells k ++ ((node bounds cells k).x ∷ (node bounds cells k).y ∷ (node bounds cells k).z ∷ [])
