-- The pair of lists that a program holds, and an entry by its three numbers. Definitions only.
use Rattle.std.specs.Prelude.{ℕ, List, take}
use Rattle.surface.specs.Flat.{held}
use Rattle.history.specs.History.{Pair, Entry}

-- the first n triangles of a list of corner numbers, and the first n labels
abbrev pub pair_of : List ℕ → List ℕ → ℕ → Pair
pair_of l ls n = record { tris = held l n; labels = take n ls }

abbrev pub entry_of : ℕ → ℕ → ℕ → Entry
entry_of k x y = record { kind = k; a = x; b = y }
