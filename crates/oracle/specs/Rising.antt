-- The sides of a list of triangles in rising order: each once, by its smaller corner and then by its larger one. Definitions only.
use Rattle.std.specs.Prelude.{ℕ, zero, suc, ◌+◌, Bool, ◌&&◌, cond, List, [], ◌∷◌, ◌++◌, ltb}
use Rattle.surface.specs.Triangle.{Tri}
use Rattle.surface.specs.Closed.{sides}
use Rattle.rounds.specs.Choices.{Side}

abbrev pub side : ℕ → ℕ → Side
side a b = record { one = a; two = b }

-- a triangle runs from a to b, or from b to a
abbrev pub joined : List Tri → ℕ → ℕ → Bool
joined ts a b = ltb 0 (sides ts a b + sides ts b a)

-- the sides of a to the d corners from b on, where a is the smaller
unfoldable pub row_of : List Tri → ℕ → ℕ → ℕ → List Side
unfolding sides
row_of ts a b zero = []
row_of ts a b (suc d) = cond (ltb a b && joined ts a b) (side a b ∷ row_of ts a (suc b) d) (row_of ts a (suc b) d)

-- the rows of the d corners from a on
unfoldable pub rows_of : List Tri → ℕ → ℕ → ℕ → List Side
unfolding row_of
rows_of ts n a zero = []
rows_of ts n a (suc d) = row_of ts a 0 n ++ rows_of ts n (suc a) d

-- the sides of a list whose corners are below n
abbrev pub rising : List Tri → ℕ → List Side
rising ts n = rows_of ts n 0 n
