-- The lists that an edit run is lent, and what it leaves in them (document 01, "Entry and journal"). Definitions only; they compute.
use Rattle.std.specs.Prelude.{ℕ, ◌-◌, ◌/◌, List, [], ◌∷◌, ◌++◌, length, replicate}
use Rattle.surface.specs.Triangle.{triangles, corners}
use Rattle.history.specs.History.{Pair, Entry, Made, History, begun, after, verdicts}

-- the pair lent
abbrev pub lent_pair : List ℕ → List ℕ → Pair
lent_pair corners labels = record { tris = triangles corners; labels = labels }

-- the entries of a list of words, three for each: kind, a, b
unfoldable pub entries : List ℕ → List Entry
entries [] = []
entries (x ∷ []) = []
entries (x ∷ y ∷ []) = []
entries (x ∷ y ∷ z ∷ l) = record { kind = x; a = y; b = z } ∷ entries l

-- the capacity: journal words divided by 12, rounded down
abbrev pub capacity : List ℕ → ℕ
capacity journal = length journal / 12

-- the records in force one after the other, the oldest first
unfoldable pub records : List Made → List ℕ
records [] = []
records (x ∷ l) = records l ++ x.words

-- l, then 0, as long as the list lent
abbrev pub then_zero : List ℕ → List ℕ → List ℕ
then_zero lent l = l ++ replicate (length lent - length l) 0

-- the history of the whole run, and its verdict words
abbrev pub history_of : (corners labels entries journal : List ℕ) → History
history_of corners labels es journal = after (capacity journal) (begun (lent_pair corners labels)) (entries es)

abbrev pub verdicts_of : (corners labels entries journal : List ℕ) → List ℕ
verdicts_of corners labels es journal = verdicts (capacity journal) (begun (lent_pair corners labels)) (entries es)
