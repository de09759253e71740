-- Where the next vector begins. Definitions only.
use Rattle.std.specs.Prelude.{ℕ, ◌≤◌, ◌<◌, List, Option, Some, None}
use Rattle.vectors.specs.Words.{count_of}
use Rattle.vectors.specs.declared.Replayed.{Replayed}

-- behind the word k, and in the text or at its end
abbrev pub onward : List ℕ → ℕ → Option Replayed → Type 0
onward text k (Some r) = (k < r.next) × (r.next ≤ count_of text)
onward text k None = Unit {0}
