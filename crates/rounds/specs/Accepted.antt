-- A list of entries that a history accepts, every one, and the pair that it then ends with. Definitions only.
use Rattle.std.specs.Prelude.{ℕ, ◌≡◌, List, map, length}
use Rattle.history.specs.History as history
use Rattle.history.specs.History.{Pair, Entry, in_force, begun, after}

pub record Accepted (capacity : ℕ) (p : Pair) (es : List Entry) (q : Pair) : Type 0 where
  -- every verdict word is 0
  pub verdicts : history.verdicts capacity (begun p) es ≡ map (λ (e : Entry). 0) es
  -- the last pair
  pub last : history.last (after capacity (begun p) es) ≡ q
  -- and every edit is in force
  pub held : in_force (after capacity (begun p) es) ≡ length es
