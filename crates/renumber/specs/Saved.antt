-- Floats in work words, two to each. Definitions only.
use Rattle.std.specs.Prelude.{ℕ, ◌+◌, ◌*◌, ◌<◌, ◌≤◌, ◌≡◌, List, get_or, Float}
use Rattle.std.specs.Float.{nan}
use Rattle.halfedges.specs.Place.{at}
use Rattle.scores.specs.Words.{Kept}

-- the first n floats stand in the words from `saved` on, and the other words are as they were
pub record Saved (ps : List Float) (w w' : List ℕ) (saved n : ℕ) : Type 0 where
  pub each : (j : ℕ) → j < n → Kept w' (saved + j * 2) (get_or ps j nan)
  pub under : (j : ℕ) → j < saved → at w' j ≡ at w j
  pub over : (j : ℕ) → saved + n * 2 ≤ j → at w' j ≡ at w j
