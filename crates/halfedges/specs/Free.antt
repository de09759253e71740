-- How a contract names words that it leaves free. Definitions only.
use Rattle.std.specs.Prelude.{ℕ, ◌<◌, ◌≤◌, ◌≡◌, List, length}
use Rattle.halfedges.specs.Place.{at}

-- The words w have become w', of which the words from lo up to hi, hi left out, are free: what they hold is work space, unless the contract says it beside this. All others are as they were, and none is added or lost.
pub record Free (lo hi : ℕ) (w w' : List ℕ) : Type 0 where
  pub len : length w' ≡ length w
  pub under : (j : ℕ) → j < lo → at w' j ≡ at w j
  pub over : (j : ℕ) → hi ≤ j → at w' j ≡ at w j
