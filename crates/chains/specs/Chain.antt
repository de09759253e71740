-- The places of a corner in rising order: the chains in work words, and what a walk along one makes of a state. Definitions only.
use Rattle.std.specs.Prelude.{ℕ, zero, suc, ◌+◌, ◌-◌, ◌<◌, ◌≡◌, Bool, true, false, List, eqb, length}
use Rattle.halfedges.specs.Place.{at}

-- one more than the first place of v among the d places from i on, 0 where there is none
abbrev pub first_if : Bool → ℕ → ℕ → ℕ
first_if true i r = suc i
first_if false i r = r

unfoldable pub from : List ℕ → ℕ → ℕ → ℕ → ℕ
from c v i zero = 0
from c v i (suc d) = first_if (eqb (at c i) v) i (from c v (suc i) d)

-- the chains stand in the words from base on: p heads, and a link for each place
pub record Chained (c : List ℕ) (p : ℕ) (w : List ℕ) (base : ℕ) : Type 0 where
  pub heads : (v : ℕ) → v < p → at w (base + v) ≡ from c v 0 (length c)
  pub links : (k : ℕ) → k < length c → at w (base + p + k) ≡ from c (at c k) (suc k) (length c - suc k)

-- what f makes of s at the places of v below i, in rising order
abbrev pub step_if : {S : Type 0} → Bool → (S → S) → S → S
step_if true g s = g s
step_if false g s = s

unfoldable pub walk : {S : Type 0} → (ℕ → S → S) → List ℕ → ℕ → ℕ → S → S
walk f c v zero s = s
walk f c v (suc i) s = step_if (eqb (at c i) v) (f i) (walk f c v i s)
