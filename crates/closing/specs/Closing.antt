-- What the judgement of closedness is handed and what it promises: c is the corner list, p the number of points, w the work words before and w' after, r the answer. Definitions only.
use Rattle.std.specs.Prelude.{ℕ, ◌+◌, ◌*◌, ◌/◌, ◌%◌, ◌<◌, ◌≤◌, ◌≡◌, ◌↔◌, Bool, true, List, ◌++◌, length, get_or, drop, replicate}
use Rattle.surface.specs.Triangle.{triangles}
use Rattle.surface.specs.Closed.{Closed}
use Rattle.surface.specs.Finding.{finding}
use Rattle.surface.specs.declared.Finding.{Finding}

-- the work words needed: 32 for each triangle and 16 for each point
abbrev pub needed : List ℕ → ℕ → ℕ
needed c p = 32 * (length c / 3) + 16 * p

-- questions 1 to 3 and 5 are answered: three corner numbers a triangle, at most 32,768 triangles and points, every corner on the list, enough work words
pub record Lent (c : List ℕ) (p : ℕ) (w : List ℕ) : Type 0 where
  pub thirds : length c % 3 ≡ 0
  pub few : length c ≤ 98304
  pub points : p ≤ 32768
  pub below : (k : ℕ) → k < length c → get_or c k 0 < p
  pub room : needed c p ≤ length w

-- the needed words are 0, the further ones untouched
abbrev pub Zeroed : List ℕ → ℕ → List ℕ → List ℕ → Type 0
Zeroed c p w w' = w' ≡ replicate (needed c p) 0 ++ drop (needed c p) w

-- rules (b) and (c), and where they fail
pub record Judgement (c : List ℕ) (p : ℕ) (w w' : List ℕ) (r : Finding) : Type 0 where
  pub answer : r ≡ finding (triangles c)
  pub zeroed : Zeroed c p w w'

-- all four rules
pub record ClosedDecided (c : List ℕ) (p : ℕ) (w w' : List ℕ) (r : Bool) : Type 0 where
  pub decides : (r ≡ true) ↔ Closed (triangles c)
  pub zeroed : Zeroed c p w w'
