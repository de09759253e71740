-- Sides, their order, and lists of them. Definitions only.
use Rattle.std.specs.Prelude.{ℕ, ◌+◌, min, max, ◌≡◌, Bool, true, ◌&&◌, ◌||◌, cond, List, [], ◌∷◌, eqb, ltb}
use Rattle.surface.specs.Closed.{one}

-- the two ends of a side, the smaller corner first
pub record Side : Type 0 where
  pub low : ℕ
  pub high : ℕ

abbrev pub side_of : ℕ → ℕ → Side
side_of u v = record { low = min u v; high = max u v }

abbrev pub same? : Side → Side → Bool
same? s t = eqb s.low t.low && eqb s.high t.high

-- s is smaller than t: by the smaller corner, then by the larger
abbrev pub before? : Side → Side → Bool
before? s t = ltb s.low t.low || (eqb s.low t.low && ltb s.high t.high)

-- how many elements pass the test
unfoldable pub tally : {A : Type 0} → (A → Bool) → List A → ℕ
tally test [] = 0
tally test (x ∷ l) = one (test x) + tally test l

-- how often the side s is in the list
abbrev pub times_in : Side → List Side → ℕ
times_in s l = tally (same? s) l

-- P holds of every element
unfoldable pub Each : {A : Type 0} → (A → Type 0) → List A → Type 0
Each P [] = Unit {0}
Each P (x ∷ l) = P x × Each P l

-- each side is smaller than all later ones
unfoldable pub Ascending : List Side → Type 0
unfolding Each
Ascending [] = Unit {0}
Ascending (s ∷ l) = Each (λ t. before? s t ≡ true) l × Ascending l

-- the side put at its place in a list that rises, once
unfoldable pub insert_side : Side → List Side → List Side
insert_side s [] = s ∷ []
insert_side s (t ∷ l) = cond (before? s t) (s ∷ t ∷ l) (cond (same? s t) (t ∷ l) (t ∷ insert_side s l))

-- the list without a side, and without several
unfoldable pub strike : Side → List Side → List Side
strike s [] = []
strike s (t ∷ l) = cond (same? s t) (strike s l) (t ∷ strike s l)

unfoldable pub strike_all : List Side → List Side → List Side
unfolding strike
strike_all [] l = l
strike_all (s ∷ r) l = strike_all r (strike s l)
