-- The steps around a corner, noted in a word for each point. Definitions only.
use Rattle.std.specs.Prelude.{ℕ, ◌+◌, ◌*◌, ◌≤◌, ◌<◌, ◌≡◌, Bool, ◌||◌, cond, List, eqb, length, get_or, set}
use Rattle.surface.specs.Triangle.{Tri}
use Rattle.surface.specs.Closed.{sides, Closed}
use Rattle.surface.specs.Euler.{Below}
use Rattle.surface.specs.Flat.{held}
use Rattle.surface.proofs.Reading.{Has}

-- every corner of the triangle is below k
pub record On (k : ℕ) (t : Tri) : Type 0 where
  pub a : t.a < k
  pub b : t.b < k
  pub c : t.c < k

-- the list of corner numbers has n triangles, which are closed, and their corners are below points
pub record Listed (l : List ℕ) (n points : ℕ) : Type 0 where
  pub room : 3 * n ≤ length l
  pub closed : Closed (held l n)
  pub below : Below points (held l n)
  pub bound : points ≤ 32768

-- the step of a triangle around a: the word of the corner that follows a is one more than the corner after it
abbrev pub noted : ℕ → Tri → List ℕ → List ℕ
noted a t w =
    cond (eqb t.a a) (set w t.b (t.c + 1))
    (cond (eqb t.b a) (set w t.c (t.a + 1))
    (cond (eqb t.c a) (set w t.a (t.b + 1)) w))

-- every step around a is noted, and the other words are 0
pub record Noted (ts : List Tri) (a : ℕ) (w : List ℕ) : Type 0 where
  pub step : (x y : ℕ) → Has a x y ts → get_or w x 0 ≡ y + 1
  pub none : (x : ℕ) → sides ts a x ≡ 0 → get_or w x 0 ≡ 0

-- After the steps around a are noted in words that were w, one for each point: no word is free. The word of each corner to which a triangle runs from a is one more than the corner after it, and every other word is 0.
pub record StepsNoted (ts : List Tri) (a : ℕ) (w w' : List ℕ) : Type 0 where
  pub notes : Noted ts a w'
  pub len : length w' ≡ length w

-- x has no note, or it is c or d
abbrev pub apart_by : List ℕ → ℕ → ℕ → ℕ → Bool
apart_by w c d x = eqb (get_or w x 0) 0 || (eqb x c || eqb x d)
