-- The corners numbered by first use, each with its point. Definitions only.
use Rattle.std.specs.Prelude.{ℕ, suc, ◌+◌, ◌*◌, ◌/◌, ◌%◌, ◌<◌, ◌≤◌, ◌≡◌, ◌⊎◌, cond, List, [], ltb, length, get_or, take, set, Float}
use Rattle.std.specs.Float.{nan}
use Rattle.halfedges.specs.Place.{at}
use Rattle.rounds.specs.Renumber.{index, met, walk}
use Rattle.oracle.specs.Points.{gathered}
use Rattle.scores.specs.Words.{float_at, Kept, Held}

-- every corner has a point; the points are saved; the words of the new numbers are 0
pub record Numberable (ps : List Float) (c w : List ℕ) (numbers saved : ℕ) : Type 0 where
  pub thirds : length c % 3 ≡ 0
  pub few : length ps ≤ 98304
  pub low : (k : ℕ) → k < length c → at c k * 3 + 2 < length ps
  pub apart : numbers + length ps / 3 ≤ saved
  pub blank : (v : ℕ) → v < length ps / 3 → at w (numbers + v) ≡ 0
  pub kept : (j : ℕ) → j < length ps → Kept w (saved + j * 2) (get_or ps j nan)

-- the word of a corner's new number: one more than its place among those met, and 0 where it is not met
abbrev pub noted : List ℕ → ℕ → ℕ
noted seen v = cond (ltb (index seen v) (length seen)) (suc (index seen v)) 0

-- r corners are met, and in that order they have the first points; the points behind these are free. Each word of the new numbers holds its corner's, and all other words are as they were. The lists keep their lengths.
pub record Numbered (ps : List Float) (c w : List ℕ) (ps' : List Float) (c' w' : List ℕ) (numbers r : ℕ) : Type 0 where
  pub corners : c' ≡ walk [] c
  pub count : r ≡ length (met [] c)
  pub fits : r * 3 ≤ length ps
  pub points : take (r * 3) ps' ≡ gathered ps (met [] c)
  pub notes : (v : ℕ) → v < length ps / 3 → at w' (numbers + v) ≡ noted (met [] c) v
  pub others : (j : ℕ) → (j < numbers) ⊎ (numbers + length ps / 3 ≤ j) → at w' j ≡ at w j
  pub lengths : (length ps' ≡ length ps) × (length c' ≡ length c) × (length w' ≡ length w)

-- point q becomes the saved point v
abbrev pub loaded : List Float → List ℕ → ℕ → ℕ → ℕ → List Float
loaded ps w saved v q = set (set (set ps (q * 3) (float_at w (saved + v * 6))) (q * 3 + 1) (float_at w (saved + v * 6 + 2))) (q * 3 + 2) (float_at w (saved + v * 6 + 4))

-- the three floats are there, and the point is
pub record Loadable (ps : List Float) (w : List ℕ) (saved v q : ℕ) : Type 0 where
  pub first : Held w (saved + v * 6)
  pub second : Held w (saved + v * 6 + 2)
  pub third : Held w (saved + v * 6 + 4)
  pub room : q * 3 + 2 < length ps

-- the corner at k has a word for its number; where that is 0, its point can be loaded as the point q
pub record Meetable (ps : List Float) (c w : List ℕ) (numbers saved k q : ℕ) : Type 0 where
  pub here : k < length c
  pub there : numbers + at c k < length w
  pub fresh : at w (numbers + at c k) ≡ 0 → Loadable ps w saved (at c k) q × (q < 32768)

-- The corner at k gets its number: the word holds one more than it; where the word is 0 it is the next one, q, and the point goes with it.
pub data Met (ps : List Float) (c w : List ℕ) (ps' : List Float) (c' w' : List ℕ) (numbers saved k q r : ℕ) : Type 0 where
  old : (x : ℕ) → suc x ≡ at w (numbers + at c k) → c' ≡ set c k x → ps' ≡ ps → w' ≡ w → r ≡ q → Met ps c w ps' c' w' numbers saved k q r
  new : at w (numbers + at c k) ≡ 0 → c' ≡ set c k q → ps' ≡ loaded ps w saved (at c k) q → w' ≡ set w (numbers + at c k) (q + 1) → r ≡ q + 1 → Met ps c w ps' c' w' numbers saved k q r
