-- A float in two work words: its bits, the high half first. A NaN stands there as the one NaN of the logic. Definitions only.
use Rattle.std.specs.Prelude.{ℕ, ◌+◌, ◌*◌, ◌/◌, ◌%◌, ◌<◌, ◌≡◌, List, T, length, set, Float}
use Rattle.std.specs.Float.{binary64}
use Rattle.std.specs.Float.Ieee.{to_bits, of_bits, fits}
use Rattle.halfedges.specs.Place.{at}

-- the two halves of its bits
abbrev pub high : Float → ℕ
high x = to_bits binary64 x / 4294967296

abbrev pub low : Float → ℕ
low x = to_bits binary64 x % 4294967296

-- the words with x from i on
abbrev pub put_at : List ℕ → ℕ → Float → List ℕ
put_at w i x = set (set w i (high x)) (i + 1) (low x)

-- the float that the two words from i on have the bits of
abbrev pub float_at : List ℕ → ℕ → Float
float_at w i = of_bits binary64 (at w i * 4294967296 + at w (i + 1))

-- x stands in the two words from i on
pub record Kept (w : List ℕ) (i : ℕ) (x : Float) : Type 0 where
  pub room : i + 1 < length w
  pub fit : T (fits binary64 x)
  pub first : at w i ≡ high x
  pub second : at w (i + 1) ≡ low x

-- some float stands there
pub record Held (w : List ℕ) (i : ℕ) : Type 0 where
  pub value : Float
  pub kept : Kept w i value
